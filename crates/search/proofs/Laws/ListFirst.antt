-- Listing answers the first refusal that applies. No contract cites this file.
--     list-sound, list-first     the answer is the first refusal that applies
--     list_call                  and what becomes of the buffer
-- Assumes nothing.
use Prim.Native.Nat.{ℕ, ◌/◌, ◌<◌, ◌≤◌}
use native.Mathlib.Omega.{arith}
use mathlib.Core.Path.{◌≡◌, refl}
use mathlib.Core.Bool.{cond}
use mathlib.Core.Logic.{◌⊎◌, inl, inr, ⊎_elim}
use mathlib.Core.List.{List, [], ◌∷◌}
use lib.ListN.{length}
use lib.Dec.{ltb}
use Rattle.seq.specs.Lists.{elem}
use Rattle.seq.specs.Refusals.{Said, refused, answered, stage_in, FirstRefusal}
use Rattle.seq.proofs.Laws.Refusals.{Sound, end, first-refusal}
use Rattle.seq.proofs.Laws.Decides.{ltb_decides}
use Rattle.seq.proofs.Laws.Ladder.{Clear, single}
use Rattle.seq.proofs.Laws.Stages.{Over, over-clear, over-refused}
use Rattle.plan.specs.Check.{sizes, verdict}
use Rattle.plan.specs.Refusals.{PlanApplies, plan_stages}
use Rattle.plan.proofs.Laws.CheckFirst.{check_sound}
use Rattle.search.specs.Answers.{Page}
use Rattle.search.specs.Listing.{page_of, list_by, list_answer}
use Rattle.fulltext.specs.Documents.{work}
use Rattle.search.specs.Refusals.{ListApplies, of_plan, wrong_start, short, list_stages}
use Rattle.search.specs.Demands.{ListCall}
use Rattle.plan.proofs.Laws.Stages.{plan-stage}
use Rattle.search.proofs.Laws.Listing.{out-refused, out-answered}

module _ (v p : List ℕ) (start room : ℕ) where
  -- what a refusal of the call says, by its number and place
  abbrev OfCall : ℕ → ℕ → Type 0
  OfCall m q = PlanApplies v p m q ⊎ (((m ≡ 15) × ((q ≡ 0) × (65535 < start))) ⊎ ((m ≡ 16) × ((q ≡ 0) × (room < (work v p).width))))

  of_call : (m q : ℕ) → ListApplies v p start room m q → OfCall m q
  of_call m q (of_plan n i a) = inl a
  of_call m q (wrong_start h) = inr (inl (refl, (refl, h)))
  of_call m q (short h) = inr (inr (refl, (refl, h)))

  -- the refusals of the volume and the plan, then 15 and 16
  over : Over plan_stages ((15 ∷ []) ∷ (16 ∷ []) ∷ []) (PlanApplies v p) (ListApplies v p start room)
  unfolding stage_in elem
  over = record {
    early = λ m q a. let h = plan-stage v p m q a in omega arith;
    joins = λ m q a. of_plan m q a;
    splits = λ m q x.
        ⊎_elim (λ a. inl a) (⊎_elim (λ (w : (m ≡ 15) × ((q ≡ 0) × (65535 < start))). inr (rw w.0 (omega arith))) (λ w. inr (rw w.0 (omega arith)))) (of_call m q x);
  }

  -- what is answered where nothing is refused, and a sound answer of this call
  abbrev page : Page
  page = page_of (work v p) start (room / (work v p).width)

  abbrev IsSound : Said Page → Type 0
  IsSound said = Sound (stage_in list_stages) (ListApplies v p start room) page said

  -- the rungs behind an accepted volume and plan
  from_start : ((n q : ℕ) → PlanApplies v p n q → ⊥) → IsSound (cond (ltb 65535 start) (refused 15 0) (cond (ltb room (work v p).width) (refused 16 0) (answered page)))
  unfolding stage_in elem
  from_start none =
      single (stage_in list_stages) (ListApplies v p start room) page (ltb 65535 start) 15 _ _ (ltb_decides 65535 start) wrong_start (over-clear _ _ _ _ over none) fifteen
      (λ c. single (stage_in list_stages) (ListApplies v p start room) page (ltb room (work v p).width) 16 _ _ (ltb_decides room (work v p).width) short c sixteen
      (λ d. end (stage_in list_stages) (ListApplies v p start room) page (last d)))
    where
      fifteen : (m q : ℕ) → ListApplies v p start room m q → stage_in list_stages m ≡ 10 → (m ≡ 15) × ((q ≡ 0) × (65535 < start))
      fifteen m q a e = ⊎_elim (λ w. absurd (none m q w)) (⊎_elim (λ w. w) (λ w. let z : 11 ≡ 10 = rw w.0 at e in absurd (omega arith))) (of_call m q a)

      sixteen : (m q : ℕ) → ListApplies v p start room m q → stage_in list_stages m ≡ 11 → (m ≡ 16) × ((q ≡ 0) × (room < (work v p).width))
      sixteen m q a e = ⊎_elim (λ w. absurd (none m q w)) (⊎_elim (λ w. let z : 10 ≡ 11 = rw w.0 at e in absurd (omega arith)) (λ w. w)) (of_call m q a)

      last : Clear (stage_in list_stages) (ListApplies v p start room) 12 → (m q : ℕ) → ListApplies v p start room m q → ⊥
      last d m q a =
          let h = d m q a in
          ⊎_elim (none m q) (⊎_elim (λ w. let z : 12 ≤ 10 = rw w.0 at h in omega arith) (λ w. let z : 12 ≤ 11 = rw w.0 at h in omega arith)) (of_call m q a)

  -- the whole ladder
  pub list-sound : IsSound (list_answer v p start room)
  unfolding list_answer
  list-sound = ⊎_elim accepted refusal (check_sound v p).total
    where
      accepted : verdict v p ≡ answered (sizes p) → IsSound (list_by (verdict v p) (work v p) start room)
      accepted e = rw e (from_start ((check_sound v p).clear e))

      refusal : ((n : ℕ) × (q : ℕ) × (verdict v p ≡ refused n q)) → IsSound (list_by (verdict v p) (work v p) start room)
      refusal w = rw w.2 (over-refused _ _ _ _ over (sizes p) page w.0 w.1 (verdict v p) (check_sound v p) w.2)

  list-first : FirstRefusal (stage_in list_stages) (ListApplies v p start room) page (list_answer v p start room)
  list-first = first-refusal (stage_in list_stages) (ListApplies v p start room) page (list_answer v p start room) list-sound

pub list_call : (v p : List ℕ) (start : ℕ) (out : List ℕ) → ListCall v p start out
list_call v p start out = record { first = list-first v p start (length out); kept = out-refused v p start out; laid = out-answered v p start out }
