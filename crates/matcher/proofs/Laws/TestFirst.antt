-- Testing positions answers the first refusal that applies. No contract cites this file.
--     out_of_range_decides       what the test of 17 decides
--     test-sound, test-first     the answer is the first refusal that applies
-- Assumes nothing.
use Prim.Native.Nat.{ℕ, ◌<◌, ◌≤◌}
use native.Mathlib.Omega.{arith}
use mathlib.Core.Path.{◌≡◌, refl}
use mathlib.Core.Bool.{Bool, not, cond}
use mathlib.Core.Logic.{◌⊎◌, inl, inr, ⊎_elim, ◌≢◌}
use mathlib.Core.List.{List, [], ◌∷◌}
use lib.ListN.{length, get_or}
use lib.Dec.{leb}
use borrow.Author.Tests.{leb-true, leb-false, not-true, not-false}
use Rattle.seq.specs.Lists.{elem, all}
use Rattle.seq.specs.Refusals.{Said, refused, answered, stage_in, FirstRefusal}
use Rattle.seq.proofs.Laws.Lists.{all-each}
use Rattle.seq.proofs.Laws.Keep.{all-fails}
use Rattle.seq.proofs.Laws.Refusals.{Sound, end, first-refusal}
use Rattle.seq.proofs.Laws.Decides.{Decides, not_decides, eqb_decides, leb_decides, ltb_decides, or_decides}
use Rattle.seq.proofs.Laws.Ladder.{Clear, single}
use Rattle.seq.proofs.Laws.Stages.{Over, over-clear, over-refused}
use Rattle.volume.specs.Layout.{lists_of}
use Rattle.plan.specs.Check.{sizes, verdict}
use Rattle.plan.specs.Accepted.{pattern_at}
use Rattle.plan.specs.Refusals.{PlanApplies, plan_stages}
use Rattle.plan.proofs.Laws.CheckFirst.{check_sound}
use Rattle.fulltext.specs.Matches.{matches_at}
use Rattle.matcher.specs.Testing.{out_of_range, test_by, test_answer}
use Rattle.matcher.specs.Refusals.{TestApplies, of_plan, no_pattern, wrong_number, wrong_doc, wrong_pos, test_stages}
use Rattle.plan.proofs.Laws.Stages.{plan-stage}

-- a position is over 65,535
abbrev Over16 : List ℕ → Type 0
Over16 ps = (i : ℕ) × (i < length ps) × (65535 < get_or ps i 0)

over16_decides : (ps : List ℕ) → Decides (not (all (λ q. leb q 65535) ps)) (Over16 ps)
over16_decides ps = record {
  yes = λ e. let w = all-fails (λ q. leb q 65535) 0 ps (not-true (all (λ q. leb q 65535) ps) e) in (w.0, w.1, leb-false (get_or ps w.0 0) 65535 w.2);
  no = λ e w. let h : get_or ps w.0 0 ≤ 65535 = leb-true (get_or ps w.0 0) 65535 ((all-each (λ q. leb q 65535) 0 ps).0 (not-false (all (λ q. leb q 65535) ps) e) w.0 w.1) in omega (arith, w.2);
}

module _ (v p : List ℕ) (k d : ℕ) (ps : List ℕ) where
  -- what 17 says
  abbrev OutOfRange : Type 0
  OutOfRange = ((sizes p).patterns ≤ k) ⊎ ((length ps ≢ length (pattern_at p k).vars) ⊎ ((65535 < d) ⊎ Over16 ps))

  out_of_range_decides : Decides (out_of_range (sizes p).patterns k (pattern_at p k) d ps) OutOfRange
  unfolding out_of_range
  out_of_range_decides =
      or_decides (leb_decides (sizes p).patterns k)
      (or_decides (not_decides (eqb_decides (length ps) (length (pattern_at p k).vars))) (or_decides (ltb_decides 65535 d) (over16_decides ps)))

  make : OutOfRange → TestApplies v p k d ps 17 0
  make w =
      ⊎_elim (λ h. no_pattern h) (⊎_elim (λ (h : length ps ≢ length (pattern_at p k).vars). wrong_number h) (⊎_elim (λ (h : 65535 < d). wrong_doc h) (λ (h : Over16 ps). wrong_pos h.0 h.1 h.2))) w

  -- what a refusal of the call says, by its number and place
  of_call : (m q : ℕ) → TestApplies v p k d ps m q → PlanApplies v p m q ⊎ ((m ≡ 17) × ((q ≡ 0) × OutOfRange))
  of_call m q (of_plan n i a) = inl a
  of_call m q (no_pattern h) = inr (refl, (refl, inl h))
  of_call m q (wrong_number h) = inr (refl, (refl, inr (inl h)))
  of_call m q (wrong_doc h) = inr (refl, (refl, inr (inr (inl h))))
  of_call m q (wrong_pos i l h) = inr (refl, (refl, inr (inr (inr (i, l, h)))))

  -- the refusals of the volume and the plan, then 17
  over : Over plan_stages ((17 ∷ []) ∷ []) (PlanApplies v p) (TestApplies v p k d ps)
  unfolding stage_in elem
  over = record {
    early = λ m q a. let h = plan-stage v p m q a in omega arith;
    joins = λ m q a. of_plan m q a;
    splits = λ m q x. ⊎_elim (λ a. inl a) (λ w. inr (rw w.0 (omega arith))) (of_call m q x);
  }

  -- what is answered where nothing is refused, and a sound answer of this call
  abbrev match : Bool
  match = matches_at (lists_of v) d (pattern_at p k) ps

  abbrev IsSound : Said Bool → Type 0
  IsSound said = Sound (stage_in test_stages) (TestApplies v p k d ps) match said

  -- the rung behind an accepted volume and plan
  from-range : ((n q : ℕ) → PlanApplies v p n q → ⊥) → IsSound (cond (out_of_range (sizes p).patterns k (pattern_at p k) d ps) (refused 17 0) (answered match))
  unfolding stage_in elem
  from-range none =
      single (stage_in test_stages) (TestApplies v p k d ps) match (out_of_range (sizes p).patterns k (pattern_at p k) d ps) 17 _ _ out_of_range_decides make (over-clear _ _ _ _ over none)
      (λ m q a e. ⊎_elim (λ w. absurd (none m q w)) (λ w. w) (of_call m q a))
      (λ c. end (stage_in test_stages) (TestApplies v p k d ps) match (last c))
    where
      last : Clear (stage_in test_stages) (TestApplies v p k d ps) 11 → (m q : ℕ) → TestApplies v p k d ps m q → ⊥
      last c m q a = let h = c m q a in ⊎_elim (none m q) (λ w. let z : 11 ≤ 10 = rw w.0 at h in omega arith) (of_call m q a)

  -- the whole ladder
  pub test-sound : IsSound (test_answer v p k d ps)
  unfolding test_answer
  test-sound = ⊎_elim accepted refusal (check_sound v p).total
    where
      accepted : verdict v p ≡ answered (sizes p) → IsSound (test_by (verdict v p) k (pattern_at p k) d ps match)
      accepted e = rw e (from-range ((check_sound v p).clear e))

      refusal : ((n : ℕ) × (q : ℕ) × (verdict v p ≡ refused n q)) → IsSound (test_by (verdict v p) k (pattern_at p k) d ps match)
      refusal w = rw w.2 (over-refused _ _ _ _ over (sizes p) match w.0 w.1 (verdict v p) (check_sound v p) w.2)

  pub test-first : FirstRefusal (stage_in test_stages) (TestApplies v p k d ps) match (test_answer v p k d ps)
  test-first = first-refusal (stage_in test_stages) (TestApplies v p k d ps) match (test_answer v p k d ps) test-sound
