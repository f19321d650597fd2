-- Writing a line answers the first refusal that applies. No contract cites this file.
--     write-sound, write-first     the answer is the first refusal that applies
--     write_call                   and what becomes of the buffer
-- Assumes nothing.
use Prim.Native.Nat.{ℕ, ◌<◌, ◌≤◌}
use native.Mathlib.Omega.{arith}
use mathlib.Core.Path.{◌≡◌, refl}
use mathlib.Core.Bool.{cond}
use mathlib.Core.Logic.{◌⊎◌, inl, inr, ⊎_elim}
use mathlib.Core.List.{List, [], ◌∷◌}
use lib.ListN.{length}
use lib.Dec.{ltb}
use Rattle.seq.specs.Lists.{elem}
use Rattle.seq.specs.Refusals.{Said, refused, answered, stage_in, FirstRefusal}
use Rattle.seq.proofs.Laws.Refusals.{Sound, end, first-refusal, laid-refused, laid-answered}
use Rattle.seq.proofs.Laws.Decides.{ltb_decides}
use Rattle.seq.proofs.Laws.Ladder.{Clear, single}
use Rattle.seq.proofs.Laws.Stages.{Over, over-clear, over-refused}
use Rattle.plan.specs.Check.{sizes, verdict}
use Rattle.plan.specs.Refusals.{PlanApplies, plan_stages}
use Rattle.plan.proofs.Laws.CheckFirst.{check_sound}
use Rattle.plan.proofs.Laws.Stages.{plan-stage}
use Rattle.grammar.specs.Query.{plan_text}
use Rattle.printer.specs.Refusals.{WriteApplies, of_plan, short_line, write_stages}
use Rattle.printer.specs.Write.{write_by, write_answer, write_out}
use Rattle.printer.specs.Demands.{WriteCall}

module _ (v p : List ℕ) (room : ℕ) where
  -- what a refusal of the call says, by its number and place
  of_call : (m q : ℕ) → WriteApplies v p room m q → PlanApplies v p m q ⊎ ((m ≡ 16) × ((q ≡ 0) × (room < length (plan_text p))))
  of_call m q (of_plan n i a) = inl a
  of_call m q (short_line h) = inr (refl, (refl, h))

  -- the refusals of the volume and the plan, then 16
  over : Over plan_stages ((16 ∷ []) ∷ []) (PlanApplies v p) (WriteApplies v p room)
  unfolding stage_in elem
  over = record {
    early = λ m q a. let h = plan-stage v p m q a in omega arith;
    joins = λ m q a. of_plan m q a;
    splits = λ m q x. ⊎_elim (λ a. inl a) (λ w. inr (rw w.0 (omega arith))) (of_call m q x);
  }

  abbrev IsSound : Said ℕ → Type 0
  IsSound said = Sound (stage_in write_stages) (WriteApplies v p room) (length (plan_text p)) said

  -- the rung behind an accepted volume and plan
  from-short : ((n q : ℕ) → PlanApplies v p n q → ⊥) → IsSound (cond (ltb room (length (plan_text p))) (refused 16 0) (answered (length (plan_text p))))
  unfolding stage_in elem
  from-short none =
      single (stage_in write_stages) (WriteApplies v p room) (length (plan_text p)) (ltb room (length (plan_text p))) 16 _ _
      (ltb_decides room (length (plan_text p))) short_line (over-clear _ _ _ _ over none)
      (λ m q a e. ⊎_elim (λ w. absurd (none m q w)) (λ w. w) (of_call m q a))
      (λ c. end (stage_in write_stages) (WriteApplies v p room) (length (plan_text p)) (last c))
    where
      last : Clear (stage_in write_stages) (WriteApplies v p room) 11 → (m q : ℕ) → WriteApplies v p room m q → ⊥
      last c m q a = let h = c m q a in ⊎_elim (none m q) (λ w. let z : 11 ≤ 10 = rw w.0 at h in omega arith) (of_call m q a)

  write-sound : IsSound (write_answer v p room)
  unfolding write_answer
  write-sound = ⊎_elim accepted refusal (check_sound v p).total
    where
      accepted : verdict v p ≡ answered (sizes p) → IsSound (write_by (verdict v p) (plan_text p) room)
      accepted e = rw e (from-short ((check_sound v p).clear e))

      refusal : ((n : ℕ) × (q : ℕ) × (verdict v p ≡ refused n q)) → IsSound (write_by (verdict v p) (plan_text p) room)
      refusal w = rw w.2 (over-refused _ _ _ _ over (sizes p) (length (plan_text p)) w.0 w.1 (verdict v p) (check_sound v p) w.2)

  write-first : FirstRefusal (stage_in write_stages) (WriteApplies v p room) (length (plan_text p)) (write_answer v p room)
  write-first = first-refusal (stage_in write_stages) (WriteApplies v p room) (length (plan_text p)) (write_answer v p room) write-sound

pub write_call : (v p out : List ℕ) → WriteCall v p out
unfolding write_out
write_call v p out = record {
  first = write-first v p (length out);
  kept = λ n q e. laid-refused (write_answer v p (length out)) n q (plan_text p) out e;
  laid = λ n e. laid-answered (write_answer v p (length out)) n (plan_text p) out e;
}
