-- The refusals of testing, by their numbers. No contract cites this file.
--     test-stage      they have the first eleven stages
-- Assumes nothing.
use Prim.Native.Nat.{ℕ, ◌≤◌}
use native.Mathlib.Omega.{arith}
use mathlib.Core.List.{List, [], ◌∷◌}
use Rattle.seq.specs.Lists.{elem}
use Rattle.seq.specs.Refusals.{stage_in}
use Rattle.seq.proofs.Laws.Stages.{stage-front}
use Rattle.plan.specs.Refusals.{plan_stages}
use Rattle.plan.proofs.Laws.Stages.{plan-stage}
use Rattle.matcher.specs.Refusals.{TestApplies, of_plan, no_pattern, wrong_number, wrong_doc, wrong_pos, test_stages}

pub test-stage : (v p : List ℕ) (k d : ℕ) (ps : List ℕ) (n q : ℕ) → TestApplies v p k d ps n q → stage_in test_stages n ≤ 10
unfolding stage_in elem
test-stage v p k d ps n q (of_plan m i a) =
    let h = plan-stage v p n q a in
    let e = stage-front plan_stages ((17 ∷ []) ∷ []) n (omega arith) in
    omega arith
test-stage v p k d ps n q (no_pattern h) = omega arith
test-stage v p k d ps n q (wrong_number h) = omega arith
test-stage v p k d ps n q (wrong_doc h) = omega arith
test-stage v p k d ps n q (wrong_pos i l h) = omega arith
