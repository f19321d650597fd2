-- The refusals of writing matches, by their numbers: they are 1 to 17. No contract cites this file. Assumes nothing.
use Prim.Native.Nat.{ℕ, ◌≤◌}
use native.Mathlib.Omega.{arith}
use mathlib.Core.List.{List}
use Rattle.matcher.specs.Refusals.{of_plan, no_pattern, wrong_number, wrong_doc, wrong_pos}
use Rattle.plan.proofs.Laws.Stages.{plan-number}
use Rattle.enumeration.specs.Refusals.{MatchesApplies, of_tuple, short}

module _ (v p : List ℕ) (k d : ℕ) (from : List ℕ) (room : ℕ) where
  pub matches-number : (n q : ℕ) → MatchesApplies v p k d from room n q → (1 ≤ n) × (n ≤ 17)
  matches-number n q (of_tuple m i (of_plan a b c)) = let h = plan-number v p n q c in (h.0, omega (arith, h.1))
  matches-number n q (of_tuple m i (no_pattern h)) = (omega arith, omega arith)
  matches-number n q (of_tuple m i (wrong_number h)) = (omega arith, omega arith)
  matches-number n q (of_tuple m i (wrong_doc h)) = (omega arith, omega arith)
  matches-number n q (of_tuple m i (wrong_pos j l h)) = (omega arith, omega arith)
  matches-number n q (short h) = (omega arith, omega arith)
