-- The refusals of listing, by their numbers. No contract cites this file.
-- Assumes nothing.
use Prim.Native.Nat.{ℕ, ◌≤◌}
use native.Mathlib.Omega.{arith}
use mathlib.Core.List.{List}
use Rattle.search.specs.Refusals as search
use Rattle.plan.proofs.Laws.Stages.{plan-number}

module _ (v p : List ℕ) where
  pub list-number : (start room n q : ℕ) → search.ListApplies v p start room n q → (1 ≤ n) × (n ≤ 16)
  list-number start room n q (search.of_plan m i a) = let h = plan-number v p n q a in (h.0, omega (arith, h.1))
  list-number start room n q (search.wrong_start h) = (omega arith, omega arith)
  list-number start room n q (search.short h) = (omega arith, omega arith)
