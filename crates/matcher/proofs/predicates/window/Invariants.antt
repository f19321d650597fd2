-- The invariant of the loop: the variables of the order that were looked at stand near enough to the largest. Assumes nothing.
use Prim.Native.Nat.{ℕ, ◌-◌, ◌<◌, ◌≤◌}
use lib.ListN.{get_or}
use Rattle.fulltext.specs.Calculus.{at}
use Rattle.matcher.proofs.predicates.window.Given as goal

abbrev pub invariant-loop-x : goal.invariant-loop-x
invariant-loop-x l = (t : ℕ) → t < l.x-index → l.largest - (l.limit - 1) ≤ at l.positions (get_or l.order t 0)
