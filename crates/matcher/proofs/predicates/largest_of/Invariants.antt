-- `predicates::largest_of` meets its contract. The invariant of the loop: the largest of the positions so far. Assumes nothing.
use Prim.Native.Nat.{◌+◌}
use Rattle.matcher.specs.Inner.Shortfall.{Largest}
use Rattle.matcher.proofs.predicates.largest_of.Given as goal

abbrev pub invariant-loop-p : goal.invariant-loop-p
invariant-loop-p l = Largest l.positions (l.p-index + 1) l.largest
