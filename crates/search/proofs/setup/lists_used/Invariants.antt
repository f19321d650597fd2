-- `setup::lists_used` meets its contract. The invariants: of the outer loop, `used` is the least number above the lists of the patterns in
-- front; of the inner loop, above those of the first i variables of the pattern too. Assumes nothing.
use Prim.Native.Nat.{◌+◌}
use Rattle.plan.specs.Inner.Outline.{vars_before}
use Rattle.search.specs.Inner.Setup.{ListsUsed}
use Rattle.search.proofs.setup.lists_used.Given as goal

abbrev pub invariant-loop-i : goal.invariant-loop-i
invariant-loop-i l = ListsUsed l.query.plan.now (vars_before l.query.plan.now l.outline-index + l.i) l.used

abbrev pub invariant-loop-outline : goal.invariant-loop-outline
invariant-loop-outline l = ListsUsed l.query.plan.now (vars_before l.query.plan.now l.outline-index) l.used
