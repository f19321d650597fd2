-- `setup::set_cursors` meets its contract. The invariants: of the outer loop, the variables of the patterns in front have their cursors; of
-- the inner loop, so have the first i of the pattern. Assumes nothing.
use Prim.Native.Nat.{◌+◌}
use lib.ListN.{length}
use Rattle.plan.specs.Inner.Outline.{vars_before}
use Rattle.matcher.specs.Inner.Cursors.{ats_of, ends_of}
use Rattle.matcher.proofs.Laws.Placed.{Placing}
use Rattle.search.proofs.setup.set_cursors.Given as goal

abbrev pub invariant-loop-i : goal.invariant-loop-i
invariant-loop-i l = Placing l.query.volume.bytes.now l.query.plan.now l.start (length (ats_of l.initial.cursors)) (length (ends_of l.initial.cursors)) (ats_of l.cursors) (ends_of l.cursors) (vars_before l.query.plan.now l.outline-index + l.i)

abbrev pub invariant-loop-outline : goal.invariant-loop-outline
invariant-loop-outline l = Placing l.query.volume.bytes.now l.query.plan.now l.start (length (ats_of l.initial.cursors)) (length (ends_of l.initial.cursors)) (ats_of l.cursors) (ends_of l.cursors) (vars_before l.query.plan.now l.outline-index)
