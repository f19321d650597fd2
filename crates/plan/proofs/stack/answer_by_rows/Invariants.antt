-- `stack::answer_by_rows` meets its contract. The loop's invariant: in front of row i the stack has the bits of the answers, and the bits left are
-- those of the patterns to come. The measure is what is left of the rows. Assumes nothing.
use Rattle.plan.proofs.Laws.Stack.{Reading}
use Rattle.plan.proofs.stack.answer_by_rows.Given as goal

abbrev pub invariant-loop-i : goal.invariant-loop-i
invariant-loop-i l = Reading l.plan l.bits l.stack l.rest l.i
