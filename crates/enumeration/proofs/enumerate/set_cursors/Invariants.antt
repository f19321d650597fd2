-- The first x variables have their cursors (`Placing`).
use Rattle.plan.specs.Accepted.{pattern_at}
use Rattle.enumeration.proofs.Laws.Placing.{Placing}
use Rattle.enumeration.proofs.enumerate.set_cursors.Given as goal

abbrev pub invariant-loop-x : goal.invariant-loop-x
invariant-loop-x l = Placing l.query.volume.bytes.now (pattern_at l.query.plan.now l.fn.outline.pattern) l.doc l.initial.cursors l.cursors l.x
