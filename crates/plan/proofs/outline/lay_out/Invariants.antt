-- `outline::lay_out` meets its contract. The loop's invariant: the entries of the first patterns are laid out, and they have `first` variables.
-- Assumes nothing.
use lib.ListN.{length}
use Rattle.plan.proofs.Laws.Outline.{Laid}
use Rattle.plan.proofs.outline.lay_out.Given as goal

abbrev pub invariant-loop-pattern : goal.invariant-loop-pattern
invariant-loop-pattern l = Laid l.plan (length l.initial.table) l.table l.first l.pattern
