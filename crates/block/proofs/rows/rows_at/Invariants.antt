-- `rows::rows_at` meets its contract. The loop's invariant is `Rows` at j, from the rows so far. Assumes nothing.
use Rattle.block.specs.Inner.Sums.{Rows}
use Rattle.block.proofs.rows.rows_at.Given as goal

abbrev pub invariant-loop-j : goal.invariant-loop-j
invariant-loop-j l = Rows l.s l.at l.initial.near l.j l.more l.near
