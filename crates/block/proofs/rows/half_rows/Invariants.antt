-- `rows::half_rows` meets its contract. The loop's invariant is `Eights` at i, from the seven rows in front. Assumes nothing.
use Rattle.block.specs.Inner.Sums.{Eights}
use Rattle.block.proofs.rows.half_rows.Given as goal

abbrev pub invariant-loop-i : goal.invariant-loop-i
invariant-loop-i l = Eights l.s 4 l.i (record { all = l.all; near = l.near; far = l.far })
