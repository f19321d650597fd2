use native.Mathlib.Omega.{arith}
use mathlib.Core.Path.{◌≡◌}
use Rattle.block.proofs.Laws.Sums.{rows-first, rows_again, rows-room-more, rows-room-near}
use Rattle.block.proofs.rows.rows_at.Goals as goal

pub loop-j-init : goal.loop-j-init
loop-j-init c = rows-first

pub plus-near-requires : goal.plus-near-requires
plus-near-requires c = rows-room-near c.loop-j.invariant (omega arith) c.requires.at_most

pub plus-more-requires : goal.plus-more-requires
plus-more-requires c = rows-room-more c.loop-j.invariant (omega arith) c.row_at.ensures.at_most

pub loop-j-preserved : goal.loop-j-preserved
loop-j-preserved c =
    let row = c.row_at.ensures in
    rows_again c.loop-j.invariant row.value row.at_most c.plus-near.ensures c.plus-more.ensures (omega arith)

pub returns : goal.returns
returns c = let e : c.loop-j.j ≡ c.args.n = omega arith in rw e at c.loop-j.invariant
