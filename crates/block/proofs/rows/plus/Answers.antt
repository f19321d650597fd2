use Prim.Native.Nat.{◌+◌}
use Rattle.block.specs.Inner.Sums.{column, plus}
use Rattle.block.proofs.Laws.Sums.{row_is}
use Rattle.block.proofs.rows.plus.Goals as goal
use native.Mathlib.Omega.{arith}

pub returns : goal.returns
unfolding plus
returns c =
    let x = c.args.x in
    let y = c.args.y in
    row_is (λ k. column x k + column y k) c.loop-c.row c.loop-c.invariant.0 (λ k h. c.loop-c.invariant.1 k (omega arith))
