use Rattle.block.specs.Inner.Sums.{column, tilted}
use Rattle.block.proofs.Laws.Sums.{row_is}
use Rattle.block.proofs.rows.tilted.Goals as goal
use native.Mathlib.Omega.{arith}
use Prim.Native.Nat.{◌*◌, ◌-◌}

pub returns : goal.returns
unfolding tilted
returns c = let x = c.args.x in
    row_is (λ k. (8 - k) * column x k) c.loop-c.row c.loop-c.invariant.0 (λ k h. c.loop-c.invariant.1 k (omega arith))
