use mathlib.Core.Path.{◌≡◌}
use native.Mathlib.Omega.{arith}
use Rattle.seq.proofs.Laws.Numbers.{sum_step}
use Rattle.seq.specs.Numbers.{sum_to}
use Rattle.block.specs.Inner.Sums.{column, columns}
use Rattle.block.proofs.rows.columns.Goals as goal

pub loop-column-init : goal.loop-column-init
unfolding sum_to
loop-column-init c = (omega arith, omega arith)

pub loop-column-preserved : goal.loop-column-preserved
loop-column-preserved c =
    let e = sum_step (column c.args.x) c.loop-column.column-index in
    (omega arith, omega arith)

pub returns : goal.returns
unfolding columns
returns c =
    let e : c.loop-column.column-index ≡ 8 = omega arith in
    record { value = rw e at c.loop-column.invariant.0; upper_bound = omega arith }
