-- `rows::columns` meets its contract. The loop's invariant: the columns so far are added up. Assumes nothing.
use Prim.Native.Nat.{◌*◌, ◌≤◌}
use mathlib.Core.Path.{◌≡◌}
use Rattle.seq.specs.Numbers.{sum_to}
use Rattle.block.specs.Inner.Sums.{column}
use Rattle.block.proofs.rows.columns.Given as goal

abbrev pub invariant-loop-column : goal.invariant-loop-column
invariant-loop-column l = (l.sum ≡ sum_to (column l.fn.x) l.column-index) × (l.sum ≤ 65535 * l.column-index)
