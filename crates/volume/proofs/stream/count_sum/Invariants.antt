-- `stream::count_sum` meets its contract. The loop's invariant: sum is the sum of the first i counts, each below 2^32. Assumes nothing.
use Prim.Native.Nat.{◌*◌, ◌≤◌}
use mathlib.Core.Path.{◌≡◌}
use Rattle.seq.specs.Numbers.{sum_to}
use Rattle.volume.specs.Layout.{count}
use Rattle.volume.proofs.stream.count_sum.Given as goal

abbrev pub invariant-loop-i : goal.invariant-loop-i
invariant-loop-i l = (l.sum ≤ 4294967296 * l.i) × (l.sum ≡ sum_to (count l.volume) l.i)
