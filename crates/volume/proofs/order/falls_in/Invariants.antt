-- `order::falls_in` meets its contract. The loop's invariant: n is the number of falls at the first i words of the block. Assumes nothing.
use Prim.Native.Nat.{◌+◌, ◌*◌, ◌≤◌}
use mathlib.Core.Path.{◌≡◌}
use Rattle.volume.specs.Inner.Falls.{falls_before}
use Rattle.volume.proofs.order.falls_in.Given as goal

abbrev pub invariant-loop-i : goal.invariant-loop-i
invariant-loop-i l = (l.n ≤ l.i) × (falls_before l.volume (126 * l.k) + l.n ≡ falls_before l.volume (126 * l.k + l.i))
