-- `order::falls_from` meets its contract. The loop's invariant: n is the number of falls from `from` up to i. Assumes nothing.
use Prim.Native.Nat.{◌+◌, ◌≤◌}
use mathlib.Core.Path.{◌≡◌}
use Rattle.volume.specs.Inner.Falls.{falls_before}
use Rattle.volume.proofs.order.falls_from.Given as goal

abbrev pub invariant-loop-i : goal.invariant-loop-i
invariant-loop-i l = (l.n + l.from ≤ l.i) × (falls_before l.whole.bytes.now l.from + l.n ≡ falls_before l.whole.bytes.now l.i)
