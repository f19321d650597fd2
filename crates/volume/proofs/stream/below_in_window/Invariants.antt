-- `stream::below_in_window` meets its contract. The loop's invariant: n of the first j words are below the target. Assumes nothing.
use Prim.Native.Nat.{◌≤◌}
use mathlib.Core.Path.{◌≡◌}
use Rattle.volume.specs.Inner.Below.{below_count}
use Rattle.volume.proofs.stream.below_in_window.Given as goal

abbrev pub invariant-loop-j : goal.invariant-loop-j
invariant-loop-j l = (l.n ≤ l.j) × (l.n ≡ below_count l.volume l.target l.i l.j)
