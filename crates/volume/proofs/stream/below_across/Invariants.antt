-- `stream::below_across` meets its contract. The loop's invariant: n of the last words, as many as are behind, are below the target, so
-- that n and those of the words in front of them are those of all seven. Assumes nothing.
use Prim.Native.Nat.{◌+◌, ◌-◌, ◌≤◌}
use mathlib.Core.Path.{◌≡◌}
use Rattle.volume.specs.Inner.Below.{below_count}
use Rattle.volume.proofs.stream.below_across.Given as goal

abbrev pub invariant-loop-behind : goal.invariant-loop-behind
invariant-loop-behind l = (l.n ≤ l.behind) × (l.n + below_count l.volume l.target l.i (7 - l.behind) ≡ below_count l.volume l.target l.i 7)
