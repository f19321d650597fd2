-- `stream::bad_word` meets its contract. The loop's invariant: the first word that is not 0 from i on is the first from `from` on. Assumes
-- nothing.
use Prim.Native.Nat.{◌-◌}
use mathlib.Core.Path.{◌≡◌}
use Rattle.seq.specs.Numbers.{first_from}
use Rattle.volume.specs.Check.{padding_wrong}
use Rattle.volume.proofs.stream.bad_word.Given as goal

abbrev pub invariant-loop-i : goal.invariant-loop-i
invariant-loop-i l = first_from (padding_wrong l.volume) l.i (l.end - l.i) ≡ first_from (padding_wrong l.volume) l.from (l.end - l.from)
