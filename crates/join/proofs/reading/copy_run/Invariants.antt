-- `join::reading::copy_run` meets its contract. The loop's invariant: the first j words are made, and the rest is as it was. Assumes
-- nothing.
use Prim.Native.Nat.{◌+◌}
use mathlib.Core.Path.{◌≡◌}
use Rattle.volume.specs.Layout.{word}
use Rattle.join.specs.Inner.Reading.{made}
use Rattle.join.proofs.reading.copy_run.Given as goal

abbrev pub invariant-loop-j : goal.invariant-loop-j
invariant-loop-j l = l.words ≡ made (λ i. word l.volume i + l.lift) l.from l.to (l.to + l.j) l.initial.words
