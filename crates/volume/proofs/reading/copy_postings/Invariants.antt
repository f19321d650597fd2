-- `reading::copy_postings` meets its contract. The loop's invariant: the first i postings are copied, and the rest of the buffer is as it
-- was. Assumes nothing.
use mathlib.Core.Path.{◌≡◌}
use mathlib.Core.List.{◌++◌}
use lib.ListN.{drop}
use Rattle.seq.specs.Numbers.{run}
use Rattle.volume.specs.Layout.{word}
use Rattle.volume.proofs.reading.copy_postings.Given as goal

abbrev pub invariant-loop-i : goal.invariant-loop-i
invariant-loop-i l = l.posting-items ≡ run (word l.volume) l.from l.i ++ drop l.i l.initial.posting-items
