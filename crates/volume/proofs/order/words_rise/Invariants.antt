-- `order::words_rise` meets its contract. The loop's invariant: the words from `from` on rise exactly if those from i on rise above the last
-- one read. Assumes nothing.
use Prim.Native.Nat.{◌-◌}
use mathlib.Core.Path.{◌≡◌}
use Rattle.seq.specs.Lists.{above, rises}
use Rattle.seq.specs.Numbers.{run}
use Rattle.volume.specs.Layout.{word}
use Rattle.volume.proofs.order.words_rise.Given as goal

abbrev pub invariant-loop-i : goal.invariant-loop-i
invariant-loop-i l = above l.last (run (word l.volume) l.i (l.end - l.i)) ≡ rises (run (word l.volume) l.from l.n)
