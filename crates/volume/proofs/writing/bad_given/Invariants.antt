-- `volume::writing::bad_given` meets its contract. The loop's invariant: `from` is the sum of the first i counts, and the lowest list from
-- i on that does not rise is the lowest of all. Assumes nothing.
use Prim.Native.Nat.{◌-◌}
use mathlib.Core.Path.{◌≡◌}
use lib.ListN.{length}
use Rattle.seq.specs.Numbers.{sum_to, first_from}
use Rattle.seq.specs.Lists.{at}
use Rattle.volume.specs.Write.{given_wrong, bad_given}
use Rattle.volume.proofs.writing.bad_given.Given as goal

abbrev pub invariant-loop-i : goal.invariant-loop-i
invariant-loop-i l = (l.from ≡ sum_to (at l.counts) l.i) × (first_from (given_wrong l.counts l.postings) l.i (length l.counts - l.i) ≡ bad_given l.counts l.postings)
