-- `join::joining::put_joined` meets its contract. The loop's invariant: the first k blocks are stored, and the merge stands in front of block k.
-- Assumes nothing.
use mathlib.Core.Path.{◌≡◌}
use lib.ListN.{length}
use Rattle.volume.proofs.Laws.Storing.{Laying}
use Rattle.join.specs.Inner.Reading.{joined_word, StandsBefore}
use Rattle.join.proofs.joining.put_joined.Given as goal

abbrev pub invariant-loop-k : goal.invariant-loop-k
invariant-loop-k l =
    Laying (joined_word l.sources.lift l.sources.first.now l.sources.second.now) 0 l.n l.initial.out l.out l.k
    × StandsBefore l.sources.first.now l.sources.second.now l.merge l.k
    × (length l.words ≡ 126)
