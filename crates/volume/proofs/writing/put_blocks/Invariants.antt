-- `volume::writing::put_blocks` meets its contract. The loop's invariant is `Laying`: the blocks from `from` to k are stored, and the rest
-- is as it was. Assumes nothing.
use Rattle.seq.specs.Lists.{at}
use Rattle.volume.specs.Write.{stream_of}
use Rattle.volume.proofs.Laws.Storing.{Laying}
use Rattle.volume.proofs.writing.put_blocks.Given as goal

abbrev pub invariant-loop-k : goal.invariant-loop-k
invariant-loop-k l = Laying (at (stream_of l.lists.counts.now l.lists.postings.now)) l.from l.to l.initial.out l.out l.k
