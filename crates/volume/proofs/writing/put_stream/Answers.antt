-- `volume::writing::put_stream` meets its contract: behind the counts the stream's words are the postings.
-- Assumes nothing.
use Prim.Native.Nat.{◌-◌}
use native.Mathlib.Omega.{arith}
use Rattle.std.proofs.Common.{rules}
use Rattle.seq.specs.Lists.{at}
use Rattle.volume.proofs.Laws.Write.{word_bytes-postings}
use Rattle.volume.proofs.writing.put_stream.Goals as goal

pub returns-then-first-front : goal.returns-then-first-front
returns-then-first-front c =
    let a = c.args in
    let front = c.lead-front.result in
    let stored = c.put_words.ensures (at a.lists.now.postings.now) (a.first - front) (λ j x h e. search rules) in
    rw (← word_bytes-postings a.lists.now.counts.now a.lists.now.postings.now a.first (a.first - front) 126 (omega arith)) stored
