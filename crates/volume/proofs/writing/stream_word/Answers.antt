-- `volume::writing::stream_word` meets its contract: each way through it is a part of the stream.
-- Assumes nothing.
use Prim.Native.Nat.{◌-◌}
use native.Mathlib.Omega.{arith}
use mathlib.Core.Path.{sym}
use Rattle.volume.proofs.Laws.Write.{stream-count, stream_posting, stream-zero}
use Rattle.volume.proofs.writing.stream_word.Goals as goal

pub returns-then-i-eq0 : goal.returns-then-i-eq0
returns-then-i-eq0 c = rw c.if-i-eq0.true

pub returns-then-i-eq1 : goal.returns-then-i-eq1
returns-then-i-eq1 c = rw c.if-i-eq1.true

pub returns-then-i-front : goal.returns-then-i-front
returns-then-i-front c =
    let a = c.args in
    rw c.entry.ensures (sym (stream-count a.lists.now.counts.now a.lists.now.postings.now a.i (omega arith) (omega arith)))

pub returns-then-i-front-2 : goal.returns-then-i-front-2
returns-then-i-front-2 c =
    let a = c.args in
    sym (stream_posting a.lists.now.counts.now a.lists.now.postings.now a.i _ (omega arith))

pub returns-else-i-front-2 : goal.returns-else-i-front-2
returns-else-i-front-2 c =
    let a = c.args in
    sym (stream-zero a.lists.now.counts.now a.lists.now.postings.now a.i (a.i - c.lead-front.result) (omega arith) (omega arith))
