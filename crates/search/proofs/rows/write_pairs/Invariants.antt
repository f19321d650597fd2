-- `rows::write_pairs` meets its contract. The invariant of its loop: x positions are written with their starts from `to` on (`Pairing`),
-- and the block in which the last start was found begins within the stream. Assumes nothing.
use Prim.Native.Nat.{◌*◌, ◌≤◌}
use Rattle.volume.specs.Layout.{stream_length}
use Rattle.matcher.specs.Inner.Opened.{starts}
use Rattle.search.proofs.Laws.Rows.{Pairing}
use Rattle.search.proofs.rows.write_pairs.Given as goal

abbrev pub invariant-loop-x : goal.invariant-loop-x
invariant-loop-x l = Pairing (starts l.opened) l.positions l.initial.out l.to l.out l.x × (126 * l.near ≤ stream_length l.opened.volume.bytes.now)
