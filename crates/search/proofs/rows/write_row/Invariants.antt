-- `rows::write_row` meets its contract. The invariant of its loop: the row is written up to that pattern (`Writing`), and the block in
-- which the last start was found begins within the stream. Assumes nothing.
use Prim.Native.Nat.{◌*◌, ◌≤◌}
use lib.ListN.{length}
use Rattle.volume.specs.Layout.{stream_length}
use Rattle.matcher.specs.Inner.Opened.{starts}
use Rattle.search.proofs.Laws.Rows.{Writing}
use Rattle.search.proofs.rows.write_row.Given as goal

abbrev pub invariant-loop-outline : goal.invariant-loop-outline
invariant-loop-outline l = Writing (starts l.opened) l.table l.opened.document.doc l.found l.positions l.initial.out l.from (length l.table) l.out l.to l.left l.outline-index
    × (126 * l.near ≤ stream_length l.opened.volume.bytes.now)
