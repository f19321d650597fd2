-- `print` is safe and ends, and each text that it writes is the one that is due. The loop's invariant: turns from document 0 on have come to the
-- document and the sum that the next turn starts with, the turn can start, and the buffer has room for its text.
-- The measure is the number of documents from the one that the turn starts at. Assumes nothing.
use Prim.Native.Nat.{ℕ, ◌-◌, ◌*◌, ◌<◌, ◌≤◌}
use mathlib.Core.Path.{◌≡◌}
use mathlib.Core.List.{List}
use lib.ListN.{length}
use Rattle.lister.specs.Turns.{Came}
use Rattle.lister.proofs.print.Given as goal

abbrev pub invariant-loop-next : goal.invariant-loop-next
invariant-loop-next o l =
    let s = l.start in
    (s.doc < 65536) × (s.tally ≤ 4294967296 * s.doc) × (length l.text ≡ 278558) × ((texts : List ℕ) × Came l.volume l.file texts s.doc s.tally)

abbrev pub decreases-loop-next : goal.decreases-loop-next
decreases-loop-next o l = 65536 - l.start.doc
