-- The first i cursors of the order are in document d, and no document before it has a posting of each (`Leaping`); the cursors keep their
-- ends. A leap raises d, or i in the same d.
use Prim.Native.Nat.{◌+◌, ◌-◌, ◌*◌}
use mathlib.Core.Path.{◌≡◌}
use Rattle.matcher.specs.Inner.Cursors.{ats_of, ends_of}
use Rattle.search.proofs.Laws.Align.{Leaping}
use Rattle.search.proofs.align.align.Given as goal

abbrev pub invariant-loop-i : goal.invariant-loop-i
invariant-loop-i l =
    Leaping l.volume l.order (ends_of l.initial.cursors) (ats_of l.initial.cursors) l.initial.positions l.first l.n l.doc l.d l.i (ats_of l.cursors) l.positions
    × (ends_of l.cursors ≡ ends_of l.initial.cursors)

abbrev pub decreases-loop-i : goal.decreases-loop-i
decreases-loop-i l = (65536 - l.d) * 9 + (l.n - l.i)
