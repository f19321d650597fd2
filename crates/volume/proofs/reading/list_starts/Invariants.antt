-- `reading::list_starts` meets its contract. The invariant of the loop: the starts of the lists up to list i are stored, and `at` is the
-- last of them. Assumes nothing.
use mathlib.Core.Path.{◌≡◌}
use lib.ListN.{length}
use Rattle.volume.specs.Layout.{start}
use Rattle.volume.proofs.Laws.Starts.{Started}
use Rattle.volume.proofs.reading.list_starts.Given as goal

abbrev pub invariant-loop-i : goal.invariant-loop-i
invariant-loop-i l = Started l.volume l.starts l.i × (l.at ≡ start l.volume l.i) × (length l.starts ≡ length l.initial.starts)
