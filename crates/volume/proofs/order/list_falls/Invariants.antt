-- `order::list_falls` meets its contract. The loop's invariant: n falls at the last postings of the first i lists, which end in front of
-- `end`. Assumes nothing.
use mathlib.Core.Path.{◌≡◌}
use Rattle.volume.specs.Layout.{list_count}
use Rattle.volume.proofs.Laws.Falls.{ListsSoFar}
use Rattle.volume.proofs.order.list_falls.Given as goal

abbrev pub invariant-loop-i : goal.invariant-loop-i
invariant-loop-i l = (l.lists ≡ list_count l.whole.bytes.now) × ListsSoFar l.whole.bytes.now l.n l.end l.i
