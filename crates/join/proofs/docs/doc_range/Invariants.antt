-- `docs::doc_range` meets its contract. The invariant of the loop: `range` has the documents of the first i lists, and `start` is where list i
-- starts. Assumes nothing.
use mathlib.Core.Path.{◌≡◌}
use Rattle.volume.specs.Layout.{start}
use Rattle.join.specs.Inner.Docs.{range_of}
use Rattle.join.proofs.Laws.Docs.{first_postings}
use Rattle.join.proofs.docs.doc_range.Given as goal

abbrev pub invariant-loop-i : goal.invariant-loop-i
invariant-loop-i l = (l.range ≡ range_of (first_postings l.volume.bytes.now l.i)) × (l.start ≡ start l.volume.bytes.now l.i)
