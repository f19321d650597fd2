-- The patterns in front of k are brought to the document (`Bringing`); the cursors keep their ends.
use mathlib.Core.Path.{◌≡◌}
use Rattle.matcher.specs.Inner.Cursors.{ats_of, ends_of}
use Rattle.search.proofs.Laws.Walk.{Bringing}
use Rattle.search.proofs.walk.next_docs.Given as goal

abbrev pub invariant-loop-k : goal.invariant-loop-k
invariant-loop-k l =
    Bringing l.query.volume.bytes.now l.query.plan.now (ends_of l.initial.cursors) l.doc l.fresh (ats_of l.initial.cursors) l.initial.positions l.initial.docs (ats_of l.cursors) l.positions l.docs l.k
    × (ends_of l.cursors ≡ ends_of l.initial.cursors)
