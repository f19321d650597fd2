-- `walk::settle_all` meets its contract. The invariant of the loop: the patterns in front of k are settled, and their bits are known
-- (`Settling`); the cursors keep their ends, and `paras` its length. Assumes nothing.
use mathlib.Core.Path.{◌≡◌}
use lib.ListN.{length}
use Rattle.matcher.specs.Inner.Cursors.{ats_of, ends_of}
use Rattle.search.proofs.Laws.Settling.{Settling}
use Rattle.search.proofs.walk.settle_all.Given as goal

abbrev pub invariant-loop-k : goal.invariant-loop-k
invariant-loop-k l =
    Settling l.query.volume.bytes.now l.query.plan.now (ends_of l.initial.cursors) l.docs l.document.doc (ats_of l.initial.cursors) l.initial.positions (ats_of l.cursors) l.positions l.bits l.weight l.k
    × ((ends_of l.cursors ≡ ends_of l.initial.cursors) × (length l.paras ≡ length l.initial.paras))
