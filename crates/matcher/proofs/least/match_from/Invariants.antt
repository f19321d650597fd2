-- All predicates hold of the positions but so many in turn, `largest` is the largest position, and no match from the first positions on is in front of
-- them (`Tried`). A jump moves a position on; else one predicate less is left. `paras` keeps its length, and the cursors their ends. Assumes nothing.
use Prim.Native.Nat.{◌+◌, ◌*◌}
use mathlib.Core.Path.{◌≡◌}
use lib.ListN.{length}
use Rattle.matcher.specs.Inner.Cursors.{ats_of, ends_of}
use Rattle.matcher.proofs.Laws.Tried.{slack, Tried}
use Rattle.matcher.proofs.least.match_from.Given as goal

abbrev pub invariant-loop-left : goal.invariant-loop-left
invariant-loop-left l = record {
  tried : Tried l.volume.bytes.now l.plan l.outline l.doc l.held (ats_of l.initial.cursors) l.initial.positions (ats_of l.cursors) l.positions l.largest l.turn l.left;
  paras : length l.paras ≡ length l.initial.paras;
  ends : ends_of l.cursors ≡ ends_of l.initial.cursors;
}

abbrev pub decreases-loop-left : goal.decreases-loop-left
decreases-loop-left l = 128 * slack l.positions + l.left
