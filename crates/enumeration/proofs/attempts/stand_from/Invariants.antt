-- The first variables of the order are brought to their bounds (`Standing-to`); the cursors keep their ends.
use mathlib.Core.Path.{◌≡◌}
use lib.ListN.{take}
use Rattle.matcher.specs.Inner.Cursors.{ats_of, ends_of}
use Rattle.enumeration.proofs.Laws.Attempts.{Standing-to}
use Rattle.enumeration.proofs.attempts.stand_from.Given as goal

abbrev pub invariant-loop-x : goal.invariant-loop-x
invariant-loop-x l = record {
  standing :
      Standing-to l.pattern.query.volume.bytes.now l.pattern.document.doc (take l.pattern.outline.vars l.pattern.order) (ends_of l.pattern.firsts) l.lows (ats_of l.marks) (ats_of l.initial.here) l.initial.positions (ats_of l.here) l.positions l.x-index;
  ends : ends_of l.here ≡ ends_of l.initial.here;
}
