-- The matches from the bounds on are those from the bounds given on (`Carried`); fewer variables are held each turn. The cursors keep
-- their ends.
use mathlib.Core.Path.{◌≡◌}
use lib.ListN.{length}
use Rattle.matcher.specs.Inner.Cursors.{ats_of, ends_of}
use Rattle.enumeration.specs.Inner.Walking.{form_of}
use Rattle.enumeration.proofs.Laws.Carries.{Carried}
use Rattle.enumeration.proofs.next.next_match.Given as goal

abbrev pub invariant-loop-held : goal.invariant-loop-held
invariant-loop-held l = record {
  carried :
      Carried l.pattern.query.volume.bytes.now l.pattern.document.doc (form_of l.pattern) l.pattern.outline.vars l.initial.walk.lows (ats_of l.initial.walk.marks) l.walk.lows (ats_of l.walk.marks) l.held;
  marks_end : ends_of l.walk.marks ≡ ends_of l.pattern.firsts;
  here_end : ends_of l.walk.here ≡ ends_of l.pattern.firsts;
  positions_length : length l.walk.positions ≡ length l.initial.walk.positions;
}

abbrev pub decreases-loop-held : goal.decreases-loop-held
decreases-loop-held l = l.held
