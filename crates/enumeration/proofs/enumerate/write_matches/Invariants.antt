-- The matches that were sought are written, and those left are the matches from the bounds on (`Writing`). The cursors keep their ends.
-- The measure is the room left.
use Prim.Native.Nat.{◌-◌}
use mathlib.Core.Path.{◌≡◌}
use lib.ListN.{length}
use Rattle.matcher.specs.Inner.Cursors.{ats_of, ends_of}
use Rattle.enumeration.specs.Inner.Walking.{form_of}
use Rattle.enumeration.proofs.Laws.Writing.{Writing}
use Rattle.enumeration.proofs.enumerate.write_matches.Given as goal

abbrev pub invariant-loop-walk : goal.invariant-loop-walk
invariant-loop-walk l = record {
  writing : Writing l.pattern.query.volume.bytes.now l.pattern.document.doc (form_of l.pattern) l.pattern.outline.vars l.from l.initial.out l.walk.lows (ats_of l.walk.marks) l.out l.count;
  marks_end : ends_of l.walk.marks ≡ ends_of l.pattern.firsts;
  here_end : ends_of l.walk.here ≡ ends_of l.pattern.firsts;
  positions_long : length l.walk.positions ≡ 8;
}

abbrev pub decreases-loop-walk : goal.decreases-loop-walk
decreases-loop-walk l = l.room - l.count
