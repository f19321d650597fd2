-- `testing::stand_at` meets its contract. The invariant of the loop: the variables so far stand at their positions (`Brought`). Assumes nothing.
use mathlib.Core.Path.{◌≡◌}
use lib.ListN.{length}
use Rattle.plan.specs.Accepted.{pattern_at}
use Rattle.matcher.specs.Inner.Cursors.{ats_of, ends_of}
use Rattle.matcher.proofs.Laws.Testing.{Brought}
use Rattle.matcher.proofs.testing.stand_at.Given as goal

abbrev pub invariant-loop-x : goal.invariant-loop-x
invariant-loop-x l = record {
  brought : Brought l.query.volume.bytes.now l.doc (pattern_at l.query.plan.now l.outline.pattern).vars l.positions (ends_of l.cursors) (ats_of l.cursors) l.x;
  same_length : length l.cursors ≡ length l.initial.cursors;
}
