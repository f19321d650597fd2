-- The structs that the search for a pattern's matches goes by. Assumes nothing.
use Rattle.std.specs.Prelude.{◌≡◌}
use Rattle.plan.specs.Patterns.{Pattern}
use Rattle.plan.specs.Accepted.{pattern_at}
use Rattle.matcher.specs.Inner.Cursors.{ats_of, ends_of}
use Rattle.enumeration.specs.declared.walk.PatternInDocument.{PatternInDocument}
use Rattle.enumeration.specs.declared.walk.Walk.{Walk}
use Rattle.enumeration.specs.Inner.Attempts.{Marked, Sought}

-- what holds of it; and the pattern that it names
abbrev pub SoughtIn : PatternInDocument → Type 0
SoughtIn s = Sought s.query.volume.bytes.now s.query.plan.now s.outline s.document s.order (ats_of s.firsts) (ends_of s.firsts)

abbrev pub form_of : PatternInDocument → Pattern
form_of s = pattern_at s.query.plan.now s.outline.pattern

-- on the way to the next match each variable has a mark in front of its bound, and all cursors are on the pattern's lists
pub record Walking (s : PatternInDocument) (w : Walk) : Type 0 where
  pub marked : Marked s.query.volume.bytes.now s.document.doc (form_of s) w.lows (ats_of w.marks)
  pub marks_end : ends_of w.marks ≡ ends_of s.firsts
  pub here_end : ends_of w.here ≡ ends_of s.firsts
