-- `enumerate::set_marks` meets its contract. The loop's invariant: the first x marks are set, and all keep their lists. Assumes nothing.
use Prim.Native.Nat.{ℕ, ◌<◌}
use mathlib.Core.Path.{◌≡◌}
use lib.ListN.{length, get_or}
use Rattle.matcher.specs.Inner.Cursors.{ats_of, ends_of}
use Rattle.enumeration.proofs.enumerate.set_marks.Given as goal

abbrev pub invariant-loop-x : goal.invariant-loop-x
invariant-loop-x l = record {
  set : (y : ℕ) → y < l.x → get_or (ats_of l.marks) y 0 ≡ get_or (ats_of l.here) y 0;
  ends : ends_of l.marks ≡ ends_of l.initial.marks;
  long : length l.marks ≡ 8;
}
