-- `bytes::Text::put_number` meets its contract. The invariant of its loop: the digits stored so far are the last ones of n, and those of
-- `left` are still to come; the buffer stays the same one. The measure is `left`. Assumes nothing.
use mathlib.Core.Path.{◌≡◌}
use Rattle.printer.specs.Inner.Writing.{Digits}
use Rattle.printer.proofs.bytes.Text.put_number.Given as goal

abbrev pub invariant-loop-left : goal.invariant-loop-left
invariant-loop-left l =
    let s = l.initial.self in
    Digits l.n l.left s.out.now s.at l.self.out.now l.self.at × (l.self.out.ghost_name ≡ s.out.ghost_name)

abbrev pub decreases-loop-left : goal.decreases-loop-left
decreases-loop-left l = l.left
