-- `order::fall_of` meets its contract, by its test. Assumes nothing.
use Prim.Native.Nat.{ℕ, ◌<◌, ◌≤◌}
use mathlib.Core.Path.{◌≡◌, ◌∙◌}
use mathlib.Core.Logic.{⊎_elim}
use mir.Val.{bool_byte}
use lib.Dec.{leb}
use borrow.Author.Tests.{lt-ltb, le-ltb, lt-leb, le-leb}
use Rattle.seq.proofs.Laws.Tests.{below_or}
use Rattle.volume.specs.Inner.Falls.{fall_of}
use Rattle.volume.proofs.Laws.Truth.{at_most_one}
use Rattle.volume.proofs.order.fall_of.Goals as goal

counted : (x y : ℕ) → bool_byte (leb y x) ≡ fall_of x y
counted x y = ⊎_elim (λ (h : x < y). rw (lt-leb y x h, lt-ltb x y h)) (λ (h : y ≤ x). rw (le-leb y x h, le-ltb x y h)) (below_or x y)

pub returns : goal.returns
returns c =
    let a = c.args in
    record { value = c.from.ensures ∙ counted a.x a.y; upper_bound = rw c.from.ensures (at_most_one (leb a.y a.x)) }
