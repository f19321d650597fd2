-- The laws of `specs/Pages.antt`. No contract cites this file.
--     portion-all      no more remain than fit
--     portion-part     more remain
-- Assumes nothing.
use Prim.Native.Nat.{ℕ, ◌≤◌}
use mathlib.Core.Path.{◌≡◌, ap, ap₂}
use mathlib.Core.List.{List, ◌∷◌, ◌++◌}
use mathlib.Core.Option.{Option, none, some}
use lib.ListN.{length, drop_of_length-le}
use lib.Seq.{take_all, take_at, drop_at}
use Rattle.seq.specs.Lists.{first}
use Rattle.seq.specs.Pages.{portion}

module _ {A : Type 0} (m : ℕ) where
  pub portion-all : (xs : List A) → length xs ≤ m → portion m xs ≡ record { written = xs; left = none }
  portion-all xs h = ap₂ (λ (l : List A) (o : Option A). record { written = l; left = o }) (take_all m xs h) (ap first (drop_of_length-le xs h))

  pub portion-part : (xs ys : List A) (y : A) → length xs ≡ m → portion m (xs ++ (y ∷ ys)) ≡ record { written = xs; left = some y }
  portion-part xs ys y e =
      ap₂ (λ (l : List A) (o : Option A). record { written = l; left = o }) (take_at xs (y ∷ ys) m e) (ap first (drop_at xs (y ∷ ys) m e))
