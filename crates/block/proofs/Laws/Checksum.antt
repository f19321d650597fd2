-- The laws of `specs/Checksum.antt`: the two sums with one reduction at the end. No contract cites this file.
--     sum_a-late, sum_b-late       the sums from a and b, reduced once behind the last byte
--     check_a-late, check_b-late   the same from 1 and 0
--     check_a-lt, check_b-lt       both are below 65,535
-- Assumes nothing.
use Prim.Native.Nat.{ℕ, ◌+◌, ◌*◌, ◌%◌, ◌<◌}
use native.Mathlib.Nat.{add-zero, add_assoc, mod-lt, mod-add-mod, add-mod}
use native.Mathlib.Omega.{arith}
use mathlib.Core.Path.{◌≡◌, ap, ◌∙◌}
use mathlib.Core.List.{List, [], ◌∷◌}
use lib.ListN.{length}
use Rattle.block.specs.Checksum.{sum_a, sum_b, check_a, check_b}
use Rattle.seq.specs.Lists.{total}
use Rattle.block.specs.Inner.Sums.{tot, weigh}

sum_a-late : (a : ℕ) (xs : List ℕ) → sum_a (a % 65535) xs ≡ (a + tot xs) % 65535
unfolding sum_a total
sum_a-late a [] = rw (add-zero a)
sum_a-late a (x ∷ xs) = rw (mod-add-mod a 65535 x, sum_a-late (a + x) xs, add_assoc a x (tot xs))

sum_b-late : (a b : ℕ) (xs : List ℕ) → sum_b (a % 65535) (b % 65535) xs ≡ (b + a * length xs + weigh xs) % 65535
unfolding sum_b weigh
sum_b-late a b [] = ap (λ (n : ℕ). n % 65535) (omega arith)
sum_b-late a b (x ∷ xs) =
    rw (mod-add-mod a 65535 x, ← add-mod b (a + x) 65535, sum_b-late (a + x) (b + (a + x)) xs)
    (ap (λ (n : ℕ). n % 65535) (omega arith))

module _ (xs : List ℕ) where
  pub check_a-late : check_a xs ≡ (1 + tot xs) % 65535
  check_a-late = sum_a-late 1 xs

  pub check_b-late : check_b xs ≡ (length xs + weigh xs) % 65535
  check_b-late = sum_b-late 1 0 xs ∙ ap (λ (n : ℕ). n % 65535) (omega arith)

  pub check_a-lt : check_a xs < 65535
  check_a-lt = rw check_a-late (mod-lt (1 + tot xs) (omega arith))

  pub check_b-lt : check_b xs < 65535
  check_b-lt = rw check_b-late (mod-lt (length xs + weigh xs) (omega arith))
