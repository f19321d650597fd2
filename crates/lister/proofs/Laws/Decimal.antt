-- The laws of `decimal`. No contract cites this file.
--     printed_decimal      the library's decimal text of a number of 64 bits is `decimal`
-- Assumes nothing.
use Prim.Native.Nat.{ℕ, zero, suc, ◌*◌, ◌/◌, ◌%◌, ◌^◌, ◌<◌, ◌≤◌}
use native.Mathlib.Nat.{pow-suc}
use native.Mathlib.Omega.{arith}
use mathlib.Core.Path.{◌≡◌, ◌∙◌}
use mathlib.Core.Bool.{false}
use mathlib.Core.Logic.{⊎_elim}
use mathlib.Core.List.{List, [], ◌∷◌, ◌++◌, append_assoc, append-nil}
use borrow.Author.Tests.{lt-ltb, eq-eqb, ne_eqb}
use Rattle.std.specs.Fmt as library
use Rattle.std.specs.Fmt.{digit_glyph, digits_onto, digits}
use Rattle.seq.specs.Decimal.{digit, decimal}
use Rattle.seq.proofs.Laws.Decimal.{decimal_digit, decimal_tens}
use Rattle.seq.proofs.Laws.Tests.{below_or}

-- a digit below 10 as it is written
glyph-digit : (d : ℕ) → d < 10 → digit_glyph false d ≡ digit d
glyph-digit d h = rw (lt-ltb d 10 h)

-- a number of one digit, and of more
onto-one : (k n : ℕ) (acc : List ℕ) → n < 10 → digits_onto (suc k) 10 false n acc ≡ decimal n ++ acc
onto-one k n acc h =
    let e : n / 10 ≡ 0 = omega arith in
    let r : n % 10 ≡ n = omega arith in
    rw (eq-eqb (n / 10) 0 e, r, glyph-digit n h, decimal_digit n h)

digits-enough : (k n : ℕ) (acc : List ℕ) → n < 10 ^ suc k → digits_onto (suc k) 10 false n acc ≡ decimal n ++ acc
digits-enough zero n acc h = onto-one zero n acc (omega arith)
digits-enough (suc k) n acc h =
    ⊎_elim
    (λ (l : n < 10). onto-one (suc k) n acc l)
    (λ (l : 10 ≤ n).
    let top : 10 ^ suc (suc k) ≡ 10 ^ suc k * 10 = pow-suc 10 (suc k) in
    rw (ne_eqb (n / 10) 0 (λ e. omega arith), decimal_tens n l, append_assoc, glyph-digit (n % 10) (omega arith))
    (digits-enough k (n / 10) (digit (n % 10) ∷ acc) (omega arith)))
    (below_or n 10)

pub printed_decimal : (n : ℕ) → n < 2 ^ 64 → library.decimal n ≡ decimal n
unfolding digits
printed_decimal n h = digits-enough 63 n [] (omega arith) ∙ append-nil (decimal n)
