-- The laws of `specs/Decimal.antt`. No contract cites this file.
--     decimal-one, decimal-more     a number of one digit, and of more
--     decimal_digit                 a digit as a number
--     decimal_grow                  a number with one more digit
--     decimal_tens                  the last digit of a number of more than one
--     length-decimal                a number below 10 ^ k has at most k digits
-- Assumes nothing.
use Prim.Native.Nat.{ℕ, zero, suc, ◌+◌, ◌*◌, ◌/◌, ◌%◌, ◌^◌, ◌<◌, ◌≤◌}
use native.Mathlib.Nat.{pow-suc}
use native.Mathlib.Omega.{arith}
use mathlib.Core.Path.{◌≡◌, sym, ap, ap₂, ◌∙◌}
use mathlib.Core.Logic.{⊎_elim}
use mathlib.Core.List.{List, [], ◌∷◌, ◌++◌}
use lib.ListN.{length}
use borrow.Author.Tests.{lt-ltb, le-ltb}
use Rattle.seq.specs.Decimal.{digit, decimal_f, decimal}
use Rattle.seq.proofs.Laws.Tests.{below_or}
use Rattle.seq.proofs.Laws.Lists.{length-snoc}

pub decimal-one : (f n : ℕ) → n < 10 → decimal_f (suc f) n ≡ digit n ∷ []
unfolding decimal_f
decimal-one f n h = rw (lt-ltb n 10 h)

pub decimal-more : (f n : ℕ) → 10 ≤ n → decimal_f (suc f) n ≡ decimal_f f (n / 10) ++ (digit (n % 10) ∷ [])
unfolding decimal_f
decimal-more f n h = rw (le-ltb n 10 h)

-- more than enough digits make no difference
decimal-enough : (f g n : ℕ) → n < f → n < g → decimal_f f n ≡ decimal_f g n
decimal-enough zero g n h k = absurd (let z : ⊥ = omega arith in z)
decimal-enough (suc f) zero n h k = absurd (let z : ⊥ = omega arith in z)
decimal-enough (suc f) (suc g) n h k =
    ⊎_elim
    (λ (l : n < 10). decimal-one f n l ∙ sym (decimal-one g n l))
    (λ (l : 10 ≤ n).
    decimal-more f n l
    ∙ ap (λ (xs : List ℕ). xs ++ (digit (n % 10) ∷ [])) (decimal-enough f g (n / 10) (omega arith) (omega arith))
    ∙ sym (decimal-more g n l))
    (below_or n 10)

pub decimal_digit : (d : ℕ) → d < 10 → decimal d ≡ digit d ∷ []
unfolding decimal
decimal_digit d h = decimal-one d d h

-- one more digit
pub decimal_grow : (n d : ℕ) → 1 ≤ n → d < 10 → decimal (n * 10 + d) ≡ decimal n ++ (digit d ∷ [])
unfolding decimal
decimal_grow n d h l =
    let m = n * 10 + d in
    let q : m / 10 ≡ n = omega arith in
    let r : m % 10 ≡ d = omega arith in
    decimal-more m m (omega arith)
    ∙ ap₂ (λ (x y : ℕ). decimal_f m x ++ (digit y ∷ [])) q r
    ∙ ap (λ (xs : List ℕ). xs ++ (digit d ∷ [])) (decimal-enough m (suc n) n (omega arith) (omega arith))

-- the last digit of a number of more than one
pub decimal_tens : (n : ℕ) → 10 ≤ n → decimal n ≡ decimal (n / 10) ++ (digit (n % 10) ∷ [])
decimal_tens n h =
    let e : n ≡ n / 10 * 10 + n % 10 = omega arith in
    ap decimal e ∙ decimal_grow (n / 10) (n % 10) (omega arith) (omega arith)

length-enough : (k f n : ℕ) → n < 10 ^ (suc k) → length (decimal_f f n) ≤ suc k
unfolding decimal_f
length-enough k zero n h = omega arith
length-enough zero (suc f) n h = rw (decimal-one f n (omega arith)) (omega arith)
length-enough (suc k) (suc f) n h =
    ⊎_elim
    (λ (l : n < 10). rw (decimal-one f n l) (omega arith))
    (λ (l : 10 ≤ n).
    let top : 10 ^ suc (suc k) ≡ 10 ^ suc k * 10 = pow-suc 10 (suc k) in
    let b : length (decimal_f f (n / 10)) ≤ suc k = length-enough k f (n / 10) (omega arith) in
    rw (decimal-more f n l, length-snoc) (omega arith))
    (below_or n 10)

-- a number below 10 ^ k has at most k digits, where k is not 0
pub length-decimal : (k n : ℕ) → n < 10 ^ (suc k) → length (decimal n) ≤ suc k
unfolding decimal
length-decimal k n h = length-enough k (suc n) n h
