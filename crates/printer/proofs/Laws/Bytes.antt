-- The laws of `specs/Inner/Writing.antt`: text that is written from its end. No contract cites this file.
--     stored_append              a text in two parts, the second one stored first
--     stored-front               a text at the front of a buffer that holds it
--     put-none, put_byte, put-past     nothing is stored, one byte, one behind the end
--     only-true, only-false      a byte where it is wanted
--     put_as, put_then           the same text in other words; more is stored in front
--     digits-first, digits-next, digits-done     the digits of a number, the last one first
-- Assumes nothing.
use Prim.Native.Nat.{ℕ, suc, ◌+◌, ◌/◌, ◌%◌, ◌<◌, ◌≤◌}
use native.Mathlib.Nat.{add-zero}
use native.Mathlib.Omega.{arith}
use mathlib.Core.Path.{◌≡◌, refl, sym, ap, ◌∙◌, subst}
use mathlib.Core.Bool.{Bool, true, false}
use mathlib.Core.Logic.{⊎_elim}
use mathlib.Core.List.{List, [], ◌∷◌, ◌++◌, append_assoc, append-nil}
use lib.ListN.{length, set, drop, length-append}
use lib.Seq.{set_out}
use Rattle.seq.specs.Decimal.{digit, decimal}
use Rattle.seq.proofs.Laws.Decimal.{decimal_digit, decimal_tens}
use Rattle.seq.proofs.Laws.Tests.{below_or}
use Rattle.seq.proofs.Laws.Lists.{length-snoc}
use Rattle.printer.specs.Inner.Writing.{stored_bytes, PutBack, only, Digits}

-- the second part first
pub stored_append : (out : List ℕ) (at : ℕ) (a b : List ℕ)
    → stored_bytes (stored_bytes out (at + length a) b) at a ≡ stored_bytes out at (a ++ b)
unfolding stored_bytes
stored_append out at [] b = ap (λ (k : ℕ). stored_bytes out k b) (add-zero at)
stored_append out at (x ∷ a) b =
    let e : at + suc (length a) ≡ suc at + length a = omega arith in
    ap (λ (l : List ℕ). set l at x) (ap (λ (k : ℕ). stored_bytes (stored_bytes out k b) (suc at) a) e ∙ stored_append out (suc at) a b)

-- bytes behind the first one
stored-behind : (y : ℕ) (out : List ℕ) (at : ℕ) (s : List ℕ) → stored_bytes (y ∷ out) (suc at) s ≡ y ∷ stored_bytes out at s
unfolding stored_bytes
stored-behind y out at [] = refl
stored-behind y out at (b ∷ s) = ap (λ (l : List ℕ). set l (suc at) b) (stored-behind y out (suc at) s)

-- at the front of a buffer that holds it
pub stored-front : (s out : List ℕ) → length s ≤ length out → stored_bytes out 0 s ≡ s ++ drop (length s) out
unfolding stored_bytes
stored-front [] out h = refl
stored-front (b ∷ s) [] h = absurd (let z : ⊥ = omega arith in z)
stored-front (b ∷ s) (y ∷ out) h =
    ap (λ (l : List ℕ). set l 0 b) (stored-behind y out 0 s) ∙ ap (λ (l : List ℕ). b ∷ l) (stored-front s out (omega arith))

-- nothing is stored
pub put-none : (out : List ℕ) (end : ℕ) → PutBack [] out end out end
unfolding stored_bytes
put-none out end = record { stored = refl; ends = add-zero end }

-- one byte is stored
pub put_byte : (out : List ℕ) (end b r : ℕ) → r + 1 ≡ end → PutBack (b ∷ []) out end (set out r b) r
unfolding stored_bytes
put_byte out end b r e = record { stored = refl; ends = e }

-- a byte behind the end of the buffer
pub put-past : (out : List ℕ) (end b r : ℕ) → r + 1 ≡ end → length out ≤ r → PutBack (b ∷ []) out end out r
unfolding stored_bytes
put-past out end b r e h = record { stored = sym (set_out out r b h); ends = e }

-- a byte that is wanted, and one that is not
pub only-true : {t : Bool} (b : ℕ) → t ≡ true → (only t b ≡ b ∷ []) × (1 ≤ length (only t b))
only-true b e = (rw e, rw e (omega arith))

pub only-false : {t : Bool} (b : ℕ) → t ≡ false → only t b ≡ []
only-false b e = rw e

-- the same text in other words
pub put_as : {t s : List ℕ} → t ≡ s → {out out' : List ℕ} {end r : ℕ} → PutBack s out end out' r → PutBack t out end out' r
put_as e {out} {out'} {end} {r} h = subst (λ (x : List ℕ). PutBack x out end out' r) (sym e) h

-- a is stored in front of b
pub put_then : (a b : List ℕ) {out out' out'' : List ℕ} {end m r : ℕ} → PutBack b out end out' m → PutBack a out' m out'' r
    → PutBack (a ++ b) out end out'' r
put_then a b {out} {out'} {out''} {end} {m} {r} x y =
    let e = y.ends in
    let f = x.ends in
    let l = length-append a b in
    record {
      stored = y.stored ∙ ap (λ (l : List ℕ). stored_bytes l r a) (x.stored ∙ ap (λ (k : ℕ). stored_bytes out k b) (sym e))
          ∙ stored_append out r a b;
      ends = omega arith;
    }

-- a number has a digit
pub some-digit : (n : ℕ) → 1 ≤ length (decimal n)
some-digit n = ⊎_elim
    (λ (h : n < 10). rw (decimal_digit n h) (omega arith))
    (λ (h : 10 ≤ n). rw (decimal_tens n h, length-snoc) (omega arith))
    (below_or n 10)

-- the digits of a number
pub digits-first : (n : ℕ) (out : List ℕ) (end : ℕ) → Digits n n out end out end
digits-first n out end = record { text = []; whole = append-nil (decimal n); put = put-none out end }

module _ {n left : ℕ} {out : List ℕ} {end : ℕ} {out' : List ℕ} {at : ℕ} (d : Digits n left out end out' at) where
  -- the digits that are left have room
  pub digits-room : length (decimal n) ≤ end → length (decimal left) ≤ at
  digits-room h = let l = length-append (decimal left) d.text in let e = ap length d.whole in let f = d.put.ends in omega arith

  -- one digit more is stored
  pub digits-next : 10 ≤ left → {out'' : List ℕ} {r : ℕ} → PutBack (digit (left % 10) ∷ []) out' at out'' r
      → Digits n (left / 10) out end out'' r
  digits-next h y = record {
    text = digit (left % 10) ∷ d.text;
    whole = sym (append_assoc (decimal (left / 10)) (digit (left % 10) ∷ []) d.text)
        ∙ ap (λ (l : List ℕ). l ++ d.text) (sym (decimal_tens left h)) ∙ d.whole;
    put = put_then (digit (left % 10) ∷ []) d.text d.put y;
  }

  -- the first digit is stored
  pub digits-done : left < 10 → {out'' : List ℕ} {r : ℕ} → PutBack (digit left ∷ []) out' at out'' r → PutBack (decimal n) out end out'' r
  digits-done h {out''} {r} y =
      rw (← d.whole, decimal_digit left h) (put_then (digit left ∷ []) d.text d.put y)
