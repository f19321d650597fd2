-- The laws of AT LEAST (`specs/Patterns.antt`). No contract cites this file.
--     yeses_cons                   the answers that are yes, with one more on top
--     one-yes, all_yes             one of the top n answers is yes, or each of them, by how many are
--     at_least                     what AT LEAST answers
-- Assumes nothing.
use Prim.Native.Nat.{ℕ, zero, suc, ◌+◌, ◌<◌, ◌≤◌}
use native.Mathlib.Nat.{zero-add}
use native.Mathlib.Numerals.{one-add}
use native.Mathlib.Omega.{arith}
use mathlib.Core.Path.{◌≡◌, refl, sym}
use mathlib.Core.Bool.{Bool, true, false, true≢false}
use mathlib.Core.Logic.{◌↔◌}
use mathlib.Core.List.{List, [], ◌∷◌}
use lib.ListN.{length, get_or, take}
use lib.Dec.{leb}
use borrow.Author.Tests.{leb-true, le-leb}
use Rattle.seq.specs.Lists.{keep}
use Rattle.plan.specs.declared.row.Operator.TheVariants.{Both, Either, AtLeast}
use Rattle.plan.specs.Patterns.{yeses, operate}
use Rattle.plan.specs.Inner.Stack.{flag_of}
use Rattle.plan.specs.Demands.{AtLeasts}

pub yeses_cons : (t : Bool) (ts : List Bool) → yeses (t ∷ ts) ≡ flag_of t + yeses ts
unfolding yeses keep
yeses_cons true ts = sym (one-add (length (keep (λ (x : Bool). x) ts)))
yeses_cons false ts = sym (zero-add (length (keep (λ (x : Bool). x) ts)))

yeses-none : yeses [] ≡ 0
unfolding yeses keep
yeses-none = refl

-- no more of the top n answers are yes than they are
few-yeses : (n : ℕ) (ts : List Bool) → yeses (take n ts) ≤ n
few-yeses zero ts = rw yeses-none (omega arith)
few-yeses (suc n) [] = rw yeses-none (omega arith)
few-yeses (suc n) (true ∷ ts) = let l = few-yeses n ts in rw (yeses_cons true (take n ts)) (omega arith)
few-yeses (suc n) (false ∷ ts) = let l = few-yeses n ts in rw (yeses_cons false (take n ts)) (omega arith)

some-yes : (n : ℕ) (ts : List Bool) → 1 ≤ yeses (take n ts) → (i : ℕ) × (i < n) × (get_or ts i false ≡ true)
some-yes zero ts h = absurd (let e = yeses-none in let z : ⊥ = omega arith in z)
some-yes (suc n) [] h = absurd (let e = yeses-none in let z : ⊥ = omega arith in z)
some-yes (suc n) (true ∷ ts) h = (0, omega arith, refl)
some-yes (suc n) (false ∷ ts) h =
    let e = yeses_cons false (take n ts) in
    let w = some-yes n ts (omega arith) in
    (suc w.0, omega (arith, w.1), w.2)

yes-some : (n : ℕ) (ts : List Bool) (i : ℕ) → i < n → get_or ts i false ≡ true → 1 ≤ yeses (take n ts)
yes-some zero ts i l e = absurd (let z : ⊥ = omega arith in z)
yes-some (suc n) [] i l e = absurd (true≢false (sym e))
yes-some (suc n) (true ∷ ts) i l e = rw (yeses_cons true (take n ts)) (omega arith)
yes-some (suc n) (false ∷ ts) zero l e = absurd (true≢false (sym e))
yes-some (suc n) (false ∷ ts) (suc i) l e = let y = yes-some n ts i (omega arith) e in rw (yeses_cons false (take n ts)) (omega arith)

each-yes : (n : ℕ) (ts : List Bool) → n ≤ yeses (take n ts) → (i : ℕ) → i < n → get_or ts i false ≡ true
each-yes zero ts h i l = absurd (let z : ⊥ = omega arith in z)
each-yes (suc n) [] h i l = absurd (let e = yeses-none in let z : ⊥ = omega arith in z)
each-yes (suc n) (true ∷ ts) h zero l = refl
each-yes (suc n) (true ∷ ts) h (suc i) l = let e = yeses_cons true (take n ts) in each-yes n ts (omega arith) i (omega arith)
each-yes (suc n) (false ∷ ts) h i l =
    absurd (let e = yeses_cons false (take n ts) in let f = few-yeses n ts in let z : ⊥ = omega arith in z)

yes-each : (n : ℕ) (ts : List Bool) → ((i : ℕ) → i < n → get_or ts i false ≡ true) → n ≤ yeses (take n ts)
yes-each zero ts h = omega arith
yes-each (suc n) [] h = absurd (true≢false (sym (h 0 (omega arith))))
yes-each (suc n) (true ∷ ts) h = let y = yes-each n ts (λ i l. h (suc i) (omega arith)) in rw (yeses_cons true (take n ts)) (omega arith)
yes-each (suc n) (false ∷ ts) h = absurd (true≢false (sym (h 0 (omega arith))))

-- one of the top n answers is yes, and each of them, as AT LEAST counts them
pub one-yes : (n : ℕ) (ts : List Bool) → (leb 1 (yeses (take n ts)) ≡ true) ↔ ((i : ℕ) × (i < n) × (get_or ts i false ≡ true))
one-yes n ts =
    let y = yeses (take n ts) in
    (λ e. some-yes n ts (leb-true 1 y e), λ w. le-leb 1 y (yes-some n ts w.0 w.1 w.2))

pub all_yes : (n : ℕ) (ts : List Bool) → (leb n (yeses (take n ts)) ≡ true) ↔ ((i : ℕ) → i < n → get_or ts i false ≡ true)
all_yes n ts = let y = yeses (take n ts) in (λ e. each-yes n ts (leb-true n y e), λ h. le-leb n y (yes-each n ts h))

-- 1 of two is EITHER, and 2 of two are BOTH
either_is : (first second : Bool) (ts : List Bool) → operate (AtLeast 1 2) (second ∷ (first ∷ ts)) ≡ operate Either (second ∷ (first ∷ ts))
unfolding yeses keep
either_is true true ts = refl
either_is true false ts = refl
either_is false true ts = refl
either_is false false ts = refl

both_is : (first second : Bool) (ts : List Bool) → operate (AtLeast 2 2) (second ∷ (first ∷ ts)) ≡ operate Both (second ∷ (first ∷ ts))
unfolding yeses keep
both_is true true ts = refl
both_is true false ts = refl
both_is false true ts = refl
both_is false false ts = refl

pub at_least : (of : ℕ) (answers : List Bool) → AtLeasts of answers
at_least of answers = record {
  leaves = λ least. refl;
  one = one-yes of answers;
  all = all_yes of answers;
  fewer = λ m n l e.
      let h : n ≤ yeses (take of answers) = leb-true n (yeses (take of answers)) e in
      le-leb m (yeses (take of answers)) (omega arith);
  either = λ first second. either_is first second answers;
  both = λ first second. both_is first second answers;
}
