-- The laws of `specs/Lists.antt`. No contract cites this file.
--     above-here, above-fall           one step of `above`
--     length-joined, joined_append     lists, joined
--     length-snoc                      the length of a list with one more at its end
--     total-snoc, all_snoc, keep_snoc     a sum, a test of all, and a count, with one more at the end
--     Each, each_cons, each_snoc       a fact of every element, of a list with one more in front, or at its end
--     all-each                         a test of all passes exactly if it passes for each element
-- Assumes nothing.
use Prim.Native.Nat.{ℕ, zero, suc, ◌+◌, ◌<◌, ◌≤◌}
use native.Mathlib.Omega.{arith}
use mathlib.Core.Path.{◌≡◌, refl, sym, ap, ◌∙◌}
use mathlib.Core.Bool.{Bool, true, false, cond, ◌&&◌, and_assoc}
use mathlib.Core.Logic.{◌↔◌}
use mathlib.Core.List.{List, [], ◌∷◌, ◌++◌, append_assoc}
use lib.ListN.{length, get_or, length-append}
use borrow.Author.Tests.{lt-ltb, le-ltb}
use Rattle.seq.specs.Lists.{cons_if, keep, all, total, joined, above}
use Rattle.seq.proofs.Laws.Tests.{both, both_true}

pub above-here : (a x : ℕ) (xs : List ℕ) → a < x → above a (x ∷ xs) ≡ above x xs
unfolding above
above-here a x xs h = rw (lt-ltb a x h)

pub above-fall : (a x : ℕ) (xs : List ℕ) → x ≤ a → above a (x ∷ xs) ≡ false
unfolding above
above-fall a x xs h = rw (le-ltb a x h)

pub length-joined : {A : Type 0} (xss : List (List A)) → length (joined xss) ≡ total length xss
unfolding joined total
length-joined [] = refl
length-joined (xs ∷ xss) = length-append xs (joined xss) ∙ ap (λ (n : ℕ). length xs + n) (length-joined xss)

pub joined_append : {A : Type 0} (xss yss : List (List A)) → joined (xss ++ yss) ≡ joined xss ++ joined yss
unfolding joined
joined_append [] yss = refl
joined_append {A} (xs ∷ xss) yss = ap (λ (l : List A). xs ++ l) (joined_append xss yss) ∙ sym (append_assoc xs (joined xss) (joined yss))

module _ {A : Type 0} where
  pub length-snoc : (xs : List A) (x : A) → length (xs ++ (x ∷ [])) ≡ length xs + 1
  length-snoc xs x = length-append xs (x ∷ [])

  pub total-snoc : (f : A → ℕ) (xs : List A) (x : A) → total f (xs ++ (x ∷ [])) ≡ total f xs + f x
  unfolding total
  total-snoc f [] x = omega arith
  total-snoc f (y ∷ ys) x = let e = total-snoc f ys x in omega arith

  pub all_snoc : (test : A → Bool) (xs : List A) (x : A) → all test (xs ++ (x ∷ [])) ≡ (all test xs && test x)
  unfolding all
  all_snoc test [] x = and-true (test x)
    where
      and-true : (t : Bool) → (t && true) ≡ t
      and-true true = refl
      and-true false = refl
  all_snoc test (y ∷ ys) x = ap (λ (t : Bool). test y && t) (all_snoc test ys x) ∙ sym (and_assoc (test y) (all test ys) (test x))

  -- how many pass a test, with one more at the end
  pub keep_snoc : (test : A → Bool) (xs : List A) (x : A) → length (keep test (xs ++ (x ∷ []))) ≡ length (keep test xs) + cond (test x) 1 0
  unfolding keep
  keep_snoc test [] x = go (test x)
    where
      go : (t : Bool) → length (cons_if t x []) ≡ 0 + cond t 1 0
      go true = refl
      go false = refl
  keep_snoc test (y ∷ ys) x = go (test y) (keep_snoc test ys x)
    where
      go : (t : Bool) → length (keep test (ys ++ (x ∷ []))) ≡ length (keep test ys) + cond (test x) 1 0 → length (cons_if t y (keep test (ys ++ (x ∷ [])))) ≡ length (cons_if t y (keep test ys)) + cond (test x) 1 0
      go true e = omega arith
      go false e = e

  -- P holds of every element
  abbrev pub Each : (A → Type 0) → A → List A → Type 0
  Each P d xs = (i : ℕ) → i < length xs → P (get_or xs i d)

  pub each_cons : (P : A → Type 0) (d x : A) (xs : List A) → P x → Each P d xs → Each P d (x ∷ xs)
  each_cons P d x xs p h zero l = p
  each_cons P d x xs p h (suc i) l = h i (omega arith)

  pub each_snoc : (P : A → Type 0) (d x : A) (xs : List A) → Each P d xs → P x → Each P d (xs ++ (x ∷ []))
  each_snoc P d x [] h p = each_cons P d x [] p h
  each_snoc P d x (y ∷ ys) h p = each_cons P d y (ys ++ (x ∷ [])) (h 0 (omega arith)) (each_snoc P d x ys (λ i l. h (suc i) (omega arith)) p)

  pub all-each : (test : A → Bool) (d : A) (xs : List A) → (all test xs ≡ true) ↔ Each (λ x. test x ≡ true) d xs
  unfolding all
  all-each test d [] = (λ e i l. absurd (omega arith), λ h. refl)
  all-each test d (x ∷ xs) = let rest = all-each test d xs in (
    λ e. let w = both (test x) (all test xs) e in each_cons (λ y. test y ≡ true) d x xs w.0 (rest.0 w.1),
    λ h. both_true (test x) (all test xs) (h 0 (omega arith)) (rest.1 (λ i l. h (suc i) (omega arith))),
  )
