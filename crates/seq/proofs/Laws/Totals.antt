-- Sums over a list. No contract cites this file.
--     total_add, total-ones            sums of two functions; of ones
--     total-map, total_append, total-joined     of a mapped list, of one in two parts, of joined lists
--     total-same, total_ext            of functions that agree on the elements, or everywhere
--     total-zero                       a sum that is 0
--     total_permuted                   of the same elements in another order
-- Assumes nothing.
use Prim.Native.Nat.{ℕ, zero, suc, ◌+◌, ◌<◌}
use native.Mathlib.Omega.{arith}
use mathlib.Core.Path.{◌≡◌, refl, ap, ap₂, ◌∙◌}
use mathlib.Core.List.{List, [], ◌∷◌, ◌++◌, map}
use lib.ListN.{length, get_or}
use Rattle.seq.specs.Lists.{total, joined, Permutation, same, next, swap, then}

module _ {A : Type 0} where
  pub total_add : (f g : A → ℕ) (xs : List A) → total f xs + total g xs ≡ total (λ x. f x + g x) xs
  unfolding total
  total_add f g [] = refl
  total_add f g (x ∷ xs) = let e = total_add f g xs in omega arith

  pub total-ones : (xs : List A) → total (λ x. 1) xs ≡ length xs
  unfolding total
  total-ones [] = refl
  total-ones (x ∷ xs) = let e = total-ones xs in omega arith

  pub total_append : (f : A → ℕ) (xs ys : List A) → total f (xs ++ ys) ≡ total f xs + total f ys
  unfolding total
  total_append f [] ys = omega arith
  total_append f (x ∷ xs) ys = let e = total_append f xs ys in omega arith

  pub total-joined : (f : A → ℕ) (xss : List (List A)) → total f (joined xss) ≡ total (total f) xss
  unfolding total joined
  total-joined f [] = refl
  total-joined f (xs ∷ xss) = total_append f xs (joined xss) ∙ ap (λ (n : ℕ). total f xs + n) (total-joined f xss)

  -- functions that agree on the elements
  pub total-same : (f g : A → ℕ) (d : A) (xs : List A) → ((i : ℕ) → i < length xs → f (get_or xs i d) ≡ g (get_or xs i d)) → total f xs ≡ total g xs
  unfolding total
  total-same f g d [] e = refl
  total-same f g d (x ∷ xs) e = ap₂ (λ (a b : ℕ). a + b) (e 0 (omega arith)) (total-same f g d xs (λ i h. e (suc i) (omega arith)))

  pub total_ext : (f g : A → ℕ) (xs : List A) → ((x : A) → f x ≡ g x) → total f xs ≡ total g xs
  unfolding total
  total_ext f g [] e = refl
  total_ext f g (x ∷ xs) e = ap₂ (λ (a b : ℕ). a + b) (e x) (total_ext f g xs e)

  pub total-zero : (f : A → ℕ) (d : A) (xs : List A) → total f xs ≡ 0 → (i : ℕ) → i < length xs → f (get_or xs i d) ≡ 0
  unfolding total
  total-zero f d [] e i h = absurd (let z : ⊥ = omega arith in z)
  total-zero f d (x ∷ xs) e zero h = omega arith
  total-zero f d (x ∷ xs) e (suc i) h = total-zero f d xs (omega arith) i (omega arith)

pub total_permuted : {A : Type 0} (f : A → ℕ) (xs ys : List A) → Permutation xs ys → total f xs ≡ total f ys
unfolding total
total_permuted f xs ys (same zs) = refl
total_permuted f xs ys (next x ps qs s) = ap (λ (n : ℕ). f x + n) (total_permuted f ps qs s)
total_permuted f xs ys (swap x y zs) = omega arith
total_permuted f xs ys (then ps qs rs s t) = total_permuted f ps qs s ∙ total_permuted f qs rs t

pub total-map : {A B : Type 0} (f : B → ℕ) (g : A → B) (xs : List A) → total f (map g xs) ≡ total (λ x. f (g x)) xs
unfolding total
total-map f g [] = refl
total-map f g (x ∷ xs) = ap (λ (n : ℕ). f (g x) + n) (total-map f g xs)
