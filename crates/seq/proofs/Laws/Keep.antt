-- The elements of a list that pass a test, and whether all do. No contract cites this file.
--     keep_pass, keep_fail             one element in front
--     keep_append                      a list in two parts
--     keep_ext                         two tests that agree
--     keep-map                         of a mapped list
--     keep-run-none, keep-run-all      a run of which none passes, or all
--     length-keep, keep-le             how many pass: a sum of ones; not more than there are
--     all-fails                        a test that not all pass, at an index
--     all_append, all_map, all_keep, all_first     a test of all, in two parts, of a mapped list, of those kept, of the first
--     all_take, all_drop               of the first ones, and of the others
-- Assumes nothing.
use Prim.Native.Nat.{ℕ, zero, suc, ◌+◌, ◌<◌, ◌≤◌}
use native.Mathlib.Omega.{arith}
use mathlib.Core.Path.{◌≡◌, refl, ap, ap₂}
use mathlib.Core.Bool.{Bool, true, false, cond, ◌&&◌}
use mathlib.Core.List.{List, [], ◌∷◌, ◌++◌, map}
use mathlib.Core.Option.{some}
use lib.ListN.{length, get_or, take, drop}
use Rattle.seq.specs.Lists.{cons_if, keep, all, total, first}
use Rattle.seq.specs.Numbers.{run}
use Rattle.seq.proofs.Laws.Tests.{both, both_true, contrary}

-- two tests that agree keep the same
pub keep_ext : {A : Type 0} (s t : A → Bool) → ((x : A) → s x ≡ t x) → (xs : List A) → keep s xs ≡ keep t xs
unfolding keep
keep_ext s t e [] = refl
keep_ext {A = A} s t e (x ∷ xs) = ap₂ (λ (b : Bool) (l : List A). cons_if b x l) (e x) (keep_ext s t e xs)

-- the elements of a mapped list that pass a test
pub keep-map : {A B : Type 0} (test : B → Bool) (f : A → B) (xs : List A) → keep test (map f xs) ≡ map f (keep (λ x. test (f x)) xs)
unfolding keep
keep-map test f [] = refl
keep-map test f (x ∷ xs) = go (test (f x)) (keep-map test f xs)
  where
    go : (t : Bool) → keep test (map f xs) ≡ map f (keep (λ y. test (f y)) xs) → cons_if t (f x) (keep test (map f xs)) ≡ map f (cons_if t x (keep (λ y. test (f y)) xs))
    go true e = ap (λ ys. f x ∷ ys) e
    go false e = e

module _ {A : Type 0} (test : A → Bool) where
  pub keep_pass : (x : A) (xs : List A) → test x ≡ true → keep test (x ∷ xs) ≡ x ∷ keep test xs
  unfolding keep
  keep_pass x xs e = rw e

  pub keep_fail : (x : A) (xs : List A) → test x ≡ false → keep test (x ∷ xs) ≡ keep test xs
  unfolding keep
  keep_fail x xs e = rw e

  pub keep_append : (xs ys : List A) → keep test (xs ++ ys) ≡ keep test xs ++ keep test ys
  unfolding keep
  keep_append [] ys = refl
  keep_append (x ∷ xs) ys = go (test x) (keep_append xs ys)
    where
      go : (t : Bool) → keep test (xs ++ ys) ≡ keep test xs ++ keep test ys → cons_if t x (keep test (xs ++ ys)) ≡ cons_if t x (keep test xs) ++ keep test ys
      go true e = ap (λ (l : List A). x ∷ l) e
      go false e = e

  -- no value of a run passes
  pub keep-run-none : (f : ℕ → A) (k m : ℕ) → ((j : ℕ) → k ≤ j → j < k + m → test (f j) ≡ false) → keep test (run f k m) ≡ []
  unfolding keep run
  keep-run-none f k zero e = refl
  keep-run-none f k (suc m) e = rw (e k (omega arith) (omega arith)) (keep-run-none f (suc k) m (λ j a b. e j (omega arith) (omega arith)))

  -- every value of a run passes
  pub keep-run-all : (f : ℕ → A) (k m : ℕ) → ((j : ℕ) → k ≤ j → j < k + m → test (f j) ≡ true) → keep test (run f k m) ≡ run f k m
  unfolding keep run
  keep-run-all f k zero e = refl
  keep-run-all f k (suc m) e =
      rw (e k (omega arith) (omega arith)) (ap (λ (l : List A). f k ∷ l) (keep-run-all f (suc k) m (λ j a b. e j (omega arith) (omega arith))))

  -- how many pass
  pub length-keep : (xs : List A) → length (keep test xs) ≡ total (λ x. cond (test x) 1 0) xs
  unfolding keep total
  length-keep [] = refl
  length-keep (x ∷ xs) = go (test x) (length-keep xs)
    where
      go : (t : Bool) → length (keep test xs) ≡ total (λ x. cond (test x) 1 0) xs → length (cons_if t x (keep test xs)) ≡ cond t 1 0 + total (λ x. cond (test x) 1 0) xs
      go true e = omega arith
      go false e = omega arith

  pub keep-le : (xs : List A) → length (keep test xs) ≤ length xs
  unfolding keep
  keep-le [] = omega arith
  keep-le (x ∷ xs) = go (test x) (keep-le xs)
    where
      go : (t : Bool) → length (keep test xs) ≤ length xs → length (cons_if t x (keep test xs)) ≤ suc (length xs)
      go true h = omega arith
      go false h = omega arith

  pub all-fails : (d : A) (xs : List A) → all test xs ≡ false → (i : ℕ) × (i < length xs) × (test (get_or xs i d) ≡ false)
  unfolding all
  all-fails d [] e = absurd (contrary refl e)
  all-fails d (x ∷ xs) e = go (test x) refl e (all-fails d xs)
    where
      go : (t : Bool) → test x ≡ t → (t && all test xs) ≡ false → (all test xs ≡ false → (i : ℕ) × (i < length xs) × (test (get_or xs i d) ≡ false)) → (i : ℕ) × (i < suc (length xs)) × (test (get_or (x ∷ xs) i d) ≡ false)
      go true q f rest = let w = rest f in (suc w.0, omega (arith, w.1), w.2)
      go false q f rest = (0, omega arith, q)

  pub all_take : (n : ℕ) (xs : List A) → all test xs ≡ true → all test (take n xs) ≡ true
  unfolding all
  all_take zero xs e = refl
  all_take (suc n) [] e = refl
  all_take (suc n) (x ∷ xs) e = let w = both (test x) (all test xs) e in both_true (test x) (all test (take n xs)) w.0 (all_take n xs w.1)

  pub all_drop : (n : ℕ) (xs : List A) → all test xs ≡ true → all test (drop n xs) ≡ true
  unfolding all
  all_drop zero xs e = e
  all_drop (suc n) [] e = refl
  all_drop (suc n) (x ∷ xs) e = all_drop n xs (both (test x) (all test xs) e).1

  pub all_append : (xs ys : List A) → all test xs ≡ true → all test ys ≡ true → all test (xs ++ ys) ≡ true
  unfolding all
  all_append [] ys p q = q
  all_append (x ∷ xs) ys p q = let w = both (test x) (all test xs) p in both_true (test x) (all test (xs ++ ys)) w.0 (all_append xs ys w.1 q)

  -- those that pass another test too
  pub all_keep : (other : A → Bool) (xs : List A) → all test xs ≡ true → all test (keep other xs) ≡ true
  unfolding all keep
  all_keep other [] e = refl
  all_keep other (x ∷ xs) e = let w = both (test x) (all test xs) e in go (other x) w.0 (all_keep other xs w.1)
    where
      go : (t : Bool) → test x ≡ true → all test (keep other xs) ≡ true → all test (cons_if t x (keep other xs)) ≡ true
      go true p q = both_true (test x) (all test (keep other xs)) p q
      go false p q = q

  pub all_first : (xs : List A) (x : A) → all test xs ≡ true → first xs ≡ some x → test x ≡ true
  unfolding all
  all_first [] x e f = let z : ◌≡◌ {A = ℕ} 0 1 = cc in absurd (omega arith)
  all_first (y ∷ ys) x e f = let q : y ≡ x = cc in rw (← q) (both (test y) (all test ys) e).0

pub all_map : {A B : Type 0} (test : B → Bool) (f : A → B) (xs : List A) → all (λ x. test (f x)) xs ≡ true → all test (map f xs) ≡ true
unfolding all
all_map test f [] e = refl
all_map test f (x ∷ xs) e = let w = both (test (f x)) (all (λ x. test (f x)) xs) e in both_true (test (f x)) (all test (map f xs)) w.0 (all_map test f xs w.1)
