-- The laws of `specs/Numbers.antt`. No contract cites this file.
--     first-end, first_hit, first_miss     one step of a search that is at k and ends at n
--     first-none                           no index passes the test: the search ends at its end
--     first-le, first_ge, first-at, first-before     where it ends; the test holds there; and at no index before
--     search-found, search-clear           a search that ends in front of n, and one that does not
--     index-found, index-none              an index below n as an answer, and n itself or one behind it
--     run_end, run_step, run-snoc, run_append, run_ext, length_run, get_or-run
--     sum_step, sum-front, sum_more, sum-le, sum_mono, sum-within, sum_ext, sum_add
-- Assumes nothing.
use Prim.Native.Nat.{ℕ, zero, suc, ◌+◌, ◌-◌, ◌<◌, ◌≤◌}
use native.Mathlib.Nat.{add-zero, zero-add, suc-add, add-suc, le_refl, eq-or-lt_of_le}
use native.Mathlib.Numerals.{add-one}
use native.Mathlib.Omega.{arith}
use mathlib.Core.Path.{◌≡◌, refl, sym, ap, ap₂, ◌∙◌}
use mathlib.Core.Bool.{Bool, true, false, cond}
use mathlib.Core.Logic.{⊎_elim}
use mathlib.Core.List.{List, [], ◌∷◌, ◌++◌}
use lib.Dec.{ltb}
use borrow.Author.Tests.{ltb-true, ltb-false}
use Rattle.std.proofs.lemmas.Bool.{lt-ltb, le-ltb}
use Rattle.std.specs.Prelude.{Option, Some, None}
use lib.ListN.{length, get_or}
use Rattle.seq.specs.Numbers.{first_from, run, sum_to, index_below}
use Rattle.seq.proofs.Laws.Tests.{contrary, below_or}

sub-step : (k n : ℕ) → k < n → n - k ≡ suc (n - (k + 1))
sub-step k n h = omega arith

sub-none : (k n : ℕ) → n ≤ k → n - k ≡ 0
sub-none k n h = omega arith

module _ (test : ℕ → Bool) where
  pub first-end : (k n : ℕ) → n ≤ k → first_from test k (n - k) ≡ k
  unfolding first_from
  first-end k n h = rw (sub-none k n h)

  pub first_hit : (k n : ℕ) → k < n → test k ≡ true → first_from test k (n - k) ≡ k
  unfolding first_from
  first_hit k n h e = rw (sub-step k n h, first_from, e)

  pub first_miss : (k n : ℕ) → k < n → test k ≡ false → first_from test k (n - k) ≡ first_from test (k + 1) (n - (k + 1))
  unfolding first_from
  first_miss k n h e = ap (first_from test k) (sub-step k n h) ∙ ap (λ (t : Bool). cond t k (first_from test (suc k) (n - (k + 1)))) e ∙ ap (λ (j : ℕ). first_from test j (n - (k + 1))) (sym (add-one k))

  first_step : (k m : ℕ) (t : Bool) → test k ≡ t → first_from test k (suc m) ≡ cond t k (first_from test (suc k) m)
  unfolding first_from
  first_step k m t e = rw e

  pub first-le : (k m : ℕ) → first_from test k m ≤ k + m
  unfolding first_from
  first-le k zero = omega arith
  first-le k (suc m) = go (test k) refl (first-le (suc k) m)
    where
      go : (t : Bool) → test k ≡ t → first_from test (suc k) m ≤ suc k + m → first_from test k (suc m) ≤ k + suc m
      go true e h = rw (first_step k m true e) (omega arith)
      go false e h = rw (first_step k m false e) (omega arith)

  pub first_ge : (k m : ℕ) → k ≤ first_from test k m
  unfolding first_from
  first_ge k zero = omega arith
  first_ge k (suc m) = go (test k) refl (first_ge (suc k) m)
    where
      go : (t : Bool) → test k ≡ t → suc k ≤ first_from test (suc k) m → k ≤ first_from test k (suc m)
      go true e h = rw (first_step k m true e) (omega arith)
      go false e h = rw (first_step k m false e) (omega arith)

  -- the test holds where the search ends early
  pub first-at : (k m : ℕ) → first_from test k m < k + m → test (first_from test k m) ≡ true
  unfolding first_from
  first-at k zero h = absurd (omega arith)
  first-at k (suc m) h = go (test k) refl (first-at (suc k) m)
    where
      go : (t : Bool) → test k ≡ t → (first_from test (suc k) m < suc k + m → test (first_from test (suc k) m) ≡ true) → test (first_from test k (suc m)) ≡ true
      go true e rest = rw (first_step k m true e) e
      go false e rest =
          let w : first_from test (suc k) m < k + suc m = rw (first_step k m false e) at h in
          rw (first_step k m false e) (rest (omega arith))

  -- the test fails before where the search ends
  pub first-before : (k m j : ℕ) → k ≤ j → j < first_from test k m → test j ≡ false
  unfolding first_from
  first-before k zero j l h = absurd (omega arith)
  first-before k (suc m) j l h = go (test k) refl (first-before (suc k) m j)
    where
      go : (t : Bool) → test k ≡ t → (suc k ≤ j → j < first_from test (suc k) m → test j ≡ false) → test j ≡ false
      go true e rest = let w : j < k = rw (first_step k m true e) at h in absurd (omega arith)
      go false e rest =
          let w : j < first_from test (suc k) m = rw (first_step k m false e) at h in
          ⊎_elim (λ (q : k ≡ j). rw q at e) (λ q. rest q w) (eq-or-lt_of_le l)

  pub first-none : (k m : ℕ) → ((j : ℕ) → k ≤ j → j < k + m → test j ≡ false) → first_from test k m ≡ k + m
  first-none k m none = le_eq (first-le k m) (⊎_elim (λ h. absurd (contrary (first-at k m h) (none _ (first_ge k m) h))) (λ h. h) (below_or (first_from test k m) (k + m)))
    where
      le_eq : first_from test k m ≤ k + m → k + m ≤ first_from test k m → first_from test k m ≡ k + m
      le_eq a b = omega arith

-- a search as a test: whether it ends in front of n
module _ (test : ℕ → Bool) (k m n : ℕ) where
  pub search-found : n ≤ k + m → ltb (first_from test k m) n ≡ true → (first_from test k m < n) × (test (first_from test k m) ≡ true)
  search-found h e = let f : first_from test k m < n = ltb-true (first_from test k m) n e in (f, first-at test k m (omega arith))

  pub search-clear : ltb (first_from test k m) n ≡ false → (j : ℕ) → k ≤ j → j < n → test j ≡ false
  search-clear e j a b = let f : n ≤ first_from test k m = ltb-false (first_from test k m) n e in first-before test k m j a (omega arith)

module _ {A : Type 0} where
  pub run_end : (f : ℕ → A) (k n : ℕ) → n ≤ k → run f k (n - k) ≡ []
  unfolding run
  run_end f k n h = rw (sub-none k n h)

  pub run_step : (f : ℕ → A) (k n : ℕ) → k < n → run f k (n - k) ≡ f k ∷ run f (k + 1) (n - (k + 1))
  unfolding run
  run_step f k n h = rw (sub-step k n h, add-one k)

  pub length_run : (f : ℕ → A) (k m : ℕ) → length (run f k m) ≡ m
  unfolding run
  length_run f k zero = refl
  length_run f k (suc m) = ap suc (length_run f (suc k) m)

  pub run_append : (f : ℕ → A) (k a b : ℕ) → run f k (a + b) ≡ run f k a ++ run f (k + a) b
  unfolding run
  run_append f k zero b = rw (zero-add, add-zero)
  run_append f k (suc a) b = rw (suc-add a b, add-suc k a) (ap (λ (l : List A). f k ∷ l) (run_append f (suc k) a b ∙ rw (suc-add k a)))

  pub run-snoc : (f : ℕ → A) (k m : ℕ) → run f k (m + 1) ≡ run f k m ++ (f (k + m) ∷ [])
  unfolding run
  run-snoc f k m = run_append f k m 1

  pub run_ext : (f g : ℕ → A) (a b m : ℕ) → ((j : ℕ) → j < m → f (a + j) ≡ g (b + j)) → run f a m ≡ run g b m
  unfolding run
  run_ext f g a b zero e = refl
  run_ext f g a b (suc m) e =
      ap₂ (λ (x : A) (l : List A). x ∷ l)
      (rw (add-zero, add-zero) at (e 0 (omega arith)))
      (run_ext f g (suc a) (suc b) m (λ j h. rw (suc-add a j, suc-add b j, ← add-suc a j, ← add-suc b j) (e (suc j) (omega arith))))

  pub get_or-run : (f : ℕ → A) (k m j : ℕ) (d : A) → j < m → get_or (run f k m) j d ≡ f (k + j)
  unfolding run
  get_or-run f k zero j d h = absurd (omega arith)
  get_or-run f k (suc m) zero d h = rw add-zero
  get_or-run f k (suc m) (suc j) d h = get_or-run f (suc k) m j d (omega arith) ∙ rw (suc-add k j, ← add-suc k j)

pub sum_step : (f : ℕ → ℕ) (i : ℕ) → sum_to f (i + 1) ≡ sum_to f i + f i
unfolding sum_to
sum_step f i = rw add-one

-- the first value apart
pub sum-front : (f : ℕ → ℕ) (m : ℕ) → sum_to f (suc m) ≡ f 0 + sum_to (λ i. f (suc i)) m
unfolding sum_to
sum-front f zero = omega arith
sum-front f (suc m) = let e = sum-front f m in omega arith

pub sum_more : (f : ℕ → ℕ) (i s w : ℕ) → s ≡ sum_to f i → w ≡ f i → s + w ≡ sum_to f (i + 1)
sum_more f i s w a b = rw (a, b) (sym (sum_step f i))

pub sum-le : (f : ℕ → ℕ) (i k : ℕ) → sum_to f i ≤ sum_to f (i + k)
unfolding sum_to
sum-le f i zero = rw add-zero (le_refl _)
sum-le f i (suc k) = rw (add-suc i k) (let h = sum-le f i k in omega arith)

pub sum_mono : (f : ℕ → ℕ) (i n : ℕ) → i ≤ n → sum_to f i ≤ sum_to f n
sum_mono f i n h = let e : i + (n - i) ≡ n = omega arith in rw e at (sum-le f i (n - i))

-- the first i values and the next lie within all n
pub sum-within : (f : ℕ → ℕ) (i n : ℕ) → i < n → sum_to f i + f i ≤ sum_to f n
sum-within f i n h =
    let step = sum_step f i in
    let more : sum_to f (i + 1) ≤ sum_to f n = sum_mono f (i + 1) n (omega arith) in
    omega arith

pub sum_ext : (f g : ℕ → ℕ) (m : ℕ) → ((j : ℕ) → j < m → f j ≡ g j) → sum_to f m ≡ sum_to g m
unfolding sum_to
sum_ext f g zero e = refl
sum_ext f g (suc m) e = ap₂ (λ (a b : ℕ). a + b) (sum_ext f g m (λ j h. e j (omega arith))) (e m (omega arith))

-- the sum of two functions' values
pub sum_add : (f g : ℕ → ℕ) (m : ℕ) → sum_to (λ i. f i + g i) m ≡ sum_to f m + sum_to g m
unfolding sum_to
sum_add f g zero = refl
sum_add f g (suc m) = let e = sum_add f g m in omega arith

pub index-found : (n k : ℕ) → k < n → index_below n k ≡ Some k
index-found n k h = ap (λ (t : Bool). cond t (Some k) None) (lt-ltb k n h)

pub index-none : (n k : ℕ) → n ≤ k → index_below n k ≡ None
index-none n k h = ap (λ (t : Bool). cond t (Some k) None) (le-ltb k n h)
