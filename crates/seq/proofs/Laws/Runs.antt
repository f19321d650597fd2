-- More laws of runs, sums and searches. No contract cites this file.
--     first-is, first_past                  a search that ends at k; one that finds nothing
--     map-run, run-get_or, joined_runs      runs under map and joined; the values of a list
--     run-front, run-behind                 runs over a list in two parts
--     sum_cons, sum-total                   the sum of a list's elements, over its indices
--     total_differs                         the sums of two lists that differ at one index
-- Assumes nothing.
use Prim.Native.Nat.{ℕ, zero, suc, ◌+◌, ◌<◌, ◌≤◌}
use native.Mathlib.Nat.{zero-add, add_assoc}
use native.Mathlib.Numerals.{add-one}
use native.Mathlib.Omega.{arith}
use mathlib.Core.Path.{◌≡◌, refl, sym, ap, ap₂, ◌∙◌}
use mathlib.Core.Bool.{Bool, true, false}
use mathlib.Core.Logic.{⊎_elim, ◌≢◌}
use mathlib.Core.List.{List, [], ◌∷◌, ◌++◌, map, append-nil}
use lib.ListN.{length, get_or, get_or-append}
use lib.Seq.{ext_get_or, get_or-append-add}
use Rattle.seq.specs.Lists.{total, joined}
use Rattle.seq.specs.Numbers.{first_from, run, sum_to}
use Rattle.seq.proofs.Laws.Tests.{below_or, contrary}
use Rattle.seq.proofs.Laws.Lists.{joined_append}
use Rattle.seq.proofs.Laws.Numbers.{first-at, first-before, first-none, run_append, run-snoc, run_ext, sum-front}

-- the first index that passes a test
pub first-is : (test : ℕ → Bool) (n k : ℕ) → k < n → test k ≡ true → ((j : ℕ) → j < k → test j ≡ false) → first_from test 0 n ≡ k
first-is test n k h e none =
    let up : first_from test 0 n ≤ k = ⊎_elim (λ l. absurd (contrary e (first-before test 0 n k (omega arith) l))) (λ l. l) (below_or k (first_from test 0 n)) in
    let down : k ≤ first_from test 0 n = ⊎_elim (λ (l : first_from test 0 n < k). absurd (contrary (first-at test 0 n (omega arith)) (none (first_from test 0 n) l))) (λ l. l) (below_or (first_from test 0 n) k) in
    omega arith

-- no index below n passes the test
pub first_past : (test : ℕ → Bool) (n : ℕ) → ((j : ℕ) → j < n → test j ≡ false) → n ≤ first_from test 0 n
first_past test n none = let e = first-none test 0 n (λ j a b. none j (omega arith)) in omega arith

-- a function of the values of a run
pub map-run : {A B : Type 0} (g : A → B) (f : ℕ → A) (k m : ℕ) → map g (run f k m) ≡ run (λ i. g (f i)) k m
unfolding run
map-run g f k zero = refl
map-run {A} {B} g f k (suc m) = ap (λ (l : List B). g (f k) ∷ l) (map-run g f (suc k) m)

-- the values at all indices of a list are the list
pub run-get_or : {A : Type 0} (d : A) (xs : List A) → run (λ i. get_or xs i d) 0 (length xs) ≡ xs
unfolding run
run-get_or d [] = refl
run-get_or {A} d (x ∷ xs) = ap (λ (l : List A). x ∷ l) (run_ext (λ i. get_or (x ∷ xs) i d) (λ i. get_or xs i d) 1 0 (length xs) (λ j h. next j) ∙ run-get_or d xs)
  where
    next : (j : ℕ) → get_or (x ∷ xs) (1 + j) d ≡ get_or xs (0 + j) d
    next j = let e : 1 + j ≡ suc j = omega arith in rw (e, zero-add j)

-- runs back to back are one run
pub joined_runs : {A : Type 0} (f : ℕ → A) (s : ℕ) (c : ℕ → ℕ) (n : ℕ) → joined (run (λ i. run f (s + sum_to c i) (c i)) 0 n) ≡ run f s (sum_to c n)
unfolding joined run sum_to
joined_runs f s c zero = refl
joined_runs {A} f s c (suc n) =
    ap (λ (m : ℕ). joined (run (λ i. run f (s + sum_to c i) (c i)) 0 m)) (sym (add-one n))
    ∙ ap joined (run-snoc (λ i. run f (s + sum_to c i) (c i)) 0 n)
    ∙ joined_append (run (λ i. run f (s + sum_to c i) (c i)) 0 n) _
    ∙ ap₂ (λ (a b : List A). a ++ b) (joined_runs f s c n) (append-nil _ ∙ ap (λ (i : ℕ). run f (s + sum_to c i) (c i)) (zero-add n))
    ∙ sym (run_append f s (sum_to c n) (c n))

-- a list in front of others, and the others behind it
pub run-front : (xs ys : List ℕ) → run (λ i. get_or (xs ++ ys) i 0) 0 (length xs) ≡ xs
run-front xs ys = run_ext (λ i. get_or (xs ++ ys) i 0) (λ i. get_or xs i 0) 0 0 (length xs) (λ j h. front (0 + j) (omega arith)) ∙ run-get_or 0 xs
  where
    front : (j : ℕ) → j < length xs → get_or (xs ++ ys) j 0 ≡ get_or xs j 0
    front j h = get_or-append xs ys 0 j h

pub run-behind : (xs ys : List ℕ) (k m : ℕ) → run (λ i. get_or (xs ++ ys) i 0) (length xs + k) m ≡ run (λ i. get_or ys i 0) k m
run-behind xs ys k m = run_ext (λ i. get_or (xs ++ ys) i 0) (λ i. get_or ys i 0) (length xs + k) k m (λ j h. rw (add_assoc (length xs) k j) (get_or-append-add xs ys (k + j) 0))

-- one more element in front
pub sum_cons : (x : ℕ) (xs : List ℕ) (m : ℕ) → sum_to (λ i. get_or (x ∷ xs) i 0) (suc m) ≡ x + sum_to (λ i. get_or xs i 0) m
sum_cons x xs m = sum-front (λ i. get_or (x ∷ xs) i 0) m

-- the sum of a list's elements, over its indices
pub sum-total : (xs : List ℕ) → sum_to (λ i. get_or xs i 0) (length xs) ≡ total (λ x. x) xs
unfolding total sum_to
sum-total [] = refl
sum-total (x ∷ xs) = sum_cons x xs (length xs) ∙ ap (λ (n : ℕ). x + n) (sum-total xs)

-- the sums of two lists that differ at one index
pub total_differs : (xs ys : List ℕ) (j : ℕ) → length xs ≡ length ys → j < length xs → ((i : ℕ) → i < length xs → i ≢ j → get_or xs i 0 ≡ get_or ys i 0) → total (λ x. x) xs + get_or ys j 0 ≡ total (λ x. x) ys + get_or xs j 0
unfolding total
total_differs [] ys j l h same = absurd (omega arith)
total_differs (x ∷ xs) [] j l h same = absurd (omega arith)
total_differs (x ∷ xs) (y ∷ ys) zero l h same =
    let m : length xs ≡ length ys = omega arith in
    let e : xs ≡ ys = ext_get_or 0 xs ys m (λ i k. same (suc i) (omega arith) (omega arith)) in
    let t = ap (total (λ x. x)) e in
    omega arith
total_differs (x ∷ xs) (y ∷ ys) (suc j) l h same =
    let e : x ≡ y = same 0 (omega arith) (omega arith) in
    let t = total_differs xs ys j (omega arith) (omega arith) (λ i k n. same (suc i) (omega arith) (omega arith)) in
    omega arith
