-- Words for lists: the elements that pass a test, whether all or some do, sums and joins over a list, its elements, the same elements in
-- another order, and lists that rise.
-- Assumes nothing.
use Rattle.std.specs.Prelude.{ℕ, ◌+◌, ◌<◌, ◌≤◌, Bool, true, false, ◌&&◌, ◌||◌, List, [], ◌∷◌, ◌++◌, eqb, ltb, length, get_or}
use Rattle.std.proofs.Math.Option.{Option, none, some}

module _ {A : Type 0} where
  -- x in front where the test passes
  abbrev pub cons_if : Bool → A → List A → List A
  cons_if true x xs = x ∷ xs
  cons_if false x xs = xs

  -- the elements that pass a test, in order
  unfoldable pub keep : (A → Bool) → List A → List A
  keep test [] = []
  keep test (x ∷ xs) = cons_if (test x) x (keep test xs)

  -- every element passes
  unfoldable pub all : (A → Bool) → List A → Bool
  all test [] = true
  all test (x ∷ xs) = test x && all test xs

  -- some element passes
  unfoldable pub any : (A → Bool) → List A → Bool
  any test [] = false
  any test (x ∷ xs) = test x || any test xs

  -- f's numbers, added up
  unfoldable pub total : (A → ℕ) → List A → ℕ
  total f [] = 0
  total f (x ∷ xs) = f x + total f xs

  -- lists, joined in order
  unfoldable pub joined : List (List A) → List A
  joined [] = []
  joined (xs ∷ xss) = xs ++ joined xss

  -- the first element, if there is one
  abbrev pub first : List A → Option A
  first [] = none
  first (x ∷ xs) = some x

-- the same elements, each as often, in any order: what neighbours that change places can reach
pub data Permutation {A : Type 0} : List A → List A → Type 0 where
  same : (xs : List A) → Permutation xs xs
  next : (x : A) (xs ys : List A) → Permutation xs ys → Permutation (x ∷ xs) (x ∷ ys)
  swap : (x y : A) (xs : List A) → Permutation (x ∷ y ∷ xs) (y ∷ x ∷ xs)
  then : (xs ys zs : List A) → Permutation xs ys → Permutation ys zs → Permutation xs zs

-- element i of a list; behind its end 0
abbrev pub at : List ℕ → ℕ → ℕ
at xs i = get_or xs i 0

-- n is an element
unfoldable pub elem : ℕ → List ℕ → Bool
elem n [] = false
elem n (x ∷ xs) = eqb n x || elem n xs

-- a list rises strictly, and from above a
unfoldable pub above : ℕ → List ℕ → Bool
above a [] = true
above a (x ∷ xs) = ltb a x && above x xs

-- a list rises strictly
unfoldable pub rises : List ℕ → Bool
rises [] = true
rises (x ∷ xs) = above x xs

-- each element is below the next
abbrev pub Rising : List ℕ → Type 0
Rising xs = (j : ℕ) → j + 1 < length xs → get_or xs j 0 < get_or xs (j + 1) 0

-- some element is not below the next
abbrev pub NotRising : List ℕ → Type 0
NotRising xs = (j : ℕ) × (j + 1 < length xs) × (get_or xs (j + 1) 0 ≤ get_or xs j 0)
