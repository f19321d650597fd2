-- Words for functions of an index: the first index at which a test holds, the values as a list, and their sum.
-- Assumes nothing.
use Rattle.std.specs.Prelude.{ℕ, zero, suc, ◌+◌, Bool, cond, ltb, List, [], ◌∷◌, Option, Some, None}

-- the least j with k ≤ j < k + m at which the test holds; k + m where there is none
unfoldable pub first_from : (ℕ → Bool) → ℕ → ℕ → ℕ
first_from test k zero = k
first_from test k (suc m) = let rest = first_from test (suc k) m in cond (test k) k rest

-- f k, f (k + 1), .., m of them
unfoldable pub run : {A : Type 0} → (ℕ → A) → ℕ → ℕ → List A
run f k zero = []
run f k (suc m) = f k ∷ run f (suc k) m

-- f 0 + .. + f (m − 1)
unfoldable pub sum_to : (ℕ → ℕ) → ℕ → ℕ
sum_to f zero = 0
sum_to f (suc m) = sum_to f m + f m

-- the index k where it is below n; nothing where it is not
abbrev pub index_below : ℕ → ℕ → Option ℕ
index_below n k = cond (ltb k n) (Some k) None
