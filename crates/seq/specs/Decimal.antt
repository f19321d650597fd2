-- Numbers in base ten, as bytes (ASCII). Assumes nothing.
use Rattle.std.specs.Prelude.{ℕ, zero, suc, ◌+◌, ◌/◌, ◌%◌, cond, List, [], ◌∷◌, ◌++◌, ltb}

-- a digit
abbrev pub digit : ℕ → ℕ
digit d = 48 + d

-- a number in base ten, with no zero in front, in at most k digits
unfoldable pub decimal_f : ℕ → ℕ → List ℕ
decimal_f zero n = []
decimal_f (suc k) n = let more = decimal_f k (n / 10) ++ (digit (n % 10) ∷ []) in cond (ltb n 10) (digit n ∷ []) more

-- a number in base ten, with no zero in front
unfoldable pub decimal : ℕ → List ℕ
unfolding decimal_f
decimal n = decimal_f (suc n) n
