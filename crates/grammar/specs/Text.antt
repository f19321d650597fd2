-- Numbers as a line has them: in base ten, with one byte in front of each. Assumes nothing.
--     lead           the text of numbers
--     gap_after      the byte in front of the next one
use Rattle.std.specs.Prelude.{ℕ, List, [], ◌∷◌, ◌++◌}
use Rattle.seq.specs.Decimal.{decimal}

-- numbers with one space between them, and byte b in front of the first
unfoldable pub lead : ℕ → List ℕ → List ℕ
unfolding decimal
lead b [] = []
lead b (n ∷ ns) = (b ∷ decimal n) ++ lead 32 ns

-- the byte in front of the number that follows
abbrev pub gap_after : ℕ → List ℕ → ℕ
gap_after b [] = b
gap_after b (n ∷ ns) = 32
