-- The checksum of a block (01: check): A and B start at 1 and 0, and each byte moves A and then B. Assumes nothing.
use Rattle.std.specs.Prelude.{ℕ, ◌+◌, ◌%◌, List, [], ◌∷◌}

-- A after the bytes, from a
unfoldable pub sum_a : ℕ → List ℕ → ℕ
sum_a a [] = a
sum_a a (x ∷ xs) = sum_a ((a + x) % 65535) xs

-- B after the bytes, from a and b
unfoldable pub sum_b : ℕ → ℕ → List ℕ → ℕ
sum_b a b [] = b
sum_b a b (x ∷ xs) = sum_b ((a + x) % 65535) ((b + (a + x) % 65535) % 65535) xs

-- the two numbers that a block of these bytes stores
abbrev pub check_a : List ℕ → ℕ
check_a xs = sum_a 1 xs

abbrev pub check_b : List ℕ → ℕ
check_b xs = sum_b 1 0 xs
