-- The checksum of a block from sums of its parts (02, N1), added up in any order. Assumes nothing.
--     weighed                    each byte i of a block 508 − i times
--     part_of, parts_of          the sums of a part that begins at byte o; of parts that stand one behind another
--     first_half, second_half    the sums of a block's halves, 256 bytes each
--     sums_of                    A and B from the sums of all parts
--     checksum_of                A and B as document 01 has them
use Rattle.std.specs.Prelude.{ℕ, suc, ◌+◌, ◌*◌, ◌-◌, ◌%◌, List, [], ◌∷◌, length, take}
use Rattle.seq.specs.Lists.{total}
use Rattle.block.specs.declared.checksum.Half.{Half}
use Rattle.block.specs.declared.checksum.Sums.{Sums}
use Rattle.block.specs.Checksum.{check_a, check_b}

-- bytes from byte o of a block on, byte i of the block 508 − i times
unfoldable pub weighed : ℕ → List ℕ → ℕ
weighed o [] = 0
weighed o (x ∷ xs) = (508 - o) * x + weighed (suc o) xs

-- the plain and the weighted sum of bytes from byte o on
abbrev pub part_of : ℕ → List ℕ → Half
part_of o xs = record { plain = total (λ x. x) xs; weighted = weighed o xs }

-- the sums of parts that stand one behind another, from byte o on
unfoldable pub parts_of : ℕ → List (List ℕ) → List Half
parts_of o [] = []
parts_of o (xs ∷ xss) = part_of o xs ∷ parts_of (o + length xs) xss

-- the halves of a block are its bytes 0 to 255 and 256 to 511; the last four of the second are the checksum itself, which is not summed
abbrev pub first_half : List ℕ → Half
first_half half = part_of 0 half

abbrev pub second_half : List ℕ → Half
second_half half = part_of 256 (take 252 half)

-- A is 1 and the plain sums, B is 508 and the weighted sums, both mod 65,535
unfoldable pub sums_of : List Half → Sums
sums_of ps = record {
  a = (1 + total (λ (p : Half). p.plain) ps) % 65535;
  b = (508 + total (λ (p : Half). p.weighted) ps) % 65535;
}

-- document 01's running pair, behind the last byte
abbrev pub checksum_of : List ℕ → Sums
checksum_of xs = record { a = check_a xs; b = check_b xs }
