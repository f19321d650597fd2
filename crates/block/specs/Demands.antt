-- The statement that the crate is held to, a named type. `proofs/Demands.antt` proves it in a line. Assumes nothing.
--     HalvesInAnyOrder    the checksum in another order of summing (02, N1)
use Rattle.std.specs.Prelude.{ℕ, ◌+◌, ◌*◌, ◌-◌, ◌%◌, ◌≡◌, List, [], ◌∷◌, ◌++◌, length, take}
use Rattle.seq.specs.Lists.{at, joined, Permutation}
use Rattle.seq.specs.Numbers.{sum_to}
use Rattle.block.specs.declared.checksum.Half.{Half}
use Rattle.block.specs.Checksum.{check_a, check_b}
use Rattle.block.specs.Parts.{parts_of, first_half, second_half, sums_of, checksum_of}

-- the 508 bytes that a checksum covers
pub record Covered (xs : List ℕ) : Type 0 where
  -- however they are cut into parts, and in whatever order the sums of the parts come, they add up to document 01's running pair
  pub parts : (cuts : List (List ℕ)) → joined cuts ≡ xs
      → (ps : List Half) → Permutation (parts_of 0 cuts) ps → sums_of ps ≡ checksum_of xs
  -- A is one plus the byte sum, and B is 508 plus the sum over i of (508 − i) × byte i, both mod 65,535
  pub plain : check_a xs ≡ (1 + sum_to (λ i. at xs i) 508) % 65535
  pub weighted : check_b xs ≡ (508 + sum_to (λ i. (508 - i) * at xs i) 508) % 65535

-- the two halves of a block, the checksum in the second: they give the running pair of the bytes in front of it, in both orders
pub record Halves (xs ys : List ℕ) : Type 0 where
  pub first_then_second : sums_of (first_half xs ∷ second_half ys ∷ []) ≡ checksum_of (take 508 (xs ++ ys))
  pub second_then_first : sums_of (second_half ys ∷ first_half xs ∷ []) ≡ checksum_of (take 508 (xs ++ ys))

pub record InAnyOrder : Type 0 where
  pub covered : (xs : List ℕ) → length xs ≡ 508 → Covered xs
  pub halves : (xs ys : List ℕ) → length xs ≡ 256 → length ys ≡ 256 → Halves xs ys
  -- two sums are joined alike in both orders, whatever they are sums of
  pub joining : (x y : Half) → sums_of (x ∷ y ∷ []) ≡ sums_of (y ∷ x ∷ [])

unfoldable pub HalvesInAnyOrder : Type 0
HalvesInAnyOrder = InAnyOrder
