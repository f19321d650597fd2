-- Where the words of the stream stand, and what stands behind them. No contract cites this file.
--     offset_in_block, word_in_block_lem    word i of block k
--     offset-is, word-near                  word i by one division, and the words behind it in its block
--     word-of_block                         word k of a block
--     word-behind                           behind the last block stand zeros
--     word_lt                               a word fits 32 bits
-- Assumes nothing.
use Prim.Native.Nat.{ℕ, ◌+◌, ◌*◌, ◌/◌, ◌%◌, ◌<◌, ◌≤◌}
use native.Mathlib.Omega.{arith}
use mathlib.Core.Path.{◌≡◌, ap}
use mathlib.Core.List.{List}
use lib.ListN.{length, get_or-eq_default}
use Rattle.block.specs.Bytes.{IsBytes, le32}
use Rattle.block.proofs.Laws.Bytes.{le32-lt}
use Rattle.volume.specs.Layout.{word, offset}

-- where word i of block k stands
pub offset_in_block : (k i : ℕ) → i < 126 → offset (126 * k + i) ≡ 512 * k + 4 + 4 * i
unfolding offset
offset_in_block k i h = omega arith

pub word_in_block_lem : (v : List ℕ) (k i : ℕ) → i < 126 → word v (126 * k + i) ≡ le32 v (512 * k + 4 + 4 * i)
unfolding word
word_in_block_lem v k i h = ap (le32 v) (offset_in_block k i h)

pub offset-is : (i : ℕ) → offset i ≡ 4 * i + 8 * (i / 126) + 4
unfolding offset
offset-is i = omega arith

pub word-near : (v : List ℕ) (i j : ℕ) → i % 126 + j < 126 → word v (i + j) ≡ le32 v (4 * i + 8 * (i / 126) + 4 + 4 * j)
unfolding word
word-near v i j h = let e = offset-is (i + j) in let q : offset (i + j) ≡ 4 * i + 8 * (i / 126) + 4 + 4 * j = omega arith in ap (le32 v) q

pub word-of_block : (v : List ℕ) (block k : ℕ) → k < 126 → word v (126 * block + k) ≡ le32 v (512 * block + 4 * k + 4)
unfolding word
word-of_block v block k h =
    let e = offset-is (126 * block + k) in
    let q : offset (126 * block + k) ≡ 512 * block + 4 * k + 4 = omega arith in
    ap (le32 v) q

offset-behind : (n i : ℕ) → 126 * n ≤ i → 512 * n ≤ offset i
unfolding offset
offset-behind n i h = omega arith

le32-behind : (v : List ℕ) (o : ℕ) → length v ≤ o → le32 v o ≡ 0
le32-behind v o h =
    let h1 : length v ≤ o + 1 = omega arith in
    let h2 : length v ≤ o + 2 = omega arith in
    let h3 : length v ≤ o + 3 = omega arith in
    rw (get_or-eq_default v 0 h, get_or-eq_default v 0 h1, get_or-eq_default v 0 h2, get_or-eq_default v 0 h3)

pub word-behind : (v : List ℕ) (n i : ℕ) → length v ≡ 512 * n → 126 * n ≤ i → word v i ≡ 0
unfolding word
word-behind v n i l h = let o = offset-behind n i h in le32-behind v (offset i) (omega arith)

pub word_lt : (v : List ℕ) (i : ℕ) → IsBytes v → word v i < 4294967296
unfolding word
word_lt v i b = le32-lt v (offset i) b
