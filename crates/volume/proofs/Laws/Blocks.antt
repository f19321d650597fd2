-- What is read from the blocks of a stream. No contract cites this file.
--     drop_block                               block j stands at 512 j
--     word-is                                  stream word i is read where it was written
--     block-right                              each block has its number and its checksum
-- Assumes nothing.
use Prim.Native.Nat.{ℕ, suc, ◌+◌, ◌-◌, ◌*◌, ◌/◌, ◌%◌, ◌<◌}
use native.Mathlib.Nat.{zero-add}
use native.Mathlib.Omega.{arith}
use mathlib.Core.Path.{◌≡◌, sym, ap, ◌∙◌}
use mathlib.Core.Bool.{false}
use mathlib.Core.List.{List, ◌++◌, append_assoc}
use lib.ListN.{take, drop}
use lib.Seq.{take_at, drop_at, drop-drop}
use Rattle.block.specs.Bytes.{bytes16, bytes32}
use Rattle.block.specs.Checksum.{check_a, check_b}
use Rattle.volume.specs.Layout.{block_number, covered, stored_a, stored_b, offset, word}
use Rattle.volume.specs.Check.{block_wrong}
use Rattle.volume.specs.Write.{word_bytes, block_body, sealed, blocks_from}
use Rattle.volume.proofs.Laws.Check.{right-passes}
use Rattle.block.proofs.Laws.Bytes.{le16-at, le32-at}
use Rattle.block.proofs.Laws.Checksum.{check_a-lt, check_b-lt}
use Rattle.volume.proofs.Laws.Write.{length-word_bytes, word_bytes_append, length-block_body, length-blocks_from, blocks_from_append}

module _ (f : ℕ → ℕ) where
  -- block j stands at 512 j
  drop_block : (n j : ℕ) → j < n → drop (512 * j) (blocks_from f 0 n) ≡ sealed (block_body f j) ++ blocks_from f (suc j) (n - (j + 1))
  unfolding blocks_from
  drop_block n j h =
      let e : n ≡ j + suc (n - (j + 1)) = omega arith in
      ap (λ (m : ℕ). drop (512 * j) (blocks_from f 0 m)) e
      ∙ ap (λ (l : List ℕ). drop (512 * j) l) (blocks_from_append f 0 j (suc (n - (j + 1))))
      ∙ drop_at (blocks_from f 0 j) (blocks_from f (0 + j) (suc (n - (j + 1)))) (512 * j) (length-blocks_from f 0 j)
      ∙ rw (zero-add j)

-- what is read from the blocks of a stream of words
module _ (f : ℕ → ℕ) (n : ℕ) where
  -- the checksum of block k, and the blocks behind it
  abbrev behind : ℕ → List ℕ
  behind k = bytes16 (check_a (block_body f k)) ++ (bytes16 (check_b (block_body f k)) ++ blocks_from f (suc k) (n - (k + 1)))

  at_block : (k : ℕ) → k < n → drop (512 * k) (blocks_from f 0 n) ≡ block_body f k ++ behind k
  unfolding sealed
  at_block k h = drop_block f n k h ∙ append_assoc (block_body f k) _ (blocks_from f (suc k) (n - (k + 1)))

  at_words : (k : ℕ) → k < n → drop (512 * k + 4) (blocks_from f 0 n) ≡ word_bytes f (126 * k) 126 ++ behind k
  unfolding block_body
  at_words k h = sym (drop-drop 4 (512 * k) (blocks_from f 0 n)) ∙ ap (λ (l : List ℕ). drop 4 l) (at_block k h)

  at-check : (k : ℕ) → k < n → drop (512 * k + 508) (blocks_from f 0 n) ≡ behind k
  at-check k h = sym (drop-drop 508 (512 * k) (blocks_from f 0 n)) ∙ ap (λ (l : List ℕ). drop 508 l) (at_block k h) ∙ drop_at (block_body f k) (behind k) 508 (length-block_body f k)

  covered-is : (k : ℕ) → k < n → covered (blocks_from f 0 n) k ≡ block_body f k
  covered-is k h = ap (λ (l : List ℕ). take 508 l) (at_block k h) ∙ take_at (block_body f k) (behind k) 508 (length-block_body f k)

  stored_a-is : (k : ℕ) → k < n → stored_a (blocks_from f 0 n) k ≡ check_a (block_body f k)
  stored_a-is k h = le16-at (blocks_from f 0 n) _ (512 * k + 508) (check_a (block_body f k)) (let l = check_a-lt (block_body f k) in omega arith) (at-check k h)

  stored_b-is : (k : ℕ) → k < n → stored_b (blocks_from f 0 n) k ≡ check_b (block_body f k)
  stored_b-is k h =
      le16-at (blocks_from f 0 n) _ (512 * k + 510) (check_b (block_body f k)) (let l = check_b-lt (block_body f k) in omega arith)
      (let e : 512 * k + 510 ≡ 512 * k + 508 + 2 = omega arith in
      ap (λ (o : ℕ). drop o (blocks_from f 0 n)) e ∙ sym (drop-drop 2 (512 * k + 508) (blocks_from f 0 n)) ∙ ap (λ (l : List ℕ). drop 2 l) (at-check k h))

  number_is : (k : ℕ) → k < n → k < 4294967296 → block_number (blocks_from f 0 n) k ≡ k
  unfolding block_body
  number_is k h l = le32-at (blocks_from f 0 n) (word_bytes f (126 * k) 126 ++ behind k) (512 * k) k l (at_block k h)

  -- word r of block k
  at-word : (k r : ℕ) → k < n → r < 126 → drop (512 * k + 4 + 4 * r) (blocks_from f 0 n) ≡ bytes32 (f (126 * k + r)) ++ (word_bytes f (suc (126 * k + r)) (126 - (r + 1)) ++ behind k)
  unfolding word_bytes
  at-word k r h l =
      let e : 126 ≡ r + suc (126 - (r + 1)) = omega arith in
      let split : word_bytes f (126 * k) 126 ≡ word_bytes f (126 * k) r ++ word_bytes f (126 * k + r) (suc (126 - (r + 1))) = ap (λ (m : ℕ). word_bytes f (126 * k) m) e ∙ word_bytes_append f (126 * k) r (suc (126 - (r + 1))) in
      sym (drop-drop (4 * r) (512 * k + 4) (blocks_from f 0 n))
      ∙ ap (λ (l : List ℕ). drop (4 * r) l) (at_words k h ∙ ap (λ (l : List ℕ). l ++ behind k) split ∙ append_assoc (word_bytes f (126 * k) r) (word_bytes f (126 * k + r) (suc (126 - (r + 1)))) (behind k))
      ∙ drop_at (word_bytes f (126 * k) r) (word_bytes f (126 * k + r) (suc (126 - (r + 1))) ++ behind k) (4 * r) (length-word_bytes f (126 * k) r)

  pub word-is : (i : ℕ) → i < 126 * n → f i < 4294967296 → word (blocks_from f 0 n) i ≡ f i
  unfolding word offset
  word-is i h l =
      let e : 126 * (i / 126) + i % 126 ≡ i = omega arith in
      let d = at-word (i / 126) (i % 126) (omega arith) (omega arith) in
      le32-at (blocks_from f 0 n) (word_bytes f (suc i) (126 - (i % 126 + 1)) ++ behind (i / 126)) (512 * (i / 126) + 4 + 4 * (i % 126)) (f i) l (rw e at d)

  pub block-right : (k : ℕ) → k < n → k < 4294967296 → block_wrong (blocks_from f 0 n) k ≡ false
  block-right k h l =
      let c = covered-is k h in
      right-passes (blocks_from f 0 n) k
      (record { number-right = number_is k h l; check_a-right = stored_a-is k h ∙ ap check_a (sym c); check_b-right = stored_b-is k h ∙ ap check_b (sym c) })
