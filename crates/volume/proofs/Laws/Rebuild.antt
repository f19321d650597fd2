-- Bytes whose blocks are in order are the blocks of the stream that is read from them. No contract cites this file.
--     covered_of, block_of     block k, from its words
--     rebuild                  all blocks
--     blocks_from_ext          blocks of streams that agree
-- Assumes nothing.
use Prim.Native.Nat.{ℕ, zero, suc, ◌+◌, ◌*◌, ◌<◌, ◌≤◌}
use native.Mathlib.Nat.{add-zero, add-suc}
use native.Mathlib.Omega.{arith}
use mathlib.Core.Path.{◌≡◌, refl, sym, ap, ap₂, ◌∙◌}
use mathlib.Core.Bool.{false}
use mathlib.Core.List.{List, ◌++◌}
use lib.ListN.{length, take, drop, take-append-drop, drop_of_length-le}
use lib.Seq.{drop-drop, take-add}
use Rattle.block.specs.Bytes.{IsBytes, le32, bytes16, bytes32}
use Rattle.block.specs.Checksum.{check_a, check_b}
use Rattle.volume.specs.Layout.{block_number, covered, word}
use Rattle.volume.specs.Check.{block_wrong}
use Rattle.volume.specs.Write.{word_bytes, block_body, sealed, blocks_from}
use Rattle.volume.proofs.Laws.Check.{Right, right}
use Rattle.volume.proofs.Laws.Write.{word_bytes_ext}
use Rattle.volume.proofs.Laws.Stream.{offset_in_block}
use Rattle.block.proofs.Laws.Bytes.{bytes16-of, bytes32-of}

module _ (v : List ℕ) (bytes : IsBytes v) where
  -- m words of block k from word r on
  words-of : (k r m : ℕ) → r + m ≤ 126 → 512 * k + 512 ≤ length v → take (4 * m) (drop (512 * k + 4 + 4 * r) v) ≡ word_bytes (word v) (126 * k + r) m
  unfolding word_bytes word
  words-of k r zero h l = refl
  words-of k r (suc m) h l =
      let o : ℕ = 512 * k + 4 + 4 * r in
      let e : 4 * suc m ≡ 4 + 4 * m = omega arith in
      let f : o + 4 ≡ 512 * k + 4 + 4 * suc r = omega arith in
      ap (λ (n : ℕ). take n (drop o v)) e
      ∙ take-add 4 (4 * m) (drop o v)
      ∙ ap₂ (λ (a b : List ℕ). a ++ b)
      (bytes32-of v o bytes (omega arith) ∙ ap (λ (p : ℕ). bytes32 (le32 v p)) (sym (offset_in_block k r (omega arith))))
      (ap (λ (p : List ℕ). take (4 * m) p) (drop-drop 4 o v ∙ ap (λ (p : ℕ). drop p v) f)
      ∙ words-of k (suc r) m (omega arith) l
      ∙ ap (λ (p : ℕ). word_bytes (word v) p m) (add-suc (126 * k) r))

  covered_of : (k : ℕ) → 512 * k + 512 ≤ length v → block_number v k ≡ k → covered v k ≡ block_body (word v) k
  unfolding block_body
  covered_of k l e =
      take-add 4 504 (drop (512 * k) v)
      ∙ ap₂ (λ (a b : List ℕ). a ++ b)
      (bytes32-of v (512 * k) bytes (omega arith) ∙ ap bytes32 e)
      (ap (λ (p : List ℕ). take 504 p) (drop-drop 4 (512 * k) v ∙ ap (λ (p : ℕ). drop p v) (sym (add-zero (512 * k + 4))))
      ∙ words-of k 0 126 (omega arith) l
      ∙ ap (λ (p : ℕ). word_bytes (word v) p 126) (add-zero (126 * k)))

  block_of : (k : ℕ) → 512 * k + 512 ≤ length v → Right v k → take 512 (drop (512 * k) v) ≡ sealed (block_body (word v) k)
  unfolding sealed
  block_of k l r =
      let c = covered_of k l r.number-right in
      take-add 508 4 (drop (512 * k) v)
      ∙ ap₂ (λ (a b : List ℕ). a ++ b) c
      (ap (λ (p : List ℕ). take 4 p) (drop-drop 508 (512 * k) v)
      ∙ take-add 2 2 (drop (512 * k + 508) v)
      ∙ ap₂ (λ (a b : List ℕ). a ++ b)
      (bytes16-of v (512 * k + 508) bytes (omega arith) ∙ ap bytes16 (r.check_a-right ∙ ap check_a c))
      (ap (λ (p : List ℕ). take 2 p) (drop-drop 2 (512 * k + 508) v ∙ ap (λ (p : ℕ). drop p v) two)
      ∙ bytes16-of v (512 * k + 510) bytes (omega arith)
      ∙ ap bytes16 (r.check_b-right ∙ ap check_b c)))
    where
      two : 512 * k + 508 + 2 ≡ 512 * k + 510
      two = omega arith

  blocks-of : (k m : ℕ) → length v ≡ 512 * (k + m) → ((j : ℕ) → j < k + m → Right v j) → drop (512 * k) v ≡ blocks_from (word v) k m
  unfolding blocks_from
  blocks-of k zero l r = let h : length v ≤ 512 * k = omega arith in drop_of_length-le v h
  blocks-of k (suc m) l r =
      let e : 512 * k + 512 ≡ 512 * suc k = omega arith in
      sym (take-append-drop 512 (drop (512 * k) v))
      ∙ ap₂ (λ (a b : List ℕ). a ++ b)
      (block_of k (omega arith) (r k (omega arith)))
      (drop-drop 512 (512 * k) v ∙ ap (λ (p : ℕ). drop p v) e ∙ blocks-of (suc k) m (omega arith) (λ j h. r j (omega arith)))

  -- bytes in order are the blocks of their own stream
  pub rebuild : (n : ℕ) → length v ≡ 512 * n → ((j : ℕ) → j < n → block_wrong v j ≡ false) → v ≡ blocks_from (word v) 0 n
  rebuild n l r = blocks-of 0 n (omega arith) (λ j h. right v j (r j (omega arith)))

-- blocks of two streams that agree
module _ (f g : ℕ → ℕ) where
  pub blocks_from_ext : (k m : ℕ) → ((j : ℕ) → 126 * k ≤ j → j < 126 * (k + m) → f j ≡ g j) → blocks_from f k m ≡ blocks_from g k m
  unfolding blocks_from block_body
  blocks_from_ext k zero e = refl
  blocks_from_ext k (suc m) e =
      ap₂ (λ (x l : List ℕ). sealed (bytes32 k ++ x) ++ l)
      (word_bytes_ext f g (126 * k) (126 * k) 126 (λ j h. e (126 * k + j) (omega arith) (omega arith)))
      (blocks_from_ext (suc k) m (λ j a b. e j (omega arith) (omega arith)))
