-- The laws of `specs/Write.antt`: the bytes of words and of blocks, and the stream by its parts. No contract cites this file.
--     length-word_bytes, word_bytes_append, word_bytes-snoc, word_bytes_ext           the bytes of words
--     length-block_body, length-sealed                                                a block
--     length-blocks_from, blocks_from_append, blocks_from-snoc                        blocks
--     stream-count, stream_posting, stream-zero                                       the stream by its parts
--     word_bytes-postings                                                             behind the counts the stream is the postings
-- Assumes nothing.
use Prim.Native.Nat.{ℕ, zero, suc, ◌+◌, ◌*◌, ◌-◌, ◌<◌, ◌≤◌}
use native.Mathlib.Nat.{add-zero, zero-add, add-suc, suc-add}
use native.Mathlib.Omega.{arith}
use mathlib.Core.Path.{◌≡◌, refl, sym, ap, ap₂, ◌∙◌}
use mathlib.Core.List.{List, ◌++◌, append_assoc, append-nil}
use lib.ListN.{length, length-append, get_or-append, get_or-eq_default}
use lib.Seq.{get_or-append-add}
use Rattle.volume.specs.Layout.{lead}
use Rattle.block.specs.Bytes.{bytes32}
use Rattle.seq.specs.Lists.{at}
use Rattle.volume.specs.Write.{word_bytes, block_body, sealed, blocks_from, stream_of}

module _ (f : ℕ → ℕ) where
  pub length-word_bytes : (k m : ℕ) → length (word_bytes f k m) ≡ 4 * m
  unfolding word_bytes
  length-word_bytes k zero = refl
  length-word_bytes k (suc m) = rw (length-word_bytes (suc k) m) (omega arith)

  pub word_bytes_append : (k a b : ℕ) → word_bytes f k (a + b) ≡ word_bytes f k a ++ word_bytes f (k + a) b
  unfolding word_bytes
  word_bytes_append k zero b = rw (zero-add, add-zero)
  word_bytes_append k (suc a) b = rw (suc-add a b, add-suc k a) (ap (λ (l : List ℕ). bytes32 (f k) ++ l) (word_bytes_append (suc k) a b ∙ rw (suc-add k a)))

  pub word_bytes-snoc : (k m : ℕ) → word_bytes f k (m + 1) ≡ word_bytes f k m ++ bytes32 (f (k + m))
  unfolding word_bytes
  word_bytes-snoc k m = word_bytes_append k m 1

  pub word_bytes_ext : (g : ℕ → ℕ) (a b m : ℕ) → ((j : ℕ) → j < m → f (a + j) ≡ g (b + j)) → word_bytes f a m ≡ word_bytes g b m
  unfolding word_bytes
  word_bytes_ext g a b zero e = refl
  word_bytes_ext g a b (suc m) e =
      ap₂ (λ (x : ℕ) (l : List ℕ). bytes32 x ++ l)
      (rw (add-zero a, add-zero b) at (e 0 (omega arith)))
      (word_bytes_ext g (suc a) (suc b) m (λ j h. rw (suc-add a j, suc-add b j, ← add-suc a j, ← add-suc b j) (e (suc j) (omega arith))))

  pub length-block_body : (k : ℕ) → length (block_body f k) ≡ 508
  unfolding block_body
  length-block_body k = rw (length-word_bytes (126 * k) 126)

length-sealed : (xs : List ℕ) → length (sealed xs) ≡ length xs + 4
unfolding sealed
length-sealed xs = length-append xs _

module _ (f : ℕ → ℕ) where
  pub length-blocks_from : (k m : ℕ) → length (blocks_from f k m) ≡ 512 * m
  unfolding blocks_from
  length-blocks_from k zero = refl
  length-blocks_from k (suc m) = rw (length-append, length-sealed, length-block_body, length-blocks_from (suc k) m) (omega arith)

  pub blocks_from_append : (k a b : ℕ) → blocks_from f k (a + b) ≡ blocks_from f k a ++ blocks_from f (k + a) b
  unfolding blocks_from
  blocks_from_append k zero b = rw (zero-add, add-zero)
  blocks_from_append k (suc a) b =
      rw (suc-add a b, add-suc k a, ← suc-add k a)
      (ap (λ (l : List ℕ). sealed (block_body f k) ++ l) (blocks_from_append (suc k) a b) ∙ sym (append_assoc (sealed (block_body f k)) _ _))

  pub blocks_from-snoc : (k m : ℕ) → blocks_from f k (m + 1) ≡ blocks_from f k m ++ sealed (block_body f (k + m))
  unfolding blocks_from
  blocks_from-snoc k m = blocks_from_append k m 1 ∙ ap (λ (l : List ℕ). blocks_from f k m ++ l) (append-nil _)

-- the stream by its parts
module _ (counts postings : List ℕ) where
  stream-behind : (i j : ℕ) → i ≡ suc (suc j) → at (stream_of counts postings) i ≡ at (counts ++ postings) j
  stream-behind i j e = rw e

  pub stream-count : (i : ℕ) → 2 ≤ i → i - 2 < length counts → at (stream_of counts postings) i ≡ at counts (i - 2)
  stream-count i l h = stream-behind i (i - 2) (omega arith) ∙ get_or-append counts postings 0 (i - 2) h

  pub stream_posting : (i j : ℕ) → i ≡ lead (length counts) + j → at (stream_of counts postings) i ≡ at postings j
  stream_posting i j e = stream-behind i (length counts + j) (omega arith) ∙ get_or-append-add counts postings j 0

  pub stream-zero : (i j : ℕ) → i ≡ lead (length counts) + j → length postings ≤ j → at (stream_of counts postings) i ≡ 0
  stream-zero i j e h = stream_posting i j e ∙ get_or-eq_default postings 0 h

  pub word_bytes-postings : (first from m : ℕ) → first ≡ lead (length counts) + from → word_bytes (at postings) from m ≡ word_bytes (at (stream_of counts postings)) first m
  word_bytes-postings first from m e = word_bytes_ext (at postings) (at (stream_of counts postings)) from first m (λ j h. sym (stream_posting (first + j) (from + j) (omega arith)))
