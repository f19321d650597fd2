-- Falls of the stream: what `src/order.rt` and `src/blocks.rt` count. No call's promise rests on this file. Assumes nothing.
use Rattle.std.specs.Prelude.{ℕ, ◌+◌, ◌≤◌, ◌≡◌, cond, List, ltb, Result, Ok, Err, ⊤}
use Rattle.seq.specs.Numbers.{sum_to}
use Rattle.volume.specs.declared.answers.Refusal.{Refusal}
use Rattle.volume.specs.declared.answers.Refusal.TheVariants.{Number, Checksum}
use Rattle.volume.specs.Layout.{word, stream_length, list_count, lead, extent}
use Rattle.volume.specs.Check.{number_wrong, block_wrong, bad_block, blocks_wrong, bad_list}

-- 1 where y is not above x
abbrev pub fall_of : ℕ → ℕ → ℕ
fall_of x y = cond (ltb x y) 0 1

-- 1 where f (i + 1) is not above f i
unfoldable pub fall : (ℕ → ℕ) → ℕ → ℕ
fall f i = fall_of (f i) (f (i + 1))

-- the falls of v's stream before index m
abbrev pub falls_before : List ℕ → ℕ → ℕ
falls_before v m = sum_to (fall (word v)) m

-- n falls at the last postings of v's lists: no more than the lists have in all, and if as many then every list rises
pub record ListFalls (v : List ℕ) (n : ℕ) : Type 0 where
  pub few : n ≤ 1024
  pub within : falls_before v (lead (list_count v)) + n ≤ falls_before v (extent v)
  pub exact : falls_before v (lead (list_count v)) + n ≡ falls_before v (extent v) → bad_list v ≡ list_count v

-- why block k is refused, where it is wrong
abbrev pub block_refusal : List ℕ → ℕ → Refusal
block_refusal v k = cond (number_wrong v k) (Number k) (Checksum k)

-- what the test of block k answers
unfoldable pub block_answer : List ℕ → ℕ → Result ⊤ Refusal
block_answer v k = cond (block_wrong v k) (Err (block_refusal v k)) (Ok tt)

-- what the pass over the blocks answers: the falls of the stream, or why the lowest block that is wrong is refused
unfoldable pub blocks_answer : List ℕ → Result ℕ Refusal
blocks_answer v = cond (blocks_wrong v) (Err (block_refusal v (bad_block v))) (Ok (falls_before v (stream_length v)))
