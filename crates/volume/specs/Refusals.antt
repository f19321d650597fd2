-- Document 01's refusals as relations, one line for each number: refusal n applies at place p. The order in which a call tells
-- them is the order of its stages, in a stage by place, at a place by number. Assumes nothing.
use Rattle.std.specs.Prelude.{ℕ, ◌*◌, ◌%◌, ◌<◌, ◌≤◌, ◌≡◌, ◌⊎◌, ◌≢◌, List, [], ◌∷◌, ◌++◌, length}
use Rattle.seq.specs.Lists.{total, NotRising}
use Rattle.block.specs.Checksum.{check_a, check_b}
use Rattle.volume.specs.Layout.{blocks, stream_length, block_number, covered, stored_a, stored_b, word}
use Rattle.volume.specs.Layout.{version, list_count, count, extent_of, extent, postings_of}
use Rattle.volume.specs.Write.{given_list}

-- n is the least number of blocks that holds w stream words, 126 to a block
pub record LeastBlocks (w n : ℕ) : Type 0 where
  pub enough : w ≤ 126 * n
  pub least : (m : ℕ) → w ≤ 126 * m → n ≤ m

-- the refusals of a volume
pub data VolumeApplies (v : List ℕ) : ℕ → ℕ → Type 0 where
  -- 1: length 0, not a multiple of 512, or over 8,192 blocks
  wrong_length : (length v ≡ 0) ⊎ ((length v % 512 ≢ 0) ⊎ (8192 < blocks v)) → VolumeApplies v 1 0
  -- 2: block number wrong; place: block
  wrong_number : (k : ℕ) → k < blocks v → block_number v k ≢ k → VolumeApplies v 2 k
  -- 3: check wrong; place: block
  wrongChecksum :
      (k : ℕ) → k < blocks v → (stored_a v k ≢ check_a (covered v k)) ⊎ (stored_b v k ≢ check_b (covered v k))
      → VolumeApplies v 3 k
  -- 4: edition not 1
  wrong_version : version v ≢ 1 → VolumeApplies v 4 0
  -- 5: T outside 1 to 1,024
  wrong_list_count : (list_count v < 1) ⊎ (1024 < list_count v) → VolumeApplies v 5 0
  -- 6: the number of blocks is not the least that holds 2 + T + S words
  wrong_extent : (LeastBlocks (extent v) (blocks v) → ⊥) → VolumeApplies v 6 0
  -- 7: a list does not rise; place: list
  wrong_order : (i : ℕ) → i < list_count v → NotRising (postings_of v i) → VolumeApplies v 7 i
  -- 8: a word behind the lists is not 0; place: stream index
  wrong_padding : (i : ℕ) → extent v ≤ i → i < stream_length v → word v i ≢ 0 → VolumeApplies v 8 i

-- the refusals of reading list i of a volume into a buffer of so many words: those of the volume, then 17 and 16
pub data ReadApplies (v : List ℕ) (i room : ℕ) : ℕ → ℕ → Type 0 where
  -- 1 to 8 of the volume
  of_volume : (n p : ℕ) → VolumeApplies v n p → ReadApplies v i room n p
  -- 17: list to be read not below T
  no_list : list_count v ≤ i → ReadApplies v i room 17 0
  -- 16: buffer shorter than the list read
  short_buffer : i < list_count v → room < count v i → ReadApplies v i room 16 0

-- the refusals of writing counts and postings into an output of so many bytes
pub data WriteApplies (counts postings : List ℕ) (room : ℕ) : ℕ → ℕ → Type 0 where
  -- 5: the number of counts outside 1 to 1,024
  wrong_counts : (length counts < 1) ⊎ (1024 < length counts) → WriteApplies counts postings room 5 0
  -- 18: counts do not sum to the number of postings
  wrong_sum : total (λ x. x) counts ≢ length postings → WriteApplies counts postings room 18 0
  -- 7: a given list does not rise; place: list
  wrong_given : (i : ℕ) → i < length counts → NotRising (given_list counts postings i) → WriteApplies counts postings room 7 i
  -- 19: more than 1,032,192 stream words
  over_large : 1032192 < extent_of (length counts) (length postings) → WriteApplies counts postings room 19 0
  -- 20: output shorter than the volume
  output_short :
      (n : ℕ) → LeastBlocks (extent_of (length counts) (length postings)) n → room < 512 * n
      → WriteApplies counts postings room 20 0

-- the stages of the calls; 2 and 3 share one, so that blocks go upward, 2 before 3 in each
abbrev pub volume_stages : List (List ℕ)
volume_stages = (1 ∷ []) ∷ (2 ∷ 3 ∷ []) ∷ (4 ∷ []) ∷ (5 ∷ []) ∷ (6 ∷ []) ∷ (7 ∷ []) ∷ (8 ∷ []) ∷ []

abbrev pub read_stages : List (List ℕ)
read_stages = volume_stages ++ ((17 ∷ []) ∷ (16 ∷ []) ∷ [])

abbrev pub write_stages : List (List ℕ)
write_stages = (5 ∷ []) ∷ (18 ∷ []) ∷ (7 ∷ []) ∷ (19 ∷ []) ∷ (20 ∷ []) ∷ []
