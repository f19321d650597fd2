-- Document 02's refusals of joining as a relation, one line for each: at stage s refusal n applies at place p. Assumes nothing.
use Rattle.std.specs.Prelude.{ℕ, ◌+◌, ◌*◌, ◌<◌, ◌≤◌, ◌≡◌, ◌≢◌, List}
use Rattle.seq.specs.Lists.{at}
use Rattle.seq.specs.Refusals.{Staged, stage_in}
use Rattle.volume.specs.Posting.{doc_of}
use Rattle.volume.specs.Layout.{list_count, count, posting_count, extent_of, postings_of}
use Rattle.volume.specs.Refusals.{LeastBlocks, VolumeApplies, volume_stages}

-- a number is the document of a posting of v
pub record HasDoc (v : List ℕ) (d : ℕ) : Type 0 where
  pub list : ℕ
  pub inside : list < list_count v
  pub index : ℕ
  pub below : index < count v list
  pub is : doc_of (at (postings_of v list) index) ≡ d

-- the number of stream words of the joined lists
abbrev pub extent_of_both : List ℕ → List ℕ → ℕ
extent_of_both v w = extent_of (list_count v) (posting_count v + posting_count w)

-- the refusals of joining v and w, the second raised by h, into an output of so many bytes: a volume has seven stages of its own
pub data JoinApplies (h : ℕ) (v w : List ℕ) (room : ℕ) : ℕ → ℕ → ℕ → Type 0 where
  -- 1 to 8 of the first volume
  of_first : (s n p : ℕ) → Staged (stage_in volume_stages) (VolumeApplies v) s n p → JoinApplies h v w room s n p
  -- 1 to 8 of the second
  of_second : (s n p : ℕ) → Staged (stage_in volume_stages) (VolumeApplies w) s n p → JoinApplies h v w room (7 + s) n p
  -- 24: their T differ
  other_list_count : list_count v ≢ list_count w → JoinApplies h v w room 14 24 0
  -- 25: a raised scene passes 65,535
  doc_passes : (d : ℕ) → HasDoc w d → 65535 < d + h → JoinApplies h v w room 15 25 0
  -- 25: or is not above all scenes of the first volume
  doc_not_above : (c d : ℕ) → HasDoc v c → HasDoc w d → d + h ≤ c → JoinApplies h v w room 15 25 0
  -- 19: more than 1,032,192 stream words
  over_large : 1032192 < extent_of_both v w → JoinApplies h v w room 16 19 0
  -- 20: output shorter than the volume
  output_short : (n : ℕ) → LeastBlocks (extent_of_both v w) n → room < 512 * n → JoinApplies h v w room 17 20 0
