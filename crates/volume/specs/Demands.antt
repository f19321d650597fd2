-- The statements that the crate is held to, each a named type. `proofs/Demands.antt` proves each in a line. Assumes nothing.
--     CheckRefuses, ReadRefuses, WriteRefuses    demand 1 for the three calls
--     Demand2                                    demand 2 for volumes, in one equivalence
--     ReadsList, ReadsWritten                    what reading a list gives, in the terms of demand 2
--     WriterWrites                               what the writer does, in the terms of demand 2
--     Damage                                     one changed byte is found, in its block
--     OneToOne                                   no two answers are told alike
--     Sample                                     document 01's sample volume
use Rattle.std.specs.Prelude.{ℕ, ◌*◌, ◌/◌, ◌<◌, ◌≤◌, ◌≡◌, ◌⊎◌, ◌≢◌, ◌↔◌, List, [], ◌∷◌, ◌++◌, map, length, get_or, drop, Result}
use Rattle.seq.specs.Lists.{total, joined, Rising}
use Rattle.seq.specs.Refusals.{refused, answered, stage_in, FirstRefusal}
use Rattle.volume.specs.declared.answers.Refusal.{Refusal}
use Rattle.volume.specs.declared.answers.Sizes as volume
use Rattle.volume.specs.declared.answers.ReadError.{ReadError}
use Rattle.volume.specs.declared.answers.WriteError.{WriteError}
use Rattle.volume.specs.Posting.{posting_of}
use Rattle.block.specs.Bytes.{IsBytes, IsWords}
use Rattle.volume.specs.Layout.{list_count, count, extent_of, blocks_for, postings_of, lists_of}
use Rattle.volume.specs.Answers.{Sizes, said_refusal, said_checked, said_read, said_written}
use Rattle.volume.specs.Check.{sizes, verdict, Accepted}
use Rattle.volume.specs.Read.{read_answer, read_out}
use Rattle.volume.specs.Write.{written, volume_of, given_lists, write_answer, write_out}
use Rattle.volume.specs.Refusals.{LeastBlocks, VolumeApplies, ReadApplies, WriteApplies, volume_stages, read_stages, write_stages}

-- Demand 1, checking: the verdict is the first of 1 to 8 that applies, and T and S exactly if none applies
unfoldable pub CheckRefuses : Type 0
CheckRefuses = (v : List ℕ) → FirstRefusal (stage_in volume_stages) (VolumeApplies v) (sizes v) (verdict v)

-- reading list i of v: the first of 1 to 8, 17, 16 that applies, or the count exactly if none applies
-- a refusal leaves the buffer as it was; an answer leaves the postings at its front and the rest as it was
pub record ReadCall (v : List ℕ) (i : ℕ) (out : List ℕ) : Type 0 where
  pub first : FirstRefusal (stage_in read_stages) (ReadApplies v i (length out)) (count v i) (read_answer v i (length out))
  pub kept : (n p : ℕ) → read_answer v i (length out) ≡ refused n p → read_out v i out ≡ out
  pub laid : (n : ℕ) → read_answer v i (length out) ≡ answered n → read_out v i out ≡ postings_of v i ++ drop (count v i) out

-- Demand 1, reading a list
unfoldable pub ReadRefuses : Type 0
ReadRefuses = (v : List ℕ) (i : ℕ) (out : List ℕ) → ReadCall v i out

-- writing: the first of 5, 18, 7, 19, 20 that applies, or the number of blocks exactly if none applies
-- a refusal leaves the output as it was; an answer leaves the blocks at its front and the rest as it was
pub record WriteCall (counts postings out : List ℕ) : Type 0 where
  pub first :
      FirstRefusal (stage_in write_stages) (WriteApplies counts postings (length out))
      (blocks_for (extent_of (length counts) (length postings))) (write_answer counts postings (length out))
  pub kept : (n p : ℕ) → write_answer counts postings (length out) ≡ refused n p → write_out counts postings out ≡ out
  pub laid :
      (n : ℕ) → write_answer counts postings (length out) ≡ answered n
      → write_out counts postings out ≡ written counts postings ++ drop (512 * n) out

-- Demand 1, writing
unfoldable pub WriteRefuses : Type 0
WriteRefuses = (counts postings out : List ℕ) → WriteCall counts postings out

-- the limits on the lists of a volume: 1 to 1,024 lists, each rising, of 32-bit postings, in at most 1,032,192 stream words
pub record Within (lists : List (List ℕ)) : Type 0 where
  pub some : 1 ≤ length lists
  pub most : length lists ≤ 1024
  pub rising : (i : ℕ) → i < length lists → Rising (get_or lists i [])
  pub words : (i : ℕ) → i < length lists → IsWords (get_or lists i [])
  pub fits : extent_of (length lists) (total length lists) ≤ 1032192

-- Demand 2: bytes are accepted, and their lists are these, exactly if the lists are within the limits and the bytes are their volume
unfoldable pub Demand2 : Type 0
Demand2 =
    (v : List ℕ) → IsBytes v → (lists : List (List ℕ))
    → (Accepted v × (lists_of v ≡ lists)) ↔ (Within lists × (v ≡ volume_of lists))

-- reading list i of an accepted volume into a buffer that holds it answers its length and lays it at the front
unfoldable pub ReadsList : Type 0
ReadsList =
    (v : List ℕ) → Accepted v → (i : ℕ) → i < list_count v → (out : List ℕ) → length (get_or (lists_of v) i []) ≤ length out
    → (read_answer v i (length out) ≡ answered (length (get_or (lists_of v) i [])))
    × (read_out v i out ≡ get_or (lists_of v) i [] ++ drop (length (get_or (lists_of v) i [])) out)

-- and so for the volume of any lists within the limits
unfoldable pub ReadsWritten : Type 0
ReadsWritten =
    (lists : List (List ℕ)) → Within lists → (i : ℕ) → i < length lists
    → (out : List ℕ) → length (get_or lists i []) ≤ length out
    → (read_answer (volume_of lists) i (length out) ≡ answered (length (get_or lists i [])))
    × (read_out (volume_of lists) i out ≡ get_or lists i [] ++ drop (length (get_or lists i [])) out)

-- what the writer lays where it answers n: n is the least number of blocks, they fit, they are the volume of the given lists, and
-- the rest is as it was
pub record Lays (counts postings out : List ℕ) (n : ℕ) : Type 0 where
  pub blocks : LeastBlocks (extent_of (length counts) (length postings)) n
  pub room : 512 * n ≤ length out
  pub volume : written counts postings ≡ volume_of (given_lists counts postings)
  pub size : length (volume_of (given_lists counts postings)) ≡ 512 * n
  pub output : write_out counts postings out ≡ volume_of (given_lists counts postings) ++ drop (512 * n) out

-- the writer on counts and postings: on words it refuses for a reason other than 20 exactly if the given lists are outside the
-- limits or the counts do not sum to the number of postings; where it answers, it lays the volume of the given lists
pub record Writes (counts postings out : List ℕ) : Type 0 where
  pub refuses :
      IsWords postings
      → ((n : ℕ) × (p : ℕ) × (write_answer counts postings (length out) ≡ refused n p) × (n ≢ 20))
      ↔ ((Within (given_lists counts postings) × (total (λ x. x) counts ≡ length postings)) → ⊥)
  pub lays : (n : ℕ) → write_answer counts postings (length out) ≡ answered n → Lays counts postings out n

-- the writer on all counts and postings; and every lists within the limits are written from their lengths and their postings back
-- to back
pub record WriterWrites : Type 0 where
  pub given : (counts postings out : List ℕ) → Writes counts postings out
  pub every :
      (lists : List (List ℕ)) → Within lists → (out : List ℕ) → length (volume_of lists) ≤ length out
      → (write_answer (map length lists) (joined lists) (length out)
      ≡ answered (blocks_for (extent_of (length lists) (total length lists))))
      × (write_out (map length lists) (joined lists) out ≡ volume_of lists ++ drop (length (volume_of lists)) out)

-- bytes as long as an accepted volume that differ from it in exactly one byte are refused, with 2 or 3 at the block of that byte
unfoldable pub Damage : Type 0
Damage =
    (v w : List ℕ) → IsBytes v → IsBytes w → Accepted v → length w ≡ length v
    → (o : ℕ) → get_or w o 0 ≢ get_or v o 0 → ((i : ℕ) → i ≢ o → get_or w i 0 ≡ get_or v i 0)
    → (verdict w ≡ refused 2 (o / 512)) ⊎ (verdict w ≡ refused 3 (o / 512))

-- no two answers have document 01's number and values in common
pub record OneToOne : Type 0 where
  pub refusal : (a b : Refusal) → said_refusal {A = Sizes} a ≡ said_refusal b → a ≡ b
  pub checked : (a b : Result volume.Sizes Refusal) → said_checked a ≡ said_checked b → a ≡ b
  pub list : (a b : Result ℕ ReadError) → said_read a ≡ said_read b → a ≡ b
  pub volume : (a b : Result ℕ WriteError) → said_written a ≡ said_written b → a ≡ b

-- document 01's sample: 1:0 1:6, then 1:2 1:8 2:4, then 1:5 1:7 2:9
abbrev pub sample_lists : List (List ℕ)
sample_lists =
    ((posting_of 1 0).bits ∷ (posting_of 1 6).bits ∷ [])
    ∷ ((posting_of 1 2).bits ∷ (posting_of 1 8).bits ∷ (posting_of 2 4).bits ∷ [])
    ∷ ((posting_of 1 5).bits ∷ (posting_of 1 7).bits ∷ (posting_of 2 9).bits ∷ [])
    ∷ []

-- the sample's volume is accepted with 3 lists and 8 postings and reads as its lists
pub record Sample : Type 0 where
  pub checks : verdict (volume_of sample_lists) ≡ answered (record { lists = 3; postings = 8 })
  pub reads : lists_of (volume_of sample_lists) ≡ sample_lists
