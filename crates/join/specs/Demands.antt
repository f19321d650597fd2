-- The statements that the crate is held to, each a named type. `proofs/Demands.antt` proves each in a line. Assumes nothing.
--     JoinRefuses    demand 1 for joining
--     Joins          the joined volume is accepted, and reads as exactly the joined lists
--     OneToOne       no two answers are told alike
use Rattle.std.specs.Prelude.{ℕ, ◌*◌, ◌≡◌, ◌↔◌, Result, List, ◌++◌, length, take, drop}
use Rattle.seq.specs.Refusals.{refused, answered, FirstRefusalOf}
use Rattle.block.specs.Bytes.{IsBytes}
use Rattle.volume.specs.Layout.{lists_of, blocks_for}
use Rattle.volume.specs.Check.{Accepted}
use Rattle.volume.specs.Write.{volume_of}
use Rattle.volume.specs.Refusals.{VolumeApplies}
use Rattle.join.specs.declared.answers.JoinError.{JoinError}
use Rattle.join.specs.Answers.{said_joined}
use Rattle.join.specs.Join.{lists_of_both, join_answer, join_out}
use Rattle.join.specs.Refusals.{extent_of_both, JoinApplies}

-- some refusal of a volume applies
abbrev pub Refused : List ℕ → Type 0
Refused v = (n : ℕ) × (p : ℕ) × VolumeApplies v n p

-- joining v and w, the second raised by h: the first of 1 to 8 of v, 1 to 8 of w, 24, 25, 19, 20 that applies, or the number of blocks
-- exactly if none applies
-- the volume told is 1 exactly if the first is refused, and 2 exactly if the first is not refused and the second is
-- a refusal leaves the output as it was; an answer leaves the blocks at its front and the rest as it was
pub record JoinCall (h : ℕ) (v w out : List ℕ) : Type 0 where
  pub first : FirstRefusalOf (JoinApplies h v w (length out)) (blocks_for (extent_of_both v w)) (join_answer h v w (length out)).said
  pub of-first : ((join_answer h v w (length out)).volume ≡ 1) ↔ Refused v
  pub of-second : ((join_answer h v w (length out)).volume ≡ 2) ↔ ((Refused v → ⊥) × Refused w)
  pub of-neither : ((join_answer h v w (length out)).volume ≡ 0) ↔ ((Refused v → ⊥) × (Refused w → ⊥))
  pub kept : (n p : ℕ) → (join_answer h v w (length out)).said ≡ refused n p → join_out h v w out ≡ out
  pub laid : (n : ℕ)
      → (join_answer h v w (length out)).said ≡ answered n
      → join_out h v w out ≡ volume_of (lists_of_both h v w) ++ drop (512 * n) out

-- Demand 1, joining
unfoldable pub JoinRefuses : Type 0
JoinRefuses = (h : ℕ) (v w out : List ℕ) → JoinCall h v w out

-- where n blocks are answered, the first n blocks of the output are a volume that is accepted and reads as exactly the joined lists
pub record Joining (h : ℕ) (v w out : List ℕ) (n : ℕ) : Type 0 where
  pub size : length (take (512 * n) (join_out h v w out)) ≡ 512 * n
  pub accepted : Accepted (take (512 * n) (join_out h v w out))
  pub lists : lists_of (take (512 * n) (join_out h v w out)) ≡ lists_of_both h v w

unfoldable pub Joins : Type 0
Joins =
    (h : ℕ) (v w out : List ℕ) → IsBytes v → IsBytes w
    → (n : ℕ) → (join_answer h v w (length out)).said ≡ answered n → Joining h v w out n

-- no two answers have document 02's number and values in common
pub record OneToOne : Type 0 where
  pub joined : (a b : Result ℕ JoinError) → said_joined a ≡ said_joined b → a ≡ b
