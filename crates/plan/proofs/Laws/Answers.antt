-- The laws of `specs/Answers.antt`: an answer is known from its number and values. No contract cites this file.
--     heard, heard_checked             the answer with a number and values
--     heard-refusal, heard-checked     what is heard is what was said
--     one-to-one                       no two answers are said alike
-- Assumes nothing.
use Prim.Native.Nat.{ℕ, ◌-◌}
use mathlib.Core.Path.{◌≡◌, refl, ap}
use mathlib.Core.Bool.{cond}
use mathlib.Core.List.{[], ◌∷◌}
use lib.ListN.{get_or}
use lib.Dec.{leb}
use Rattle.std.specs.Prelude.{Result, Ok, Err}
use Rattle.seq.specs.Refusals.{Said, refused, answered}
use Rattle.seq.proofs.Laws.Refusals.{alike}
use Rattle.volume.specs.declared.answers.Refusal.TheVariants as volume
use Rattle.volume.proofs.Laws.Answers.{heard_refusal}
use Rattle.plan.specs.declared.answers.Fault.TheVariants as fault
use Rattle.plan.specs.declared.answers.Refusal.{Refusal}
use Rattle.plan.specs.declared.answers.Refusal.TheVariants.{Volume, Length, Row, Unfinished}
use Rattle.plan.specs.Answers.{Sizes, said_refusal, said_checked}
use Rattle.plan.specs.Demands.{OneToOne}

-- the refusal with a number and a place: 9 to 14 by a list, and those of the volume
abbrev pub heard : ℕ → ℕ → Refusal
heard n q = cond (leb 9 n) (get_or (Length ∷ Row fault.Form q ∷ Row fault.List q ∷ Row fault.TooMany q ∷ Row fault.Order q ∷ []) (n - 9) Unfinished) (Volume (heard_refusal n q))

abbrev heard_sizes : Said Sizes → Refusal
heard_sizes (refused n q) = heard n q
heard_sizes (answered s) = Length

abbrev heard_checked : Said Sizes → Result Sizes Refusal
heard_checked (refused n q) = Err (heard n q)
heard_checked (answered s) = Ok s

heard-refusal : (r : Refusal) → heard_sizes (said_refusal r) ≡ r
heard-refusal (Volume volume.Length) = refl
heard-refusal (Volume (volume.Number k)) = refl
heard-refusal (Volume (volume.Checksum k)) = refl
heard-refusal (Volume volume.Version) = refl
heard-refusal (Volume volume.ListCount) = refl
heard-refusal (Volume volume.Extent) = refl
heard-refusal (Volume (volume.Order i)) = refl
heard-refusal (Volume (volume.Padding i)) = refl
heard-refusal Length = refl
heard-refusal (Row fault.Form i) = refl
heard-refusal (Row fault.List i) = refl
heard-refusal (Row fault.TooMany i) = refl
heard-refusal (Row fault.Order i) = refl
heard-refusal Unfinished = refl

heard-checked : (a : Result Sizes Refusal) → heard_checked (said_checked a) ≡ a
heard-checked (Ok s) = refl
heard-checked (Err r) = ap Err (heard-refusal r)

pub one-to-one : OneToOne
one-to-one = record { refusal = alike said_refusal heard_sizes heard-refusal; checked = alike said_checked heard_checked heard-checked }
