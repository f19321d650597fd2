-- The laws of `specs/Answers.antt`: an answer is known from its number and values. No contract cites this file.
--     heard_refusal, heard_checked, heard_read, heard_written     the answer with a number and values
--     heard-refusal .. heard-written                              what is heard is what was said
--     one-to-one                                                  no two answers are said alike
-- Assumes nothing.
use Prim.Native.Nat.{ℕ}
use Rattle.std.specs.Prelude.{Result, Ok, Err}
use mathlib.Core.Path.{◌≡◌, refl, ap}
use mathlib.Core.Bool.{cond}
use mathlib.Core.List.{[], ◌∷◌}
use lib.ListN.{get_or}
use lib.Dec.{eqb}
use Rattle.seq.specs.Lists.{elem}
use Rattle.seq.specs.Refusals.{Said, refused, answered, stage_in}
use Rattle.seq.proofs.Laws.Refusals.{alike}
use Rattle.volume.specs.declared.answers.Refusal.{Refusal}
use Rattle.volume.specs.declared.answers.Refusal.TheVariants.{Length, Number, Checksum, Version, ListCount, Extent, Order, Padding}
use Rattle.volume.specs.declared.answers.Sizes as volume
use Rattle.volume.specs.declared.answers.ReadError.{ReadError}
use Rattle.volume.specs.declared.answers.ReadError.TheVariants as read
use Rattle.volume.specs.declared.answers.WriteError.{WriteError}
use Rattle.volume.specs.declared.answers.WriteError.TheVariants as write
use Rattle.volume.specs.Answers.{Sizes, said_refusal, said_checked, said_read, said_written}
use Rattle.volume.specs.Refusals.{write_stages}
use Rattle.volume.specs.Demands.{OneToOne}

-- the refusal with a number, by a list from 0, and a place
abbrev pub heard_refusal : ℕ → ℕ → Refusal
heard_refusal n p = get_or (Length ∷ Length ∷ Number p ∷ Checksum p ∷ Version ∷ ListCount ∷ Extent ∷ Order p ∷ Padding p ∷ []) n Length

abbrev heard_sizes : Said Sizes → Refusal
heard_sizes (refused n p) = heard_refusal n p
heard_sizes (answered s) = Length

abbrev heard_checked : Said Sizes → Result volume.Sizes Refusal
heard_checked (refused n p) = Err (heard_refusal n p)
heard_checked (answered s) = Ok (record { lists = s.lists; postings = s.postings })

abbrev heard_read : Said ℕ → Result ℕ ReadError
heard_read (refused n p) = Err (cond (eqb n 17) read.NoList (cond (eqb n 16) read.Short (read.Refused (heard_refusal n p))))
heard_read (answered n) = Ok n

-- by a list in the order of the writer's refusals
abbrev heard_written : Said ℕ → Result ℕ WriteError
heard_written (refused n p) = Err (get_or (write.ListCount ∷ write.CountSum ∷ write.Order p ∷ write.TooLarge ∷ write.Short ∷ []) (stage_in write_stages n) write.Short)
heard_written (answered n) = Ok n

heard-refusal : (r : Refusal) → heard_sizes (said_refusal r) ≡ r
heard-refusal Length = refl
heard-refusal (Number k) = refl
heard-refusal (Checksum k) = refl
heard-refusal Version = refl
heard-refusal ListCount = refl
heard-refusal Extent = refl
heard-refusal (Order i) = refl
heard-refusal (Padding i) = refl

heard-checked : (a : Result volume.Sizes Refusal) → heard_checked (said_checked a) ≡ a
heard-checked (Ok s) = refl
heard-checked (Err why) = ap Err (heard-refusal why)

heard-read : (a : Result ℕ ReadError) → heard_read (said_read a) ≡ a
heard-read (Ok n) = refl
heard-read (Err (read.Refused Length)) = refl
heard-read (Err (read.Refused (Number k))) = refl
heard-read (Err (read.Refused (Checksum k))) = refl
heard-read (Err (read.Refused Version)) = refl
heard-read (Err (read.Refused ListCount)) = refl
heard-read (Err (read.Refused Extent)) = refl
heard-read (Err (read.Refused (Order i))) = refl
heard-read (Err (read.Refused (Padding i))) = refl
heard-read (Err read.NoList) = refl
heard-read (Err read.Short) = refl

heard-written : (a : Result ℕ WriteError) → heard_written (said_written a) ≡ a
unfolding stage_in elem
heard-written (Ok n) = refl
heard-written (Err write.ListCount) = refl
heard-written (Err write.CountSum) = refl
heard-written (Err (write.Order i)) = refl
heard-written (Err write.TooLarge) = refl
heard-written (Err write.Short) = refl

pub one-to-one : OneToOne
one-to-one = record {
  refusal = alike said_refusal heard_sizes heard-refusal;
  checked = alike said_checked heard_checked heard-checked;
  list = alike said_read heard_read heard-read;
  volume = alike said_written heard_written heard-written;
}
