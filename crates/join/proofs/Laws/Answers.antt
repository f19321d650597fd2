-- The laws of `specs/Answers.antt`: an answer is known from its number, its values and the volume told. No contract cites this file.
--     heard_own, heard_joined     the answer with these
--     heard-joined                what is heard is what was said
--     one-to-one                  no two answers are said alike
-- Assumes nothing.
use Rattle.std.proofs.Common.{ℕ, Result, Ok, Err}
use mathlib.Core.Path.{◌≡◌, refl}
use mathlib.Core.Bool.{cond}
use mathlib.Core.List.{[], ◌∷◌}
use lib.ListN.{get_or}
use lib.Dec.{eqb}
use Rattle.seq.specs.Refusals.{Said, refused, answered}
use Rattle.seq.proofs.Laws.Refusals.{alike}
use Rattle.volume.specs.declared.answers.Refusal.TheVariants.{Length, Number, Checksum, Version, ListCount, Extent, Order, Padding}
use Rattle.volume.proofs.Laws.Answers.{heard_refusal}
use Rattle.join.specs.declared.answers.JoinError.{JoinError}
use Rattle.join.specs.declared.answers.JoinError.TheVariants.{First, Second, ListCounts, Documents, TooLarge, Short}
use Rattle.join.specs.Answers.{JoinSaid, said_joined}
use Rattle.join.specs.Demands.{OneToOne}

-- the refusal of the call itself with a number
abbrev heard_own : ℕ → JoinError
heard_own n = cond (eqb n 24) ListCounts (cond (eqb n 25) Documents (cond (eqb n 19) TooLarge Short))

-- by a list from volume 0 on
abbrev heard_by : ℕ → Said ℕ → Result ℕ JoinError
heard_by volume (refused n p) = Err (get_or (heard_own n ∷ First (heard_refusal n p) ∷ Second (heard_refusal n p) ∷ []) volume Short)
heard_by volume (answered n) = Ok n

abbrev heard_joined : JoinSaid → Result ℕ JoinError
heard_joined s = heard_by s.volume s.said

heard-joined : (a : Result ℕ JoinError) → heard_joined (said_joined a) ≡ a
heard-joined (Ok n) = refl
heard-joined (Err (First Length)) = refl
heard-joined (Err (First (Number k))) = refl
heard-joined (Err (First (Checksum k))) = refl
heard-joined (Err (First Version)) = refl
heard-joined (Err (First ListCount)) = refl
heard-joined (Err (First Extent)) = refl
heard-joined (Err (First (Order i))) = refl
heard-joined (Err (First (Padding i))) = refl
heard-joined (Err (Second Length)) = refl
heard-joined (Err (Second (Number k))) = refl
heard-joined (Err (Second (Checksum k))) = refl
heard-joined (Err (Second Version)) = refl
heard-joined (Err (Second ListCount)) = refl
heard-joined (Err (Second Extent)) = refl
heard-joined (Err (Second (Order i))) = refl
heard-joined (Err (Second (Padding i))) = refl
heard-joined (Err ListCounts) = refl
heard-joined (Err Documents) = refl
heard-joined (Err TooLarge) = refl
heard-joined (Err Short) = refl

pub one-to-one : OneToOne
one-to-one = record { joined = alike said_joined heard_joined heard-joined }
