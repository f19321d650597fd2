-- An answer is known from its number and values. No contract cites this file.
--     heard-written     the answer with a number and values
--     one-to-one        no two answers are told alike
-- Assumes nothing.
use Prim.Native.Nat.{ℕ}
use mathlib.Core.Path.{◌≡◌, refl}
use mathlib.Core.Bool.{cond}
use Rattle.std.proofs.Common.{Result, Ok, Err}
use lib.Dec.{eqb}
use Rattle.seq.specs.Refusals.{Said, refused, answered}
use Rattle.seq.proofs.Laws.Refusals.{alike}
use Rattle.volume.specs.declared.answers.Refusal.TheVariants as volume
use Rattle.plan.specs.declared.answers.Fault.TheVariants as fault
use Rattle.plan.specs.declared.answers.Refusal.TheVariants.{Volume, Length, Row, Unfinished}
use Rattle.plan.proofs.Laws.Answers.{heard}
use Rattle.printer.specs.declared.answers.WriteError.{WriteError}
use Rattle.printer.specs.declared.answers.WriteError.TheVariants as writeError
use Rattle.printer.specs.Answers.{said_written}
use Rattle.printer.specs.Demands.{OneToOne}

abbrev heard_written : Said ℕ → Result ℕ WriteError
heard_written (refused n q) = cond (eqb n 16) (Err writeError.Short) (Err (writeError.Refused (heard n q)))
heard_written (answered n) = Ok n

heard-written : (a : Result ℕ WriteError) → heard_written (said_written a) ≡ a
heard-written (Ok n) = refl
heard-written (Err (writeError.Refused (Volume volume.Length))) = refl
heard-written (Err (writeError.Refused (Volume (volume.Number k)))) = refl
heard-written (Err (writeError.Refused (Volume (volume.Checksum k)))) = refl
heard-written (Err (writeError.Refused (Volume volume.Version))) = refl
heard-written (Err (writeError.Refused (Volume volume.ListCount))) = refl
heard-written (Err (writeError.Refused (Volume volume.Extent))) = refl
heard-written (Err (writeError.Refused (Volume (volume.Order i)))) = refl
heard-written (Err (writeError.Refused (Volume (volume.Padding i)))) = refl
heard-written (Err (writeError.Refused Length)) = refl
heard-written (Err (writeError.Refused (Row fault.Form i))) = refl
heard-written (Err (writeError.Refused (Row fault.List i))) = refl
heard-written (Err (writeError.Refused (Row fault.TooMany i))) = refl
heard-written (Err (writeError.Refused (Row fault.Order i))) = refl
heard-written (Err (writeError.Refused Unfinished)) = refl
heard-written (Err writeError.Short) = refl

pub one-to-one : OneToOne
unfolding OneToOne
one-to-one = alike said_written heard_written heard-written
