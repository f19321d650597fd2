-- An answer is known from its number and values. No contract cites this file. Assumes nothing.
use mathlib.Core.Path.{◌≡◌, refl}
use mathlib.Core.Bool.{Bool, cond}
use lib.Dec.{eqb}
use Rattle.matcher.specs.Answers.{said_tested}
use Rattle.seq.specs.Refusals.{Said, refused, answered}
use Rattle.seq.proofs.Laws.Refusals.{alike}
use Rattle.volume.specs.declared.answers.Refusal.TheVariants as volume
use Rattle.plan.specs.declared.answers.Fault.TheVariants as fault
use Rattle.plan.specs.declared.answers.Refusal.TheVariants.{Volume, Length, Row, Unfinished}
use Rattle.plan.proofs.Laws.Answers.{heard}
use Rattle.std.specs.Prelude.{Result, Ok, Err}
use Rattle.matcher.specs.declared.answers.TestError.{TestError}
use Rattle.matcher.specs.declared.answers.TestError.TheVariants.{Refused, OutOfRange}
use Rattle.matcher.specs.Demands.{OneToOne}

abbrev heard_tested : Said Bool → Result Bool TestError
heard_tested (refused n q) = cond (eqb n 17) (Err OutOfRange) (Err (Refused (heard n q)))
heard_tested (answered b) = Ok b

heard-tested : (a : Result Bool TestError) → heard_tested (said_tested a) ≡ a
heard-tested (Ok b) = refl
heard-tested (Err (Refused (Volume volume.Length))) = refl
heard-tested (Err (Refused (Volume (volume.Number k)))) = refl
heard-tested (Err (Refused (Volume (volume.Checksum k)))) = refl
heard-tested (Err (Refused (Volume volume.Version))) = refl
heard-tested (Err (Refused (Volume volume.ListCount))) = refl
heard-tested (Err (Refused (Volume volume.Extent))) = refl
heard-tested (Err (Refused (Volume (volume.Order i)))) = refl
heard-tested (Err (Refused (Volume (volume.Padding i)))) = refl
heard-tested (Err (Refused Length)) = refl
heard-tested (Err (Refused (Row fault.Form i))) = refl
heard-tested (Err (Refused (Row fault.List i))) = refl
heard-tested (Err (Refused (Row fault.TooMany i))) = refl
heard-tested (Err (Refused (Row fault.Order i))) = refl
heard-tested (Err (Refused Unfinished)) = refl
heard-tested (Err OutOfRange) = refl

pub one-to-one : OneToOne
unfolding OneToOne
one-to-one = alike said_tested heard_tested heard-tested
