-- Document 01's number and values for each answer of the crate's calls. Assumes nothing.
use Rattle.std.specs.Prelude.{ℕ, Result, Ok, Err}
use Rattle.seq.specs.Refusals.{Said, refused, answered}
use Rattle.volume.specs.Answers as volumeAnswers
use Rattle.plan.specs.declared.answers.Fault.{Fault}
use Rattle.plan.specs.declared.answers.Fault.TheVariants as fault
use Rattle.plan.specs.declared.answers.Refusal.{Refusal}
use Rattle.plan.specs.declared.answers.Refusal.TheVariants.{Volume, Length, Row, Unfinished}
pub use Rattle.plan.specs.declared.answers.Sizes.{Sizes}

-- the number of a row's fault
abbrev pub fault_code : Fault → ℕ
fault_code fault.Form = 10
fault_code fault.List = 11
fault_code fault.TooMany = 12
fault_code fault.Order = 13

-- the number of a refusal of a volume and a plan
abbrev pub code_of : Refusal → ℕ
code_of (Volume why) = volumeAnswers.code_of why
code_of Length = 9
code_of (Row fault row) = fault_code fault
code_of Unfinished = 14

-- the place (01: place of a refusal) that it names, or 0
abbrev pub at_of : Refusal → ℕ
at_of (Volume why) = volumeAnswers.at_of why
at_of Length = 0
at_of (Row fault row) = row
at_of Unfinished = 0

abbrev pub said_refusal : {A : Type 0} → Refusal → Said A
said_refusal why = refused (code_of why) (at_of why)

-- an accepted plan gives its numbers of patterns and variables (01: F and V), the struct `Sizes` of `src/answers.rt`
abbrev pub said_checked : Result Sizes Refusal → Said Sizes
said_checked (Ok s) = answered s
said_checked (Err r) = said_refusal r
