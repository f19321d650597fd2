-- Document 01's number and values for each answer of the crate's call. Assumes nothing.
use Rattle.std.specs.Prelude.{Bool, Result, Ok, Err}
use Rattle.seq.specs.Refusals.{Said, refused, answered}
use Rattle.plan.specs.Answers.{said_refusal}
use Rattle.matcher.specs.declared.answers.TestError.{TestError}
use Rattle.matcher.specs.declared.answers.TestError.TheVariants.{Refused, OutOfRange}

abbrev pub said_tested : Result Bool TestError → Said Bool
said_tested (Ok b) = answered b
said_tested (Err (Refused r)) = said_refusal r
said_tested (Err OutOfRange) = refused 17 0
