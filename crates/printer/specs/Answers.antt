-- Document 02's number and values for each answer of writing a line. Assumes nothing.
use Rattle.std.specs.Prelude.{ℕ, Result, Ok, Err}
use Rattle.seq.specs.Refusals.{Said, refused, answered}
use Rattle.plan.specs.Answers.{said_refusal}
use Rattle.printer.specs.declared.answers.WriteError.{WriteError}
use Rattle.printer.specs.declared.answers.WriteError.TheVariants as writeError

-- how many bytes are written
abbrev pub said_written : Result ℕ WriteError → Said ℕ
said_written (Ok n) = answered n
said_written (Err (writeError.Refused why)) = said_refusal why
said_written (Err writeError.Short) = refused 16 0
