-- Document 02's number and values for each answer of reading a line. Assumes nothing.
--     said_read      the number of words, or a refusal
use Rattle.std.specs.Prelude.{ℕ, Result, Ok, Err}
use Rattle.seq.specs.Refusals.{Said, refused, answered}
use Rattle.line.specs.declared.answers.ReadError.{ReadError}
use Rattle.line.specs.declared.answers.ReadError.TheVariants as error

-- how many words are written
abbrev pub said_read : Result ℕ ReadError → Said ℕ
said_read (Ok n) = answered n
said_read (Err (error.Broken q)) = refused 21 q
said_read (Err (error.Deep q)) = refused 22 q
said_read (Err error.TooMany) = refused 23 0
said_read (Err error.Short) = refused 16 0
