-- Document 01's number and values for each answer of the crate's calls. Assumes nothing.
use Rattle.std.specs.Prelude.{ℕ, Result, Ok, Err}
use Rattle.seq.specs.Refusals.{Said, refused, answered}
use Rattle.volume.specs.declared.answers.Refusal.{Refusal}
use Rattle.volume.specs.declared.answers.Refusal.TheVariants.{Length, Number, Checksum, Version, ListCount, Extent, Order, Padding}
use Rattle.volume.specs.declared.answers.Sizes as volume
use Rattle.volume.specs.declared.answers.ReadError.{ReadError}
use Rattle.volume.specs.declared.answers.ReadError.TheVariants as read
use Rattle.volume.specs.declared.answers.WriteError.{WriteError}
use Rattle.volume.specs.declared.answers.WriteError.TheVariants as write

-- the number of a refusal of a volume
abbrev pub code_of : Refusal → ℕ
code_of Length = 1
code_of (Number block) = 2
code_of (Checksum block) = 3
code_of Version = 4
code_of ListCount = 5
code_of Extent = 6
code_of (Order list) = 7
code_of (Padding word) = 8

-- the place (01: place of a refusal) that it names, or 0
abbrev pub at_of : Refusal → ℕ
at_of Length = 0
at_of (Number block) = block
at_of (Checksum block) = block
at_of Version = 0
at_of ListCount = 0
at_of Extent = 0
at_of (Order list) = list
at_of (Padding word) = word

abbrev pub said_refusal : {A : Type 0} → Refusal → Said A
said_refusal why = refused (code_of why) (at_of why)

-- what an accepted volume gives (01: T and S)
pub record Sizes : Type 0 where
  pub lists : ℕ
  pub postings : ℕ

abbrev pub said_checked : Result volume.Sizes Refusal → Said Sizes
said_checked (Ok s) = answered (record { lists = s.lists; postings = s.postings })
said_checked (Err why) = said_refusal why

abbrev pub said_read : Result ℕ ReadError → Said ℕ
said_read (Ok n) = answered n
said_read (Err (read.Refused why)) = said_refusal why
said_read (Err read.NoList) = refused 17 0
said_read (Err read.Short) = refused 16 0

abbrev pub said_written : Result ℕ WriteError → Said ℕ
said_written (Ok n) = answered n
said_written (Err write.ListCount) = refused 5 0
said_written (Err write.CountSum) = refused 18 0
said_written (Err (write.Order list)) = refused 7 list
said_written (Err write.TooLarge) = refused 19 0
said_written (Err write.Short) = refused 20 0
