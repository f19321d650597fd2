-- Document 02's number and values for each answer of the crate's call. Assumes nothing.
use Rattle.std.specs.Prelude.{ℕ, Result, Ok, Err}
use Rattle.seq.specs.Refusals.{Said, refused, answered}
use Rattle.volume.specs.Answers.{said_refusal}
use Rattle.join.specs.declared.answers.JoinError.{JoinError}
use Rattle.join.specs.declared.answers.JoinError.TheVariants.{First, Second, ListCounts, Documents, TooLarge, Short}

-- an answer, and the volume that a refusal is of: 1 is the first, 2 the second, and 0 neither
pub record JoinSaid : Type 0 where
  pub volume : ℕ
  pub said : Said ℕ

abbrev pub said_joined : Result ℕ JoinError → JoinSaid
said_joined (Ok n) = record { volume = 0; said = answered n }
said_joined (Err (First why)) = record { volume = 1; said = said_refusal why }
said_joined (Err (Second why)) = record { volume = 2; said = said_refusal why }
said_joined (Err ListCounts) = record { volume = 0; said = refused 24 0 }
said_joined (Err Documents) = record { volume = 0; said = refused 25 0 }
said_joined (Err TooLarge) = record { volume = 0; said = refused 19 0 }
said_joined (Err Short) = record { volume = 0; said = refused 20 0 }
