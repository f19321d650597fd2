-- Document 01's number and values for each answer of the crate's calls. Assumes nothing.
use Rattle.std.specs.Prelude.{ℕ, Option, Some, None, Result, Ok, Err}
use Rattle.seq.specs.Refusals.{Said, refused, answered}
use Rattle.plan.specs.Answers.{said_refusal}
use Rattle.search.specs.declared.answers.Listing.{Listing}
use Rattle.search.specs.declared.answers.ListError.{ListError}
use Rattle.search.specs.declared.answers.ListError.TheVariants.{Refused, Start, Short}

-- DONE, or MORE and a document
pub data Next : Type 0 where
  done : Next
  more : ℕ → Next

-- what a listing call gives
pub record Page : Type 0 where
  pub rows : ℕ
  pub tally : ℕ
  pub next : Next

abbrev pub said_next : Option ℕ → Next
said_next None = done
said_next (Some s) = more s

abbrev pub said_listed : Result Listing ListError → Said Page
said_listed (Ok l) = answered (record { rows = l.rows; tally = l.tally; next = said_next l.next })
said_listed (Err (Refused r)) = said_refusal r
said_listed (Err Start) = refused 15 0
said_listed (Err Short) = refused 16 0
