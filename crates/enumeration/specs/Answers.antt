-- Document 01's number and values for each answer of the call, and the eight words that C shows beside it. Assumes nothing.
use Rattle.std.specs.Prelude.{ℕ, ◌-◌, List, ◌++◌, length, replicate, Result, Ok, Err, Some, None}
use Rattle.std.specs.Prelude as prelude
use Rattle.std.proofs.Math.Option.{Option, none, some}
use Rattle.seq.specs.Refusals.{Said, refused, answered}
use Rattle.plan.specs.Limits.{most_pattern_vars}
use Rattle.plan.specs.Answers.{said_refusal}
use Rattle.enumeration.specs.declared.answers.Matches.{Matches}
use Rattle.enumeration.specs.declared.answers.MatchError.{MatchError}
use Rattle.enumeration.specs.declared.answers.MatchError.TheVariants as error

-- what the call gives: how many matches (01: passing choices) are written; MORE and the next one as eight words, or DONE
pub record Page : Type 0 where
  pub count : ℕ
  pub next : Option (List ℕ)

-- a tuple as eight words: zeros behind it
abbrev pub padded : List ℕ → List ℕ
padded ps = ps ++ replicate (most_pattern_vars - length ps) 0

-- MORE with a match, or DONE
abbrev pub said_next : prelude.Option (List ℕ) → Option (List ℕ)
said_next None = none
said_next (Some words) = some words

abbrev pub said_error : MatchError → Said Page
said_error (error.Refused r) = said_refusal r
said_error error.OutOfRange = refused 17 0
said_error error.Short = refused 16 0

abbrev pub said_matched : Result Matches MatchError → Said Page
said_matched (Ok m) = answered (record { count = m.count; next = said_next m.next })
said_matched (Err e) = said_error e

-- the eight words beside an answer: MORE's match; zeros at DONE and on a refusal
abbrev pub beside_next : Option (List ℕ) → List ℕ
beside_next none = replicate most_pattern_vars 0
beside_next (some words) = words
