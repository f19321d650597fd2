-- An enumeration by the C functions: a list of calls of `lhz_list_matches` as they were made, each with the struct that it answered. What
-- an enumeration is and what holds of it stands in the crate `enumeration`, for every form of answer; here is the form of the structs.
-- Assumes nothing.
use Rattle.std.specs.Prelude.{ℕ, cond, List, eqb}
use Rattle.std.proofs.Math.Option.{Option, none, some}
use Rattle.seq.specs.Refusals.{Said, refused, answered}
use Rattle.seq.specs.Calls.{Form}
use Rattle.enumeration.specs.Answers.{Page}
use Rattle.enumeration.specs.Enumeration.{KeptAs}
use Rattle.lihambozy.specs.declared.answers.ListMatchesAnswer.{ListMatchesAnswer}
use Rattle.lihambozy.specs.Flat.{flat_matches}

-- 0 is DONE, and any other number MORE with these words
abbrev pub heard_more : ℕ → List ℕ → Option (List ℕ)
heard_more n words = cond (eqb n 0) none (some words)

-- what a struct says, by its fields alone: a refusal where its refusal is not 0, and else its count and what is next
abbrev pub heard : ListMatchesAnswer → Said Page
heard a =
    cond (eqb a.refusal 0)
    (answered (record { count = a.count; next = heard_more a.more a.next }))
    (refused a.refusal a.at)

-- the form of the structs
abbrev pub structs : Form Page ListMatchesAnswer
structs = record { make = flat_matches; said = heard }

-- what `lhz_list_matches` promises of a call for pattern k in document d from a tuple on: of the buffer lent, the struct, and the buffer as
-- it returns
abbrev pub Kept : List ℕ → List ℕ → ℕ → ℕ → List ℕ → List ℕ → ListMatchesAnswer → List ℕ → Type 0
Kept v p k d from lent says back = KeptAs structs v p k d from (record { lent = lent; says = says; back = back })
