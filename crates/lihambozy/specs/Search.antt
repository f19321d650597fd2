-- A search by the C functions: a list of calls of `lhz_list` as they were made, each with the struct that it answered. What a search is
-- and what holds of it stands in the crate `search`, for every form of answer; here is the form of the structs. Assumes nothing.
use Rattle.std.specs.Prelude.{ℕ, cond, List, eqb}
use Rattle.seq.specs.Refusals.{Said, refused, answered}
use Rattle.seq.specs.Calls.{Form}
use Rattle.fulltext.specs.Positions.{limit}
use Rattle.search.specs.Answers.{Next, done, more, Page}
use Rattle.search.specs.Search.{KeptAs}
use Rattle.lihambozy.specs.declared.answers.ListAnswer.{ListAnswer}
use Rattle.lihambozy.specs.Flat.{flat_listing}

-- 65,536 is DONE, and any other number the document of MORE
abbrev pub heard_next : ℕ → Next
heard_next n = cond (eqb n limit) done (more n)

-- what a struct says, by its fields alone: a refusal where its refusal is not 0, and else its rows, its tally and what is next
abbrev pub heard : ListAnswer → Said Page
heard a =
    cond (eqb a.refusal 0)
    (answered (record { rows = a.rows; tally = a.tally; next = heard_next a.next }))
    (refused a.refusal a.at)

-- the form of the structs
abbrev pub structs : Form Page ListAnswer
structs = record { make = flat_listing; said = heard }

-- what `lhz_list` promises of a call from document `start` on: of the buffer lent, the struct, and the buffer as it returns
abbrev pub Kept : List ℕ → List ℕ → ℕ → List ℕ → ListAnswer → List ℕ → Type 0
Kept v p start lent says back = KeptAs structs v p start (record { lent = lent; says = says; back = back })
