-- The call that writes the matches of a pattern in a document: its answer, and the lent words afterwards. Assumes nothing.
use Rattle.std.specs.Prelude.{ℕ, ◌/◌, cond, List, ltb, length}
use Rattle.std.proofs.Math.Option.{Option, none, some}
use Rattle.seq.specs.Lists.{joined}
use Rattle.seq.specs.Refusals.{Said, refused, answered, laid}
use Rattle.seq.specs.Pages.{Portion, portion}
use Rattle.volume.specs.Layout.{lists_of}
use Rattle.plan.specs.declared.answers.Sizes.{Sizes}
use Rattle.plan.specs.Patterns.{Pattern}
use Rattle.plan.specs.Check.{verdict}
use Rattle.plan.specs.Accepted.{pattern_at}
use Rattle.fulltext.specs.Order.{matches_from}
use Rattle.matcher.specs.Testing.{out_of_range}
use Rattle.enumeration.specs.Answers.{Page, padded}

-- how many positions a match of pattern k has
abbrev pub var_count : List ℕ → ℕ → ℕ
var_count p k = length (pattern_at p k).vars

-- the matches of pattern k in document d from a tuple on, in order
unfoldable pub matches_of : List ℕ → List ℕ → ℕ → ℕ → List ℕ → List (List ℕ)
unfolding matches_from
matches_of v p k d from = matches_from (lists_of v) d (pattern_at p k) from

-- of some matches those that fit are written, and the first one left is named
abbrev pub next_by : Option (List ℕ) → Option (List ℕ)
next_by none = none
next_by (some ps) = some (padded ps)

abbrev pub page_by : Portion (List ℕ) → Page
page_by t = record { count = length t.written; next = next_by t.left }

-- what is answered where m matches fit
unfoldable pub page_of : ℕ → List (List ℕ) → Page
page_of m qs = page_by (portion m qs)

-- the words that are written
unfoldable pub words_of : ℕ → List (List ℕ) → List ℕ
unfolding joined
words_of m qs = joined (portion m qs).written

-- 1 to 14 of the volume and the plan; 17: as for testing positions; 16: the buffer is shorter than a match; or the page
abbrev pub matches_by : Said Sizes → ℕ → Pattern → ℕ → List ℕ → ℕ → List (List ℕ) → Said Page
matches_by (refused n q) k f d from room qs = refused n q
matches_by (answered s) k f d from room qs =
    cond (out_of_range s.patterns k f d from) (refused 17 0)
    (cond (ltb room (length f.vars)) (refused 16 0)
    (answered (page_of (room / length f.vars) qs)))

-- the answer to writing the matches of pattern k in document d from a tuple on into a buffer of so many words
unfoldable pub matches_answer : List ℕ → List ℕ → ℕ → ℕ → List ℕ → ℕ → Said Page
unfolding matches_of page_of
matches_answer v p k d from room = matches_by (verdict v p) k (pattern_at p k) d from room (matches_of v p k d from)

-- the buffer afterwards
unfoldable pub matches_out : List ℕ → List ℕ → ℕ → ℕ → List ℕ → List ℕ → List ℕ
unfolding matches_answer words_of
matches_out v p k d from out =
    laid (matches_answer v p k d from (length out)) (words_of (length out / var_count p k) (matches_of v p k d from)) out
