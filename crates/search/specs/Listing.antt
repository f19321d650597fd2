-- The listing call: its answer, and the lent words afterwards. Assumes nothing.
use Rattle.std.specs.Prelude.{ℕ, ◌/◌, cond, List, length, ltb}
use Rattle.std.proofs.Math.Option.{Option, none, some}
use Rattle.seq.specs.Refusals.{Said, refused, answered, laid}
use Rattle.plan.specs.declared.answers.Sizes.{Sizes}
use Rattle.plan.specs.Check.{verdict}
use Rattle.fulltext.specs.Positions.{limit}
use Rattle.fulltext.specs.Documents.{Work, docs_in, rows_of_docs, work}
use Rattle.seq.specs.Pages.{Portion, portion}
use Rattle.search.specs.Answers.{Next, Page, done, more}

-- behind the rows that are written: DONE, with the postings to the end, or MORE and the first document left, with the postings up to it
abbrev pub next_by : Option ℕ → Next
next_by none = done
next_by (some s) = more s

abbrev pub tally_by : Work → ℕ → Option ℕ → ℕ
tally_by w start none = w.postings start limit
tally_by w start (some s) = w.postings start s

abbrev pub page_by : Work → ℕ → Portion ℕ → Page
page_by w start p = record { rows = length p.written; tally = tally_by w start p.left; next = next_by p.left }

-- from document `start` on where m rows fit: of the true documents that remain, those that fit are written
abbrev pub portion_from : Work → ℕ → ℕ → Portion ℕ
portion_from w start m = portion m (docs_in w start limit)

-- what is answered
unfoldable pub page_of : Work → ℕ → ℕ → Page
unfolding docs_in
page_of w start m = page_by w start (portion_from w start m)

-- the words that are written
unfoldable pub rows_from : Work → ℕ → ℕ → List ℕ
unfolding docs_in rows_of_docs
rows_from w start m = rows_of_docs w (portion_from w start m).written

-- 1 to 14 of the volume and the plan; 15: the start is over 65,535; 16: the buffer is shorter than a row; or the page
abbrev pub list_by : Said Sizes → Work → ℕ → ℕ → Said Page
list_by (refused n q) w start room = refused n q
list_by (answered s) w start room =
    cond (ltb 65535 start) (refused 15 0)
    (cond (ltb room w.width) (refused 16 0)
    (answered (page_of w start (room / w.width))))

-- the answer to listing from document `start` on into a buffer of so many words
unfoldable pub list_answer : List ℕ → List ℕ → ℕ → ℕ → Said Page
unfolding work page_of
list_answer v p start room = list_by (verdict v p) (work v p) start room

-- the buffer afterwards
unfoldable pub list_out : List ℕ → List ℕ → ℕ → List ℕ → List ℕ
unfolding list_answer rows_from
list_out v p start out = laid (list_answer v p start (length out)) (rows_from (work v p) start (length out / (work v p).width)) out
