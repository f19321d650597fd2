-- What a plan says of each document of a volume's lists: whether it is true, and its row. Assumes nothing.
use Rattle.std.specs.Prelude.{ℕ, ◌-◌, ◌*◌, Bool, true, false, List, [], ◌∷◌, map, length, replicate}
use Rattle.std.proofs.Math.Option.{Option, none, some}
use Rattle.seq.specs.Lists.{keep, total, joined}
use Rattle.seq.specs.Numbers.{run}
use Rattle.volume.specs.Layout.{lists_of}
use Rattle.plan.specs.Limits.{row_words}
use Rattle.plan.specs.Rows.{rows_of}
use Rattle.plan.specs.declared.row.Row.{Row}
use Rattle.plan.specs.Patterns.{Pattern, patterns_of, vars_of, answer}
use Rattle.fulltext.specs.Positions.{list_of, count_in}
use Rattle.fulltext.specs.Paragraphs.{para_start}
use Rattle.fulltext.specs.Matches.{starts_in, least_in}

-- there is something
abbrev pub present : {A : Type 0} → Option A → Bool
present none = false
present (some x) = true

-- a pattern is found in document d: it has a match there
unfoldable pub found : List (List ℕ) → ℕ → Pattern → Bool
unfolding least_in
found lists d f = present (least_in lists d f)

-- document d is true of a plan (01: true scene): the one answer left is yes
unfoldable pub matching : List (List ℕ) → List Row → ℕ → Bool
unfolding found answer
matching lists rows d = answer (found lists d) rows

-- a position, and the start of its paragraph behind it (02, N8); so for each of several
abbrev pub pair_of : List ℕ → ℕ → List ℕ
pair_of starts p = p ∷ (para_start starts p ∷ [])

unfoldable pub with_starts : List ℕ → List ℕ → List ℕ
unfolding para_start joined
with_starts starts ps = joined (map (pair_of starts) ps)

-- 1 and the least match of a pattern of n variables with its starts, or 0 and zeros
abbrev pub shown : List ℕ → ℕ → Option (List ℕ) → List ℕ
shown starts n none = 0 ∷ replicate (2 * n) 0
shown starts n (some ps) = 1 ∷ with_starts starts ps

abbrev pub shown_in : List (List ℕ) → ℕ → Pattern → List ℕ
shown_in lists d f = shown (starts_in lists d) (length f.vars) (least_in lists d f)

-- the row of document d: the document, then each pattern
unfoldable pub row_in : List (List ℕ) → List Row → ℕ → List ℕ
unfolding least_in with_starts joined
row_in lists rows d = d ∷ joined (map (shown_in lists d) (patterns_of rows))

-- the postings of all variables from document a up to document b, b not counted
unfoldable pub postings_in : List (List ℕ) → List Row → ℕ → ℕ → ℕ
unfolding total count_in vars_of
postings_in lists rows a b = total (λ l. count_in a b (list_of lists l)) (vars_of rows)

-- What is searched: which documents are true, the row of each, how many words a row has, and how many postings lie
-- from a document up to another
pub record Work : Type 0 where
  pub is_true : ℕ → Bool
  pub row_of : ℕ → List ℕ
  pub width : ℕ
  pub postings : ℕ → ℕ → ℕ

-- a plan over a volume's lists
unfoldable pub work_of : List (List ℕ) → List Row → Work
unfolding matching row_in vars_of postings_in
work_of lists rows = record {
  is_true = matching lists rows;
  row_of = row_in lists rows;
  width = row_words (length (patterns_of rows)) (total (λ (f : Pattern). length f.vars) (patterns_of rows));
  postings = postings_in lists rows;
}

-- the true documents from a up to b, b not counted, rising
unfoldable pub docs_in : Work → ℕ → ℕ → List ℕ
unfolding keep run
docs_in w a b = keep w.is_true (run (λ d. d) a (b - a))

-- the rows of some documents, joined
unfoldable pub rows_of_docs : Work → List ℕ → List ℕ
unfolding joined
rows_of_docs w ds = joined (map w.row_of ds)

-- a plan over a volume
unfoldable pub work : List ℕ → List ℕ → Work
unfolding work_of
work v p = work_of (lists_of v) (rows_of p)
