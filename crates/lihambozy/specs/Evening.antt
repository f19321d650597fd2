-- A plan over two volumes, and over one in which they are joined (02: double bill). Assumes nothing.
--     raised_row, rows_of_both     a row with its document raised; the rows of two works, the second's raised
--     Evening                      what holds of the plan and of every search by it
use Rattle.std.specs.Prelude.{ℕ, ◌+◌, ◌-◌, ◌≡◌, List, [], ◌∷◌, ◌++◌, map}
use Rattle.seq.specs.Lists.{joined}
use Rattle.seq.specs.Calls.{Call}
use Rattle.plan.specs.Check.{verdict}
use Rattle.fulltext.specs.Positions.{limit}
use Rattle.fulltext.specs.Documents.{Work, docs_in, rows_of_docs, work}
use Rattle.search.specs.Search.{IsSearch, outcome}
use Rattle.search.specs.Demands.{Holds3}
use Rattle.lihambozy.specs.declared.answers.ListAnswer.{ListAnswer}
use Rattle.lihambozy.specs.Flat.{flat_plan}
use Rattle.lihambozy.specs.Search.{structs}

-- a row with its document raised
abbrev pub raised_row : ℕ → List ℕ → List ℕ
raised_row h [] = []
raised_row h (d ∷ rest) = (d + h) ∷ rest

-- the rows of some documents, each raised by h, joined
unfoldable pub raised_rows : ℕ → Work → List ℕ → List ℕ
unfolding joined
raised_rows h w ds = joined (map (λ d. raised_row h (w.row_of d)) ds)

-- the rows of the first work below document r, then those of the second, raised by h, below r
unfoldable pub rows_of_both : ℕ → Work → Work → ℕ → List ℕ
unfolding docs_in rows_of_docs raised_rows
rows_of_both h one two r = rows_of_docs one (docs_in one 0 r) ++ raised_rows h two (docs_in two 0 (r - h))

-- a plan p over two volumes v and w, and over u, in which they are joined, the second raised by h
pub record Evening (h : ℕ) (v w u p : List ℕ) : Type 0 where
  -- it is told alike over each of the three: with the same sizes, or with the same refusal and place
  pub first : verdict v p ≡ verdict u p
  pub second : verdict w p ≡ verdict u p
  -- where it is accepted, all of demand 3 holds of every search of u
  pub searched : (flat_plan (verdict u p)).refusal ≡ 0 → Holds3 structs u p
  -- every search of u, wherever it has come to: the first's rows below the document reached, then the second's, raised, below it
  pub rows : (flat_plan (verdict u p)).refusal ≡ 0
      → (calls : List (Call ListAnswer))
      → IsSearch structs u p 0 calls
      → (outcome structs u p calls).rows ≡ rows_of_both h (work v p) (work w p) (outcome structs u p calls).reached
  -- and the tallies add up to the postings of both below it
  pub tally : (flat_plan (verdict u p)).refusal ≡ 0
      → (calls : List (Call ListAnswer))
      → IsSearch structs u p 0 calls
      → (outcome structs u p calls).tally
      ≡ (work v p).postings 0 (outcome structs u p calls).reached + (work w p).postings 0 ((outcome structs u p calls).reached - h)
  -- after DONE: all rows of the first, then all of the second, raised, and the postings of both
  pub done : (flat_plan (verdict u p)).refusal ≡ 0
      → (calls : List (Call ListAnswer))
      → IsSearch structs u p 0 calls
      → (outcome structs u p calls).reached ≡ limit
      → ((outcome structs u p calls).rows
      ≡ rows_of_docs (work v p) (docs_in (work v p) 0 limit) ++ raised_rows h (work w p) (docs_in (work w p) 0 limit))
      × ((outcome structs u p calls).tally ≡ (work v p).postings 0 limit + (work w p).postings 0 limit)
