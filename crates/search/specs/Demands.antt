-- The statements that the crate is held to, each a named type. `proofs/Demands.antt` proves each in a line. Assumes nothing.
--     ListRefuses    demand 1 for listing
--     Demand3        demand 3: every search, whole
--     OneToOne       no two answers are told alike
use Rattle.std.specs.Prelude.{ℕ, Result, ◌/◌, ◌≡◌, true, ◌↔◌, List, ◌++◌, length, drop}
use Rattle.std.proofs.Math.Option.{none, some}
use Rattle.seq.specs.Lists.{total}
use Rattle.seq.specs.Refusals.{refused, answered, stage_in, FirstRefusal}
use Rattle.seq.specs.Calls.{Form, plain, Call}
use Rattle.block.specs.Bytes.{IsBytes}
use Rattle.volume.specs.Layout.{count, lists_of}
use Rattle.plan.specs.Rows.{rows_of}
use Rattle.plan.specs.Check.{Accepted}
use Rattle.plan.specs.Patterns.{Pattern, vars_of}
use Rattle.fulltext.specs.Positions.{limit}
use Rattle.fulltext.specs.Matches.{matches_at, least_in, Least}
use Rattle.fulltext.specs.Documents.{found, work}
use Rattle.search.specs.declared.answers.Listing.{Listing}
use Rattle.search.specs.declared.answers.ListError.{ListError}
use Rattle.search.specs.Answers.{Page, said_listed}
use Rattle.search.specs.Listing.{page_of, rows_from, list_answer, list_out}
use Rattle.search.specs.Refusals.{ListApplies, list_stages}
use Rattle.search.specs.Search.{IsSearch, outcome, Searched}

-- listing: the first of 1 to 14, 15, 16 that applies, or the page exactly if none applies
-- a refusal leaves the buffer as it was; an answer leaves the rows at its front and the rest as it was
pub record ListCall (v p : List ℕ) (start : ℕ) (out : List ℕ) : Type 0 where
  pub first : FirstRefusal (stage_in list_stages) (ListApplies v p start (length out))
      (page_of (work v p) start (length out / (work v p).width)) (list_answer v p start (length out))
  pub kept : (n q : ℕ) → list_answer v p start (length out) ≡ refused n q → list_out v p start out ≡ out
  pub laid : (page : Page)
      → list_answer v p start (length out) ≡ answered page
      → list_out v p start out
      ≡ rows_from (work v p) start (length out / (work v p).width)
      ++ drop (length (rows_from (work v p) start (length out / (work v p).width))) out

-- Demand 1, listing
unfoldable pub ListRefuses : Type 0
ListRefuses = (v p : List ℕ) (start : ℕ) (out : List ℕ) → ListCall v p start out

-- what demand 3 says of an accepted volume and plan, of calls whose answers have a form
pub record Holds3 {A : Type 0} (form : Form Page A) (v p : List ℕ) : Type 0 where
  -- every search: rows, tallies, the document reached, each answer, the end
  pub searched : (calls : List (Call A))
      → IsSearch form v p 0 calls
      → Searched form (work v p) calls (outcome form v p calls)
  -- a pattern is found exactly if some tuple of positions matches
  pub found_some : (d : ℕ) (f : Pattern) → (found (lists_of v) d f ≡ true) ↔ ((ps : List ℕ) × (matches_at (lists_of v) d f ps ≡ true))
  -- the positions shown match and are least in all variables together; where none are shown nothing matches
  pub least : (d : ℕ) (f : Pattern) (ps : List ℕ) → (least_in (lists_of v) d f ≡ some ps) ↔ Least (lists_of v) d f ps
  pub unfound : (d : ℕ) (f : Pattern) → (least_in (lists_of v) d f ≡ none) ↔ ((ps : List ℕ) → matches_at (lists_of v) d f ps ≡ true → ⊥)
  -- after DONE the tallies are the counts of the variables' lists
  pub whole : IsBytes v → (work v p).postings 0 limit ≡ total (λ l. count v l) (vars_of (rows_of p))

-- Demand 3: over every accepted volume and plan
unfoldable pub Demand3 : Type 0
Demand3 = (v p : List ℕ) → Accepted v p → Holds3 plain v p

-- no two answers have document 01's number and values in common
pub record OneToOne : Type 0 where
  pub listed : (a b : Result Listing ListError) → said_listed a ≡ said_listed b → a ≡ b
