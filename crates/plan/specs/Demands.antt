-- The statements that the crate is held to, each a named type. `proofs/Demands.antt` proves each in a line. Assumes nothing.
--     CheckRefuses, PartRefuses     demand 1 for checking a plan and for showing a pattern
--     ReadsRows                     four words are read as exactly the row that they state
--     Gives                         what acceptance gives
--     Parts                         the rows of a pattern are those it was read from; with the operators between them they are the plan
--     AtLeastIs                     what AT LEAST answers
--     OneToOne                      no two answers are told alike
use Rattle.std.specs.Prelude.{ℕ, ◌<◌, ◌≤◌, ◌≡◌, Bool, true, false, ◌↔◌, List, [], ◌∷◌, ◌++◌, Result, get_or, drop}
use Rattle.seq.specs.Lists.{all, joined}
use Rattle.seq.specs.Numbers.{run}
use Rattle.seq.specs.Refusals.{stage_in, FirstRefusal}
use Rattle.plan.specs.declared.answers.Refusal.{Refusal}
use Rattle.plan.specs.declared.row.Operator.TheVariants.{Both, Either, AtLeast}
use Rattle.plan.specs.declared.row.Row.{Row}
use Rattle.plan.specs.Rows.{row_of, rows_of, form_wrong, words_of, plan_of, InRange, is_operator}
use Rattle.plan.specs.Patterns.{operate}
use Rattle.plan.specs.Answers.{Sizes, said_refusal, said_checked}
use Rattle.plan.specs.Check.{sizes, verdict, Accepted}
use Rattle.plan.specs.Parts.{part_of, gap, pattern_rows}
use Rattle.plan.specs.Refusals.{PlanApplies, PartApplies, plan_stages}
use Rattle.plan.specs.Accepted.{pattern_at, Given}

-- Demand 1, checking: the verdict is the first of 1 to 14 that applies, and F and V exactly if none applies
unfoldable pub CheckRefuses : Type 0
CheckRefuses = (v p : List ℕ) → FirstRefusal (stage_in plan_stages) (PlanApplies v p) (sizes p) (verdict v p)

-- Demand 1, showing a pattern: the part is empty exactly if one of 1 to 14 or 17 applies
unfoldable pub PartRefuses : Type 0
PartRefuses = (v p : List ℕ) (k : ℕ) → (part_of v p k ≡ []) ↔ ((n : ℕ) × (q : ℕ) × PartApplies v p k n q)

-- four words have the right form and are read as a row exactly if its numbers are in range and they are its words
unfoldable pub ReadsRows : Type 0
ReadsRows =
    (k a b c : ℕ) (r : Row)
    → ((form_wrong k a b c ≡ false) × (row_of k a b c ≡ r)) ↔ (InRange r.kind × (words_of r.kind ≡ k ∷ a ∷ b ∷ c ∷ []))

-- an accepted volume and plan give these facts
unfoldable pub Gives : Type 0
Gives = (v p : List ℕ) → Accepted v p → Given v p

-- the patterns' parts: their rows are those that say the pattern, and their words those of these rows; the parts in order, with the
-- operators between them, are the whole plan
pub record Parted (v p : List ℕ) : Type 0 where
  pub rows : (k : ℕ) → k < (sizes p).patterns → rows_of (part_of v p k) ≡ pattern_rows (pattern_at p k)
  pub words : (k : ℕ) → k < (sizes p).patterns → part_of v p k ≡ plan_of (pattern_rows (pattern_at p k))
  pub whole : p ≡ joined (run (λ k. gap p k ++ part_of v p k) 0 (sizes p).patterns) ++ gap p (sizes p).patterns
  pub gaps : (k : ℕ) → k ≤ (sizes p).patterns → all (λ (r : Row). is_operator r.kind) (rows_of (gap p k)) ≡ true

unfoldable pub Parts : Type 0
Parts = (v p : List ℕ) → Accepted v p → Parted v p

-- AT LEAST (02, N9) over any answers
pub record AtLeasts (of : ℕ) (answers : List Bool) : Type 0 where
  -- it leaves the answers below those that it takes, and on them its own
  pub leaves : (least : ℕ) → drop 1 (operate (AtLeast least of) answers) ≡ drop of answers
  -- 1 of them: one is yes; all of them: none is no
  pub one : (get_or (operate (AtLeast 1 of) answers) 0 false ≡ true) ↔ ((i : ℕ) × (i < of) × (get_or answers i false ≡ true))
  pub all : (get_or (operate (AtLeast of of) answers) 0 false ≡ true) ↔ ((i : ℕ) → i < of → get_or answers i false ≡ true)
  -- asking for fewer never turns a yes into a no
  pub fewer :
      (m n : ℕ) → m ≤ n → get_or (operate (AtLeast n of) answers) 0 false ≡ true → get_or (operate (AtLeast m of) answers) 0 false ≡ true
  -- with two more answers on top: 1 of two is EITHER, 2 of two are BOTH
  pub either : (first second : Bool) → operate (AtLeast 1 2) (second ∷ (first ∷ answers)) ≡ operate Either (second ∷ (first ∷ answers))
  pub both : (first second : Bool) → operate (AtLeast 2 2) (second ∷ (first ∷ answers)) ≡ operate Both (second ∷ (first ∷ answers))

unfoldable pub AtLeastIs : Type 0
AtLeastIs = (of : ℕ) (answers : List Bool) → AtLeasts of answers

-- no two answers have document 01's number and values in common
pub record OneToOne : Type 0 where
  pub refusal : (a b : Refusal) → said_refusal {A = Sizes} a ≡ said_refusal b → a ≡ b
  pub checked : (a b : Result Sizes Refusal) → said_checked a ≡ said_checked b → a ≡ b
