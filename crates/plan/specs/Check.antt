-- The verdict on a plan over a volume: a test for each of document 01's refusals 9 to 14, and the first that applies. Assumes nothing.
use Rattle.std.specs.Prelude.{ℕ, ◌%◌, Bool, true, false, not, cond, ◌||◌, ◌≡◌, List, length, Result, Ok, Err, ltb, eqb}
use Rattle.seq.specs.Lists.{total}
use Rattle.seq.specs.Numbers.{first_from}
use Rattle.seq.specs.Refusals.{Said, refused, answered}
use Rattle.volume.specs.Answers as volumeAnswers
use Rattle.volume.specs.Check as volume
use Rattle.plan.specs.declared.answers.Fault.{Fault}
use Rattle.plan.specs.declared.state.State.{State}
use Rattle.plan.specs.Answers.{Sizes, fault_code}
use Rattle.plan.specs.Limits.{most_words}
use Rattle.plan.specs.Rows.{row_count, rows_of}
use Rattle.plan.specs.State.{state_at, step}
use Rattle.plan.specs.Patterns.{Pattern, patterns_of}

-- 9: length 0, not a multiple of four words, or over 256 words
unfoldable pub length_wrong : List ℕ → Bool
length_wrong p = eqb (length p) 0 || (not (eqb (length p % 4) 0) || ltb most_words (length p))

-- a row is refused, and its number
abbrev pub faulty : Result State Fault → Bool
faulty (Ok s) = false
faulty (Err why) = true

abbrev pub fault_of : Result State Fault → ℕ
fault_of (Ok s) = 0
fault_of (Err why) = fault_code why

-- 10 to 13 at row i, over t lists
unfoldable pub row_wrong : ℕ → List ℕ → ℕ → Bool
row_wrong t p i = faulty (step t (state_at p i) p i)

unfoldable pub row_fault : ℕ → List ℕ → ℕ → ℕ
row_fault t p i = fault_of (step t (state_at p i) p i)

-- the lowest such row; the number of rows where there is none
abbrev pub bad_row : ℕ → List ℕ → ℕ
bad_row t p = first_from (row_wrong t p) 0 (row_count p)

unfoldable pub rows_wrong : ℕ → List ℕ → Bool
rows_wrong t p = ltb (bad_row t p) (row_count p)

-- 14: a pattern is open at the end, or the number of answers is not one
unfoldable pub unfinished : List ℕ → Bool
unfinished p = not (eqb (state_at p (row_count p)).vars 0) || not (eqb (state_at p (row_count p)).answers 1)

-- what an accepted plan gives: the number of its patterns, and of their variables
unfoldable pub sizes : List ℕ → Sizes
sizes p = record { patterns = length (patterns_of (rows_of p)); vars = total (λ (f : Pattern). length f.vars) (patterns_of (rows_of p)) }

-- the verdict on the rows of a plan over t lists
unfoldable pub rows_verdict : ℕ → List ℕ → Said Sizes
rows_verdict t p =
    let from14 = cond (unfinished p) (refused 14 0) (answered (sizes p)) in
    cond (rows_wrong t p) (refused (row_fault t p (bad_row t p)) (bad_row t p)) from14

-- the verdict on a plan over t lists
unfoldable pub plan_verdict : ℕ → List ℕ → Said Sizes
plan_verdict t p = cond (length_wrong p) (refused 9 0) (rows_verdict t p)

-- 1 to 8 of the volume, or the verdict on the plan
abbrev pub verdict_by : Said volumeAnswers.Sizes → List ℕ → Said Sizes
verdict_by (refused n q) p = refused n q
verdict_by (answered s) p = plan_verdict s.lists p

-- the verdict on a volume and a plan
unfoldable pub verdict : List ℕ → List ℕ → Said Sizes
verdict v p = verdict_by (volume.verdict v) p

-- v and p are accepted: none of 1 to 14 applies
abbrev pub Accepted : List ℕ → List ℕ → Type 0
Accepted v p = verdict v p ≡ answered (sizes p)
