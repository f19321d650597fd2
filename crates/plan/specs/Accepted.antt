-- What acceptance gives: the facts of a plan that the search is built on. Assumes nothing.
use Rattle.std.specs.Prelude.{ℕ, ◌*◌, ◌<◌, ◌≤◌, ◌≡◌, Bool, true, false, List, [], length, get_or}
use Rattle.volume.specs.Layout.{list_count}
use Rattle.volume.specs.Check as volume
use Rattle.plan.specs.declared.row.Predicate.TheVariants.{Window}
use Rattle.plan.specs.declared.row.Kind.TheVariants as kind
use Rattle.plan.specs.Limits.{most_rows, most_patterns, most_pattern_vars, most_vars, row_words, most_row_words}
use Rattle.plan.specs.Rows.{row_count, rows_of, form_wrong_at, plan_of, InRange}
use Rattle.plan.specs.State.{names_below}
use Rattle.plan.specs.Patterns.{Pattern, no_row, patterns_of, answers_from}
use Rattle.plan.specs.Check.{sizes}

-- pattern number k of a plan
abbrev pub pattern_at : List ℕ → ℕ → Pattern
pattern_at p k = get_or (patterns_of (rows_of p)) k no_row

-- a pattern over t lists: 1 to 8 variables, each over a list that is there and is not list 0; predicates in range, naming variables
-- that are there
pub record WellMade (t : ℕ) (f : Pattern) : Type 0 where
  pub some-vars : 1 ≤ length f.vars
  pub most-vars : length f.vars ≤ most_pattern_vars
  pub lists : (i : ℕ) → i < length f.vars → (1 ≤ get_or f.vars i 0) × (get_or f.vars i 0 < t)
  pub names : (j : ℕ) → j < length f.predicates → names_below (length f.vars) (get_or f.predicates j (Window 1)) ≡ true
  pub ranges : (j : ℕ) → j < length f.predicates → InRange (kind.Condition (get_or f.predicates j (Window 1)))

-- what an accepted volume and plan give
pub record Given (v p : List ℕ) : Type 0 where
  -- the volume is accepted
  pub volume-accepted : volume.Accepted v
  -- 1 to 64 whole rows, each of the right form; the plan is their words
  pub whole : length p ≡ 4 * row_count p
  pub some-rows : 1 ≤ row_count p
  pub most-rows : row_count p ≤ most_rows
  pub formed : (i : ℕ) → i < row_count p → form_wrong_at p i ≡ false
  pub words : p ≡ plan_of (rows_of p)
  -- 1 to 8 patterns, each well made
  pub some-patterns : 1 ≤ (sizes p).patterns
  pub most-patterns : (sizes p).patterns ≤ most_patterns
  pub well-made : (k : ℕ) → k < (sizes p).patterns → WellMade (list_count v) (pattern_at p k)
  -- at most 56 variables, and at most 120 words in a row of a listing
  pub some-vars : 1 ≤ (sizes p).vars
  pub most-vars : (sizes p).vars ≤ most_vars
  pub width : row_words (sizes p).patterns (sizes p).vars ≤ most_row_words
  -- exactly one answer is left, whichever patterns are found
  pub one_answer : (found : Pattern → Bool) → length (answers_from found no_row [] (rows_of p)) ≡ 1
