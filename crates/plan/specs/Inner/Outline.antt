-- Where each pattern of a plan lies: its rows, and its variables among those of the plan. Assumes nothing.
use Rattle.std.specs.Prelude.{ℕ, ◌+◌, ◌-◌, ◌<◌, ◌≤◌, ◌≡◌, not, List, length, get_or, take}
use Rattle.seq.specs.Lists.{total}
use Rattle.plan.specs.declared.row.Predicate.TheVariants.{Window}
use Rattle.plan.specs.declared.row.Kind.TheVariants as kind
use Rattle.plan.specs.declared.outline.Outline.{Outline}
use Rattle.plan.specs.Rows.{row_count, row_at, rows_of, is_voice}
use Rattle.plan.specs.Patterns.{Pattern, patterns_of}
use Rattle.plan.specs.Parts.{first_of}
use Rattle.plan.specs.Check.{sizes}
use Rattle.plan.specs.Accepted.{pattern_at}

-- the first row from row i on that is no VOICE; where there is none, the number of rows, or i if that is larger
abbrev pub behind_voices : List ℕ → ℕ → ℕ
behind_voices p i = first_of (λ k. not (is_voice k)) p i

-- how many variables stand in front of pattern k
unfoldable pub vars_before : List ℕ → ℕ → ℕ
unfolding total
vars_before p k = total (λ (f : Pattern). length f.vars) (take k (patterns_of (rows_of p)))

-- an outline is that of its pattern: the number of its variables, and its rows
pub record Outlines (p : List ℕ) (o : Outline) : Type 0 where
  pub vars_are : o.vars ≡ length (pattern_at p o.pattern).vars
  pub room : o.vars ≤ o.condition
  pub last-is : o.last ≡ o.condition + length (pattern_at p o.pattern).predicates
  pub inside : o.last < row_count p
  -- the rows of its variables, and those of its predicates
  pub voices :
      (i : ℕ) → i < o.vars → (row_at p ((o.condition - o.vars) + i)).kind ≡ kind.Voice (get_or (pattern_at p o.pattern).vars i 0)
  pub conditions :
      (j : ℕ) → j < length (pattern_at p o.pattern).predicates
      → (row_at p (o.condition + j)).kind ≡ kind.Condition (get_or (pattern_at p o.pattern).predicates j (Window 1))

-- it says too where the pattern's variables lie among those of the plan
pub record Entry (p : List ℕ) (o : Outline) : Type 0 where
  pub outlines : Outlines p o
  pub first-is : o.first ≡ vars_before p o.pattern

-- the outline of no pattern
abbrev pub no_outline : Outline
no_outline = record { pattern = 0; first = 0; vars = 0; condition = 0; last = 0 }

-- outline k of a table
abbrev pub outline_at : List Outline → ℕ → Outline
outline_at table k = get_or table k no_outline

-- a table with the outline of each pattern
abbrev pub Tabled : List ℕ → List Outline → Type 0
Tabled p table = (k : ℕ) → k < (sizes p).patterns → Entry p (outline_at table k) × ((outline_at table k).pattern ≡ k)
