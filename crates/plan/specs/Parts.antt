-- Where the rows of each pattern lie in a plan. Assumes nothing.
use Rattle.std.specs.Prelude.{ℕ, zero, suc, ◌+◌, ◌-◌, ◌*◌, Bool, cond, List, [], ◌∷◌, ◌++◌, map, take, drop, leb}
use Rattle.seq.specs.Numbers.{first_from}
use Rattle.seq.specs.Refusals.{Said, refused, answered}
use Rattle.plan.specs.declared.row.Predicate.{Predicate}
use Rattle.plan.specs.declared.row.Kind.{Kind}
use Rattle.plan.specs.declared.row.Kind.TheVariants as kind
use Rattle.plan.specs.declared.row.Row.{Row}
use Rattle.plan.specs.declared.showing.Span.{Span}
use Rattle.plan.specs.Answers.{Sizes}
use Rattle.plan.specs.Rows.{row_count, row_at, is_voice, is_end}
use Rattle.plan.specs.Patterns.{Pattern}
use Rattle.plan.specs.Check.{verdict}

-- the first row of a sort from row i on; where there is none, the number of rows, or i if that is larger
unfoldable pub first_of : (Kind → Bool) → List ℕ → ℕ → ℕ
first_of sort p i = first_from (λ j. sort (row_at p j).kind) i (row_count p - i)

-- the first VOICE from row i on, and the first END from there on
abbrev pub opening : List ℕ → ℕ → ℕ
opening p i = first_of is_voice p i

abbrev pub ending : List ℕ → ℕ → ℕ
ending p i = first_of is_end p (opening p i)

-- the row behind the first k patterns
unfoldable pub behind : List ℕ → ℕ → ℕ
behind p zero = 0
behind p (suc k) = ending p (behind p k) + 1

-- the rows of pattern k: its first VOICE and its END
abbrev pub first_row : List ℕ → ℕ → ℕ
first_row p k = opening p (behind p k)

abbrev pub last_row : List ℕ → ℕ → ℕ
last_row p k = ending p (behind p k)

-- the same in words of the plan
abbrev pub span_at : List ℕ → ℕ → Span
span_at p k = record { start = 4 * first_row p k; len = 4 * (last_row p k + 1 - first_row p k) }

abbrev pub nowhere : Span
nowhere = record { start = 0; len = 0 }

-- by the verdict: nowhere where it refuses, or where pattern k is not there
abbrev pub span_by : Said Sizes → ℕ → Span → Span
span_by (refused n q) k there = nowhere
span_by (answered s) k there = cond (leb s.patterns k) nowhere there

unfoldable pub span_of : List ℕ → List ℕ → ℕ → Span
span_of v p k = span_by (verdict v p) k (span_at p k)

-- the part of the plan at a span
abbrev pub part_at : List ℕ → Span → List ℕ
part_at p s = take s.len (drop s.start p)

-- the rows of pattern k, empty on a refusal
unfoldable pub part_of : List ℕ → List ℕ → ℕ → List ℕ
part_of v p k = part_at p (span_of v p k)

-- the words between the pattern before k, or the plan's start, and pattern k, or the plan's end
unfoldable pub gap : List ℕ → ℕ → List ℕ
gap p k = take (4 * (first_row p k - behind p k)) (drop (4 * behind p k) p)

-- the rows that say a pattern: its variables, its predicates, END
abbrev pub pattern_rows : Pattern → List Row
pattern_rows f =
    map (λ (list : ℕ). record { kind = kind.Voice list }) f.vars
    ++ map (λ (c : Predicate). record { kind = kind.Condition c }) f.predicates
    ++ (record { kind = kind.End } ∷ [])
