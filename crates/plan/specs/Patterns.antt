-- What a plan means: its patterns, and its answer by a stack that moves row by row. Assumes nothing.
use Rattle.std.specs.Prelude.{ℕ, Bool, false, not, ◌&&◌, ◌||◌, List, [], ◌∷◌, ◌++◌, map, length, get_or, take, drop, leb}
use Rattle.seq.specs.Lists.{keep, joined}
use Rattle.plan.specs.declared.row.Predicate.{Predicate}
use Rattle.plan.specs.declared.row.Operator.{Operator}
use Rattle.plan.specs.declared.row.Operator.TheVariants.{Both, Either, FirstNotSecond, AtLeast}
use Rattle.plan.specs.declared.row.Kind.{Kind}
use Rattle.plan.specs.declared.row.Kind.TheVariants as kind
use Rattle.plan.specs.declared.row.Row.{Row}

-- a pattern (01: figure): the list of each of its variables (01: voices), and its predicates (01: conditions)
pub record Pattern : Type 0 where
  pub vars : List ℕ
  pub predicates : List Predicate

-- the pattern of no row
abbrev pub no_row : Pattern
no_row = record { vars = []; predicates = [] }

-- the open pattern behind a row; END leaves none
abbrev pub open_after : Pattern → Kind → Pattern
open_after f (kind.Voice list) = record { vars = f.vars ++ (list ∷ []); predicates = f.predicates }
open_after f (kind.Condition c) = record { vars = f.vars; predicates = f.predicates ++ (c ∷ []) }
open_after f kind.End = no_row
open_after f (kind.Operator o) = f

-- the pattern that a row closes
abbrev pub closed : Pattern → Kind → List Pattern
closed f (kind.Voice list) = []
closed f (kind.Condition c) = []
closed f kind.End = f ∷ []
closed f (kind.Operator o) = []

-- the patterns that rows close, in order, where f is open in front of them
unfoldable pub patterns_from : Pattern → List Row → List Pattern
patterns_from f [] = []
patterns_from f (r ∷ rows) = closed f r.kind ++ patterns_from (open_after f r.kind) rows

-- the patterns of a plan
abbrev pub patterns_of : List Row → List Pattern
patterns_of rows = patterns_from no_row rows

-- the lists of all variables of a plan
unfoldable pub vars_of : List Row → List ℕ
unfolding joined
vars_of rows = joined (map (λ (f : Pattern). f.vars) (patterns_of rows))

-- the top two answers, the upper being the second, become one
abbrev pub two : (Bool → Bool → Bool) → List Bool → List Bool
two f [] = []
two f (second ∷ []) = []
two f (second ∷ (first ∷ answers)) = f first second ∷ answers

-- how many of some answers are yes
unfoldable pub yeses : List Bool → ℕ
unfolding keep
yeses answers = length (keep (λ (t : Bool). t) answers)

-- an operator takes answers from the top and stacks one; AT LEAST counts those that are yes among the top ones (02, N9)
abbrev pub operate : Operator → List Bool → List Bool
operate Both answers = two (λ first second. first && second) answers
operate Either answers = two (λ first second. first || second) answers
operate FirstNotSecond answers = two (λ first second. first && not second) answers
operate (AtLeast least of) answers = leb least (yeses (take of answers)) ∷ drop of answers

-- the answers behind a row, where f is open in front of it; `found` answers for a pattern
abbrev pub answers_after : (Pattern → Bool) → Pattern → List Bool → Kind → List Bool
answers_after found f answers (kind.Voice list) = answers
answers_after found f answers (kind.Condition c) = answers
answers_after found f answers kind.End = found f ∷ answers
answers_after found f answers (kind.Operator o) = operate o answers

-- the answers behind several rows
unfoldable pub answers_from : (Pattern → Bool) → Pattern → List Bool → List Row → List Bool
answers_from found f answers [] = answers
answers_from found f answers (r ∷ rows) = answers_from found (open_after f r.kind) (answers_after found f answers r.kind) rows

-- the one answer left at the end
unfoldable pub answer : (Pattern → Bool) → List Row → Bool
answer found rows = get_or (answers_from found no_row [] rows) 0 false
