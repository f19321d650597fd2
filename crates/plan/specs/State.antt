-- The reading of a plan, row by row: a state in front of each row, and what a row does to it. `State` itself is a struct of `src/state.rt`.
--     initial        in front of row 0
--     after          behind a row that may stand there
--     state_at        in front of row i of a plan
--     list_wrong, too_many, order_wrong     document 01's refusals 11, 12 and 13 of a row
--     step           the first of 10 to 13 that applies to a row, or the state behind it
-- Assumes nothing.
use Rattle.std.specs.Prelude.{ℕ, ◌+◌, ◌-◌, Bool, true, false, not, cond, ◌&&◌, ◌||◌, List, [], ◌∷◌, Result, Ok, Err, eqb, ltb, leb}
use Rattle.plan.specs.declared.answers.Fault.{Fault}
use Rattle.plan.specs.declared.answers.Fault.TheVariants as fault
use Rattle.plan.specs.declared.row.Predicate.{Predicate}
use Rattle.plan.specs.declared.row.Predicate.TheVariants.{Distance, Ordered, Samepara, Window, Proximity}
use Rattle.plan.specs.declared.row.Operator.{Operator}
use Rattle.plan.specs.declared.row.Operator.TheVariants.{Both, Either, FirstNotSecond, AtLeast}
use Rattle.plan.specs.declared.row.Kind.{Kind}
use Rattle.plan.specs.declared.row.Kind.TheVariants as kind
use Rattle.plan.specs.declared.row.Row.{Row}
use Rattle.plan.specs.declared.state.State.{State}
use Rattle.plan.specs.Limits.{most_patterns, most_pattern_vars}
use Rattle.plan.specs.Rows.{row_at, rows_before, form_wrong_at}

-- in front of row 0: no pattern open, nothing stacked
abbrev pub initial : State
initial = record { vars = 0; begun = false; patterns = 0; answers = 0; total = 0 }

-- how many answers an operator takes
abbrev pub takes : Operator → ℕ
takes Both = 2
takes Either = 2
takes FirstNotSecond = 2
takes (AtLeast least of) = of

-- behind a row: a variable is added; conditions have begun; the pattern is closed and its answer stacked; the top answers become one
abbrev pub after : State → Kind → State
after s (kind.Voice list) =
    record { vars = s.vars + 1; begun = s.begun; patterns = s.patterns; answers = s.answers; total = s.total + 1 }
after s (kind.Condition c) =
    record { vars = s.vars; begun = true; patterns = s.patterns; answers = s.answers; total = s.total }
after s kind.End =
    record { vars = 0; begun = false; patterns = s.patterns + 1; answers = s.answers + 1; total = s.total }
after s (kind.Operator o) =
    record { vars = s.vars; begun = s.begun; patterns = s.patterns; answers = s.answers + 1 - takes o; total = s.total }

-- behind several rows
unfoldable pub after_all : State → List Row → State
after_all s [] = s
after_all s (r ∷ rows) = after_all (after s r.kind) rows

-- in front of row i of a plan
unfoldable pub state_at : List ℕ → ℕ → State
state_at p i = after_all initial (rows_before p i)

-- a predicate names only variables below n
abbrev pub names_below : ℕ → Predicate → Bool
names_below n (Distance a b limit) = ltb a n && ltb b n
names_below n (Ordered a b) = ltb a n && ltb b n
names_below n (Samepara a b) = ltb a n && ltb b n
names_below n (Window limit) = true
names_below n (Proximity a b least most) = ltb a n && ltb b n

-- 11: list 0, or a list not below T
abbrev pub list_wrong : ℕ → Kind → Bool
list_wrong t (kind.Voice list) = eqb list 0 || leb t list
list_wrong t (kind.Condition c) = false
list_wrong t kind.End = false
list_wrong t (kind.Operator o) = false

-- 12: a ninth variable, or a VOICE that would open a ninth pattern
abbrev pub too_many : State → Kind → Bool
too_many s (kind.Voice list) = leb most_pattern_vars s.vars || (eqb s.vars 0 && leb most_patterns s.patterns)
too_many s (kind.Condition c) = false
too_many s kind.End = false
too_many s (kind.Operator o) = false

-- 13: VOICE after a condition; a condition with no pattern open or naming a variable not there; END with no pattern open;
-- an operator with a pattern open or with fewer answers than it takes
abbrev pub order_wrong : State → Kind → Bool
order_wrong s (kind.Voice list) = s.begun
order_wrong s (kind.Condition c) = eqb s.vars 0 || not (names_below s.vars c)
order_wrong s kind.End = eqb s.vars 0
order_wrong s (kind.Operator o) = not (eqb s.vars 0) || ltb s.answers (takes o)

-- what row i does to a state, over t lists: the first of 10 to 13 that applies, or the state behind it
unfoldable pub step : ℕ → State → List ℕ → ℕ → Result State Fault
step t s p i =
    let k = (row_at p i).kind in
    let from13 = cond (order_wrong s k) (Err fault.Order) (Ok (after s k)) in
    let from12 = cond (too_many s k) (Err fault.TooMany) from13 in
    let from11 = cond (list_wrong t k) (Err fault.List) from12 in
    cond (form_wrong_at p i) (Err fault.Form) from11
