-- What a line says. Assumes nothing.
--     line_rows      its rows
--     line_true      the documents of which it is true, read on its own without rows
use Rattle.std.specs.Prelude.{ℕ, Bool, not, ◌&&◌, ◌||◌, List, [], ◌∷◌, ◌++◌, map, get_or, leb}
use Rattle.plan.specs.declared.row.Predicate.{Predicate}
use Rattle.plan.specs.declared.row.Predicate.TheVariants.{Distance, Ordered, Samepara, Window, Proximity}
use Rattle.plan.specs.declared.row.Operator.{Operator}
use Rattle.plan.specs.declared.row.Operator.TheVariants.{Both, Either, FirstNotSecond, AtLeast}
use Rattle.plan.specs.declared.row.Kind.TheVariants as kind
use Rattle.plan.specs.declared.row.Row.{Row}
use Rattle.plan.specs.Patterns.{Pattern, yeses}
use Rattle.plan.specs.Parts.{pattern_rows}
use Rattle.fulltext.specs.Documents.{found}
use Rattle.grammar.specs.Grammar.{Word, near, before, same, span, apart, Condition, Figure, Joint, both, without, Line, one, either}
use Rattle.grammar.specs.Grammar.{Part, alone, join, Item, figure, round, at_least, Lines, nil, snoc, line_count}

-- the predicate of a word and its numbers
abbrev pub predicate_by : Word → List ℕ → Predicate
predicate_by near ns = Distance (get_or ns 0 0) (get_or ns 1 0) (get_or ns 2 0)
predicate_by before ns = Ordered (get_or ns 0 0) (get_or ns 1 0)
predicate_by same ns = Samepara (get_or ns 0 0) (get_or ns 1 0)
predicate_by span ns = Window (get_or ns 0 0)
predicate_by apart ns = Proximity (get_or ns 0 0) (get_or ns 1 0) (get_or ns 2 0) (get_or ns 3 0)

-- the predicate of a condition
abbrev pub predicate_of : Condition → Predicate
predicate_of c = predicate_by c.word c.numbers

-- the pattern of a figure
abbrev pub pattern_of : Figure → Pattern
pattern_of f = record { vars = f.lists; predicates = map predicate_of f.conditions }

-- the operator of `&` and of `!`
abbrev pub operator_of : Joint → Operator
operator_of both = Both
operator_of without = FirstNotSecond

-- the row of an operator
abbrev pub operator_row : Operator → List Row
operator_row o = record { kind = kind.Operator o } ∷ []

-- the rows of a line: in its order, operators behind their whole second side, AT LEAST behind its last line
unfoldable mutual
  unfolding line_count

  pub line_rows : Line → List Row
  line_rows (one p) = part_rows p
  line_rows (either l p) = line_rows l ++ (part_rows p ++ operator_row Either)

  pub part_rows : Part → List Row
  part_rows (alone i) = item_rows i
  part_rows (join j p i) = part_rows p ++ (item_rows i ++ operator_row (operator_of j))

  pub item_rows : Item → List Row
  item_rows (figure f) = pattern_rows (pattern_of f)
  item_rows (round l) = line_rows l
  item_rows (at_least n ls) = lines_rows ls ++ operator_row (AtLeast n (line_count ls))

  pub lines_rows : Lines → List Row
  lines_rows nil = []
  lines_rows (snoc ls l) = lines_rows ls ++ line_rows l

-- `&` and `!` of two answers
abbrev pub joined_by : Joint → Bool → Bool → Bool
joined_by both x y = x && y
joined_by without x y = x && not y

-- a line is true, where `holds` answers for a figure; so many of several lines at least are
unfoldable mutual
  unfolding yeses

  pub line_holds : (Figure → Bool) → Line → Bool
  line_holds holds (one p) = part_holds holds p
  line_holds holds (either l p) = line_holds holds l || part_holds holds p

  pub part_holds : (Figure → Bool) → Part → Bool
  part_holds holds (alone i) = item_holds holds i
  part_holds holds (join j p i) = joined_by j (part_holds holds p) (item_holds holds i)

  pub item_holds : (Figure → Bool) → Item → Bool
  item_holds holds (figure f) = holds f
  item_holds holds (round l) = line_holds holds l
  item_holds holds (at_least n ls) = leb n (yeses (lines_hold holds ls))

  -- which of several lines are true, the last one first
  pub lines_hold : (Figure → Bool) → Lines → List Bool
  lines_hold holds nil = []
  lines_hold holds (snoc ls l) = line_holds holds l ∷ lines_hold holds ls

-- document d is true of a line over a volume's lists
unfoldable pub line_true : List (List ℕ) → Line → ℕ → Bool
unfolding line_holds found
line_true lists l d = line_holds (λ f. found lists d (pattern_of f)) l
