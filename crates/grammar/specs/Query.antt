-- A plan as a tree, and the line of a tree with no bracket that could be dropped. Assumes nothing.
--     Query, query_rows, query_holds     a tree, its rows and its answer
--     query_of, line_query               the tree of rows, and of a line
--     typed                              a tree as a line
--     plan_line, plan_text               the line of a plan, and its text
use Rattle.std.specs.Prelude.{ℕ, zero, suc, Bool, not, ◌&&◌, ◌||◌, List, [], ◌∷◌, ◌++◌, map, get_or, take, drop, leb}
use Rattle.plan.specs.declared.row.Predicate.{Predicate}
use Rattle.plan.specs.declared.row.Predicate.TheVariants.{Distance, Ordered, Samepara, Window, Proximity}
use Rattle.plan.specs.declared.row.Operator.{Operator}
use Rattle.plan.specs.declared.row.Operator.TheVariants.{Both, Either, FirstNotSecond, AtLeast}
use Rattle.plan.specs.declared.row.Kind.{Kind}
use Rattle.plan.specs.declared.row.Kind.TheVariants as kind
use Rattle.plan.specs.declared.row.Row.{Row}
use Rattle.plan.specs.Patterns.{Pattern, no_row, open_after, yeses}
use Rattle.plan.specs.Parts.{pattern_rows}
use Rattle.plan.specs.Rows.{rows_of}
pub use Rattle.grammar.specs.declared.tokens.Connective.{Connective}
use Rattle.grammar.specs.declared.tokens.Connective.TheVariants as c
use Rattle.grammar.specs.Grammar.{near, before, same, span, apart, Condition, Figure, Joint, both, without, Line, one, either, Part}
use Rattle.grammar.specs.Grammar.{alone, join, Item, figure, round, at_least, Lines, nil, snoc, written}
use Rattle.grammar.specs.Meaning.{pattern_of, operator_row}

-- patterns under connectives, and thresholds over several trees
mutual
  pub data Query : Type 0 where
    leaf : Pattern → Query
    node : Connective → Query → Query → Query
    threshold : ℕ → Queries → Query

  -- trees, one behind the other; the last one was pushed last
  pub data Queries : Type 0 where
    empty : Queries
    push : Queries → Query → Queries

-- how many there are
unfoldable pub query_count : Queries → ℕ
query_count empty = zero
query_count (push qs q) = suc (query_count qs)

-- the operator of a connective
abbrev pub operator_for : Connective → Operator
operator_for c.And = Both
operator_for c.Or = Either
operator_for c.AndNot = FirstNotSecond

-- its rows
unfoldable mutual
  unfolding query_count

  pub query_rows : Query → List Row
  query_rows (leaf f) = pattern_rows f
  query_rows (node k a b) = query_rows a ++ (query_rows b ++ operator_row (operator_for k))
  query_rows (threshold n qs) = queries_rows qs ++ operator_row (AtLeast n (query_count qs))

  pub queries_rows : Queries → List Row
  queries_rows empty = []
  queries_rows (push qs q) = queries_rows qs ++ query_rows q

-- the rows of stacked trees, the top one's last
unfoldable pub stack_rows : List Query → List Row
unfolding query_rows
stack_rows [] = []
stack_rows (q ∷ qs) = stack_rows qs ++ query_rows q

-- its answer
unfoldable mutual
  unfolding yeses

  pub query_holds : (Pattern → Bool) → Query → Bool
  query_holds found (leaf f) = found f
  query_holds found (node c.And a b) = query_holds found a && query_holds found b
  query_holds found (node c.Or a b) = query_holds found a || query_holds found b
  query_holds found (node c.AndNot a b) = query_holds found a && not (query_holds found b)
  query_holds found (threshold n qs) = leb n (yeses (queries_hold found qs))

  -- the answers of several, the last one's first
  pub queries_hold : (Pattern → Bool) → Queries → List Bool
  queries_hold found empty = []
  queries_hold found (push qs q) = query_holds found q ∷ queries_hold found qs

-- the trees that rows stack, in the manner of `answers_from`: a connective takes the top two
abbrev pub top_two : Connective → List Query → List Query
top_two k [] = []
top_two k (second ∷ []) = []
top_two k (second ∷ (first ∷ rest)) = node k first second ∷ rest

-- stacked trees as one behind the other, the top one last
unfoldable pub gathered : List Query → Queries
gathered [] = empty
gathered (q ∷ qs) = push (gathered qs) q

-- an operator makes one tree of those that it takes
abbrev pub topped : Operator → List Query → List Query
topped Both qs = top_two c.And qs
topped Either qs = top_two c.Or qs
topped FirstNotSecond qs = top_two c.AndNot qs
topped (AtLeast least of) qs = threshold least (gathered (take of qs)) ∷ drop of qs

-- one more row
abbrev pub queries_after : Pattern → List Query → Kind → List Query
queries_after f qs (kind.Voice list) = qs
queries_after f qs (kind.Condition c) = qs
queries_after f qs kind.End = leaf f ∷ qs
queries_after f qs (kind.Operator o) = topped o qs

-- all rows, from an open pattern and stacked trees on
unfoldable pub queries_from : Pattern → List Query → List Row → List Query
queries_from f qs [] = qs
queries_from f qs (r ∷ rows) = queries_from (open_after f r.kind) (queries_after f qs r.kind) rows

-- the tree of a plan's rows
unfoldable pub query_of : List Row → Query
unfolding queries_from
query_of rows = get_or (queries_from no_row [] rows) 0 (leaf no_row)

-- the connective of `&` and of `!`
abbrev pub connective_of : Joint → Connective
connective_of both = c.And
connective_of without = c.AndNot

-- a line without its brackets
unfoldable mutual
  pub line_query : Line → Query
  line_query (one p) = part_query p
  line_query (either l p) = node c.Or (line_query l) (part_query p)

  pub part_query : Part → Query
  part_query (alone i) = item_query i
  part_query (join j p i) = node (connective_of j) (part_query p) (item_query i)

  pub item_query : Item → Query
  item_query (figure f) = leaf (pattern_of f)
  item_query (round l) = line_query l
  item_query (at_least n ls) = threshold n (lines_queries ls)

  pub lines_queries : Lines → Queries
  lines_queries nil = empty
  lines_queries (snoc ls l) = push (lines_queries ls) (line_query l)

-- a predicate as it is typed
abbrev pub condition_of : Predicate → Condition
condition_of (Distance a b limit) = record { word = near; numbers = a ∷ b ∷ limit ∷ [] }
condition_of (Ordered a b) = record { word = before; numbers = a ∷ b ∷ [] }
condition_of (Samepara a b) = record { word = same; numbers = a ∷ b ∷ [] }
condition_of (Window limit) = record { word = span; numbers = limit ∷ [] }
condition_of (Proximity a b least most) = record { word = apart; numbers = a ∷ b ∷ least ∷ most ∷ [] }

-- a pattern as it is typed
abbrev pub figure_of : Pattern → Figure
figure_of f = record { lists = f.vars; conditions = map condition_of f.predicates }

-- a tree as a line, as a part and as an item: brackets only where it is not one already
pub record Typed : Type 0 where
  pub line : Line
  pub part : Part
  pub item : Item

-- a tree that is an item
abbrev pub typed_item : Item → Typed
typed_item i = record { line = one (alone i); part = alone i; item = i }

-- one that is a part
abbrev pub typed_part : Part → Typed
typed_part p = record { line = one p; part = p; item = round (one p) }

-- one that is a line
abbrev pub typed_line : Line → Typed
typed_line l = record { line = l; part = alone (round l); item = round l }

-- a tree, typed; the lines between `<` and `>` need no brackets
unfoldable mutual
  pub typed : Query → Typed
  typed (leaf f) = typed_item (figure (figure_of f))
  typed (node c.And a b) = typed_part (join both (typed a).part (typed b).item)
  typed (node c.Or a b) = typed_line (either (typed a).line (typed b).part)
  typed (node c.AndNot a b) = typed_part (join without (typed a).part (typed b).item)
  typed (threshold n qs) = typed_item (at_least n (typed_lines qs))

  pub typed_lines : Queries → Lines
  typed_lines empty = nil
  typed_lines (push qs q) = snoc (typed_lines qs) (typed q).line

-- the line of a plan
unfoldable pub plan_line : List ℕ → Line
unfolding query_of typed
plan_line p = (typed (query_of (rows_of p))).line

-- and its text
unfoldable pub plan_text : List ℕ → List ℕ
unfolding plan_line written
plan_text p = written (plan_line p)
