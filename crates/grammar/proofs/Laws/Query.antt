-- The laws of `specs/Query.antt` and of `specs/Meaning.antt`. No contract cites this file.
--     lines-count, typed-count          as many lines as trees
--     line-rows, line-holds             a line says what its tree says
--     listed, gathered-listed, listed-gathered     several trees as stacked ones, and back
--     length-listed, count-gathered     both are as many
--     stack-listed, stack-gathered      the rows of both
--     topped-two, topped-listed         what an operator takes, stacked for it
--     query-read, queries-read, query-alone, rows-tree     the rows of a tree stack it, so they determine it
--     meaning                           a document is true of a line's rows exactly if it is true of the line read on its own
--     typed-back, typed-rows            a tree that is typed is that tree
--     line-fewest, fewest               of all lines with a tree the typed one has the fewest round brackets
-- Assumes nothing.
use Prim.Native.Nat.{ℕ, zero, suc, ◌+◌, ◌≤◌}
use native.Mathlib.Omega.{arith}
use mathlib.Core.Path.{◌≡◌, refl, sym, ap, ap₂, ◌∙◌, subst}
use mathlib.Core.Bool.{Bool, false, ◌||◌}
use mathlib.Core.List.{List, [], ◌∷◌, ◌++◌, map, append_assoc, append-nil}
use lib.ListN.{length, get_or, take, drop, take-append-drop}
use lib.Seq.{take_at, drop_at}
use lib.Dec.{leb}
use Rattle.plan.specs.declared.row.Predicate.{Predicate}
use Rattle.plan.specs.declared.row.Predicate.TheVariants.{Distance, Ordered, Samepara, Window, Proximity}
use Rattle.plan.specs.declared.row.Operator.{Operator}
use Rattle.plan.specs.declared.row.Operator.TheVariants.{Both, Either, FirstNotSecond, AtLeast}
use Rattle.plan.specs.declared.row.Kind.{Kind}
use Rattle.plan.specs.declared.row.Kind.TheVariants as kind
use Rattle.plan.specs.declared.row.Row.{Row}
use Rattle.plan.specs.Patterns.{Pattern, no_row, open_after, answers_after, answers_from, answer, operate, yeses}
use Rattle.plan.specs.Parts.{pattern_rows}
use Rattle.fulltext.specs.Documents.{found, matching}
use Rattle.grammar.specs.Grammar as g
use Rattle.grammar.specs.Grammar.{Joint, Line, Part, Item, Lines, line_count}
use Rattle.grammar.specs.Meaning.{predicate_of, pattern_of, operator_of, operator_row, line_rows, part_rows, item_rows, lines_rows, joined_by}
use Rattle.grammar.specs.Meaning.{line_holds, part_holds, item_holds, lines_hold, line_true}
use Rattle.grammar.specs.declared.tokens.Connective.TheVariants as c
use Rattle.grammar.specs.Query.{Connective, Query, leaf, node, threshold, Queries, empty, push, query_count, operator_for, query_rows}
use Rattle.grammar.specs.Query.{queries_rows, stack_rows, query_holds, queries_hold, gathered, topped, queries_after, queries_from}
use Rattle.grammar.specs.Query.{connective_of, line_query, part_query, item_query, lines_queries, condition_of, figure_of, typed, typed_lines}
use Rattle.grammar.specs.Brackets.{rounds, part_rounds, item_rounds, lines_rounds}

-- the operator of `&` and of `!`
joint_operator : (j : Joint) → operator_of j ≡ operator_for (connective_of j)
joint_operator g.both = refl
joint_operator g.without = refl

-- as many lines as trees
pub lines-count : (ls : Lines) → line_count ls ≡ query_count (lines_queries ls)
unfolding line_count query_count line_query
lines-count g.nil = refl
lines-count (g.snoc ls l) = ap suc (lines-count ls)

-- typed ones too
pub typed-count : (qs : Queries) → line_count (typed_lines qs) ≡ query_count qs
unfolding line_count query_count typed
typed-count empty = refl
typed-count (push qs q) = ap suc (typed-count qs)

-- the rows of a line are those of its tree
mutual
  unfolding line_rows line_query query_rows

  pub line-rows : (l : Line) → line_rows l ≡ query_rows (line_query l)
  line-rows (g.one p) = part-rows p
  line-rows (g.either l p) = ap₂ (λ (x y : List Row). x ++ (y ++ operator_row Either)) (line-rows l) (part-rows p)

  pub part-rows : (p : Part) → part_rows p ≡ query_rows (part_query p)
  part-rows (g.alone i) = item-rows i
  part-rows (g.join j p i) =
      ap₂ (λ (x y : List Row). x ++ (y ++ operator_row (operator_of j))) (part-rows p) (item-rows i)
      ∙ ap (λ (o : Operator). query_rows (part_query p) ++ (query_rows (item_query i) ++ operator_row o)) (joint_operator j)

  pub item-rows : (i : Item) → item_rows i ≡ query_rows (item_query i)
  item-rows (g.figure f) = refl
  item-rows (g.round l) = line-rows l
  item-rows (g.at_least n ls) = ap₂ (λ (x : List Row) (k : ℕ). x ++ operator_row (AtLeast n k)) (lines_rows_lem ls) (lines-count ls)

  pub lines_rows_lem : (ls : Lines) → lines_rows ls ≡ queries_rows (lines_queries ls)
  lines_rows_lem g.nil = refl
  lines_rows_lem (g.snoc ls l) = ap₂ (λ (x y : List Row). x ++ y) (lines_rows_lem ls) (line-rows l)

-- the answer of `&` and of `!`
node-holds : (h : Pattern → Bool) (j : Joint) (a b : Query)
    → joined_by j (query_holds h a) (query_holds h b) ≡ query_holds h (node (connective_of j) a b)
unfolding query_holds
node-holds h g.both a b = refl
node-holds h g.without a b = refl

-- the first of several that a function makes, and those behind them
module _ {A B : Type 0} (f : A → B) where
  take-map : (n : ℕ) (xs : List A) → take n (map f xs) ≡ map f (take n xs)
  take-map zero xs = refl
  take-map (suc n) [] = refl
  take-map (suc n) (x ∷ xs) = ap (λ (l : List B). f x ∷ l) (take-map n xs)

  drop-map : (n : ℕ) (xs : List A) → drop n (map f xs) ≡ map f (drop n xs)
  drop-map zero xs = refl
  drop-map (suc n) [] = refl
  drop-map (suc n) (x ∷ xs) = drop-map n xs

module _ (h : Pattern → Bool) where
  -- the truth of a line is that of its tree
  mutual
    unfolding line_holds line_query query_holds

    pub line-holds : (l : Line) → line_holds (λ f. h (pattern_of f)) l ≡ query_holds h (line_query l)
    line-holds (g.one p) = part-holds p
    line-holds (g.either l p) = ap₂ (λ (x y : Bool). x || y) (line-holds l) (part-holds p)

    pub part-holds : (p : Part) → part_holds (λ f. h (pattern_of f)) p ≡ query_holds h (part_query p)
    part-holds (g.alone i) = item-holds i
    part-holds (g.join j p i) = ap₂ (joined_by j) (part-holds p) (item-holds i) ∙ node-holds h j (part_query p) (item_query i)

    pub item-holds : (i : Item) → item_holds (λ f. h (pattern_of f)) i ≡ query_holds h (item_query i)
    item-holds (g.figure f) = refl
    item-holds (g.round l) = line-holds l
    item-holds (g.at_least n ls) = ap (λ (bs : List Bool). leb n (yeses bs)) (lines_hold_lem ls)

    pub lines_hold_lem : (ls : Lines) → lines_hold (λ f. h (pattern_of f)) ls ≡ queries_hold h (lines_queries ls)
    lines_hold_lem g.nil = refl
    lines_hold_lem (g.snoc ls l) = ap₂ (λ (x : Bool) (y : List Bool). x ∷ y) (line-holds l) (lines_hold_lem ls)

  -- the answers of stacked trees
  gathered_hold : (qs : List Query) → map (query_holds h) qs ≡ queries_hold h (gathered qs)
  unfolding gathered query_holds
  gathered_hold [] = refl
  gathered_hold (q ∷ qs) = ap (λ (bs : List Bool). query_holds h q ∷ bs) (gathered_hold qs)

  -- the answers that rows stack are those of the trees that they stack
  topped-map : (o : Operator) (qs : List Query) → operate o (map (query_holds h) qs) ≡ map (query_holds h) (topped o qs)
  unfolding query_holds
  topped-map Both [] = refl
  topped-map Both (b ∷ []) = refl
  topped-map Both (b ∷ (a ∷ qs)) = refl
  topped-map Either [] = refl
  topped-map Either (b ∷ []) = refl
  topped-map Either (b ∷ (a ∷ qs)) = refl
  topped-map FirstNotSecond [] = refl
  topped-map FirstNotSecond (b ∷ []) = refl
  topped-map FirstNotSecond (b ∷ (a ∷ qs)) = refl
  topped-map (AtLeast least of) qs =
      ap₂ (λ (x y : List Bool). leb least (yeses x) ∷ y)
      (take-map (query_holds h) of qs ∙ gathered_hold (take of qs)) (drop-map (query_holds h) of qs)

  after_map : (f : Pattern) (qs : List Query) (k : Kind)
      → answers_after h f (map (query_holds h) qs) k ≡ map (query_holds h) (queries_after f qs k)
  unfolding query_holds
  after_map f qs (kind.Voice list) = refl
  after_map f qs (kind.Condition c) = refl
  after_map f qs kind.End = refl
  after_map f qs (kind.Operator o) = topped-map o qs

  pub answers-map : (rows : List Row) (f : Pattern) (qs : List Query)
      → answers_from h f (map (query_holds h) qs) rows ≡ map (query_holds h) (queries_from f qs rows)
  unfolding answers_from queries_from
  answers-map [] f qs = refl
  answers-map (r ∷ rows) f qs =
      ap (λ (l : List Bool). answers_from h (open_after f r.kind) l rows) (after_map f qs r.kind)
      ∙ answers-map rows (open_after f r.kind) (queries_after f qs r.kind)

-- the rows of a variable, of a predicate, and END
abbrev pub voice : ℕ → Row
voice list = record { kind = kind.Voice list }

abbrev pub condition : Predicate → Row
condition c = record { kind = kind.Condition c }

abbrev pub end : Row
end = record { kind = kind.End }

-- the rows of a pattern stack it
voices-read : (ls vs : List ℕ) (cs : List Predicate) (qs : List Query) (rest : List Row)
    → queries_from (record { vars = vs; predicates = cs }) qs (map voice ls ++ rest)
    ≡ queries_from (record { vars = vs ++ ls; predicates = cs }) qs rest
unfolding queries_from
voices-read [] vs cs qs rest = ap (λ (l : List ℕ). queries_from (record { vars = l; predicates = cs }) qs rest) (sym (append-nil vs))
voices-read (x ∷ ls) vs cs qs rest =
    voices-read ls (vs ++ (x ∷ [])) cs qs rest
    ∙ ap (λ (l : List ℕ). queries_from (record { vars = l; predicates = cs }) qs rest) (append_assoc vs (x ∷ []) ls)

conditions-read : (ds cs : List Predicate) (vs : List ℕ) (qs : List Query) (rest : List Row)
    → queries_from (record { vars = vs; predicates = cs }) qs (map condition ds ++ rest)
    ≡ queries_from (record { vars = vs; predicates = cs ++ ds }) qs rest
unfolding queries_from
conditions-read [] cs vs qs rest =
    ap (λ (l : List Predicate). queries_from (record { vars = vs; predicates = l }) qs rest) (sym (append-nil cs))
conditions-read (x ∷ ds) cs vs qs rest =
    conditions-read ds (cs ++ (x ∷ [])) vs qs rest
    ∙ ap (λ (l : List Predicate). queries_from (record { vars = vs; predicates = l }) qs rest) (append_assoc cs (x ∷ []) ds)

pattern-read : (f : Pattern) (qs : List Query) (rest : List Row)
    → queries_from no_row qs (pattern_rows f ++ rest) ≡ queries_from no_row (leaf f ∷ qs) rest
unfolding queries_from
pattern-read f qs rest =
    ap (queries_from no_row qs)
    (append_assoc (map voice f.vars ++ map condition f.predicates) (end ∷ []) rest
    ∙ append_assoc (map voice f.vars) (map condition f.predicates) (end ∷ rest))
    ∙ voices-read f.vars [] [] qs (map condition f.predicates ++ (end ∷ rest))
    ∙ conditions-read f.predicates [] f.vars qs (end ∷ rest)

-- several trees as stacked ones, the last one on top
unfoldable pub listed : Queries → List Query
listed empty = []
listed (push qs q) = q ∷ listed qs

-- and back
pub gathered-listed : (qs : Queries) → gathered (listed qs) ≡ qs
unfolding gathered listed
gathered-listed empty = refl
gathered-listed (push qs q) = ap (λ (x : Queries). push x q) (gathered-listed qs)

pub listed-gathered : (qs : List Query) → listed (gathered qs) ≡ qs
unfolding gathered listed
listed-gathered [] = refl
listed-gathered (q ∷ qs) = ap (λ (x : List Query). q ∷ x) (listed-gathered qs)

-- as many as there are
pub length-listed : (qs : Queries) → length (listed qs) ≡ query_count qs
unfolding listed query_count
length-listed empty = refl
length-listed (push qs q) = ap suc (length-listed qs)

pub count-gathered : (qs : List Query) → query_count (gathered qs) ≡ length qs
unfolding gathered query_count
count-gathered [] = refl
count-gathered (q ∷ qs) = ap suc (count-gathered qs)

-- their rows, behind those of other stacked trees
pub stack-listed : (qs : Queries) (st : List Query) → stack_rows (listed qs ++ st) ≡ stack_rows st ++ queries_rows qs
unfolding listed stack_rows query_rows
stack-listed empty st = sym (append-nil (stack_rows st))
stack-listed (push qs q) st =
    ap (λ (l : List Row). l ++ query_rows q) (stack-listed qs st) ∙ append_assoc (stack_rows st) (queries_rows qs) (query_rows q)

-- the rows of stacked trees, of which the top ones are taken
pub stack-gathered : (n : ℕ) (qs : List Query) → stack_rows (drop n qs) ++ queries_rows (gathered (take n qs)) ≡ stack_rows qs
stack-gathered n qs =
    sym (stack-listed (gathered (take n qs)) (drop n qs))
    ∙ ap (λ (l : List Query). stack_rows (l ++ drop n qs)) (listed-gathered (take n qs))
    ∙ ap stack_rows (take-append-drop n qs)

-- a connective takes the two that are stacked for it
pub topped-two : (k : Connective) (a b : Query) (qs : List Query) → topped (operator_for k) (b ∷ (a ∷ qs)) ≡ node k a b ∷ qs
topped-two c.And a b qs = refl
topped-two c.Or a b qs = refl
topped-two c.AndNot a b qs = refl

-- AT LEAST takes those that are stacked for it
pub topped-listed : (n : ℕ) (qs : Queries) (st : List Query) → topped (AtLeast n (query_count qs)) (listed qs ++ st) ≡ threshold n qs ∷ st
topped-listed n qs st =
    ap₂ (λ (x y : List Query). threshold n (gathered x) ∷ y)
    (take_at (listed qs) st (query_count qs) (length-listed qs)) (drop_at (listed qs) st (query_count qs) (length-listed qs))
    ∙ ap (λ (x : Queries). threshold n x ∷ st) (gathered-listed qs)

mutual
  unfolding query_rows queries_from listed

  -- the rows of a tree stack it
  pub query-read : (q : Query) (qs : List Query) (rest : List Row)
      → queries_from no_row qs (query_rows q ++ rest) ≡ queries_from no_row (q ∷ qs) rest
  query-read (leaf f) qs rest = pattern-read f qs rest
  query-read (node k a b) qs rest =
      let row = operator_row (operator_for k) in
      ap (queries_from no_row qs)
      (append_assoc (query_rows a) (query_rows b ++ row) rest
      ∙ ap (λ (l : List Row). query_rows a ++ l) (append_assoc (query_rows b) row rest))
      ∙ query-read a qs (query_rows b ++ (row ++ rest))
      ∙ query-read b (a ∷ qs) (row ++ rest)
      ∙ ap (λ (l : List Query). queries_from no_row l rest) (topped-two k a b qs)
  query-read (threshold n xs) qs rest =
      ap (queries_from no_row qs) (append_assoc (queries_rows xs) (operator_row (AtLeast n (query_count xs))) rest)
      ∙ queries-read xs qs (operator_row (AtLeast n (query_count xs)) ++ rest)
      ∙ ap (λ (l : List Query). queries_from no_row l rest) (topped-listed n xs qs)

  -- those of several stack them all
  pub queries-read : (xs : Queries) (qs : List Query) (rest : List Row)
      → queries_from no_row qs (queries_rows xs ++ rest) ≡ queries_from no_row (listed xs ++ qs) rest
  queries-read empty qs rest = refl
  queries-read (push xs q) qs rest =
      ap (queries_from no_row qs) (append_assoc (queries_rows xs) (query_rows q) rest)
      ∙ queries-read xs qs (query_rows q ++ rest)
      ∙ query-read q (listed xs ++ qs) rest

-- the rows of a tree alone
pub query-alone : (q : Query) → queries_from no_row [] (query_rows q) ≡ q ∷ []
unfolding queries_from
query-alone q = ap (queries_from no_row []) (sym (append-nil (query_rows q))) ∙ query-read q [] []

-- rows determine the tree
pub rows-tree : (a b : Query) → query_rows a ≡ query_rows b → a ≡ b
rows-tree a b e = let z : a ∷ [] ≡ b ∷ [] = sym (query-alone a) ∙ ap (queries_from no_row []) e ∙ query-alone b in cc

-- a document is true of a line's rows exactly if it is true of the line read on its own
pub meaning : (lists : List (List ℕ)) (l : Line) (d : ℕ) → matching lists (line_rows l) d ≡ line_true lists l d
unfolding matching answer line_true
meaning lists l d =
    let h = found lists d in
    ap (λ (rows : List Row). get_or (answers_from h no_row [] rows) 0 false) (line-rows l)
    ∙ ap (λ (bs : List Bool). get_or bs 0 false)
    (answers-map h (query_rows (line_query l)) no_row [] ∙ ap (map (query_holds h)) (query-alone (line_query l)))
    ∙ sym (line-holds h l)

-- a predicate that is typed is that predicate
condition-back : (c : Predicate) → predicate_of (condition_of c) ≡ c
condition-back (Distance a b limit) = refl
condition-back (Ordered a b) = refl
condition-back (Samepara a b) = refl
condition-back (Window limit) = refl
condition-back (Proximity a b least most) = refl

conditions-back : (cs : List Predicate) → map predicate_of (map condition_of cs) ≡ cs
conditions-back [] = refl
conditions-back (c ∷ cs) = ap₂ (λ (x : Predicate) (y : List Predicate). x ∷ y) (condition-back c) (conditions-back cs)

figure-back : (f : Pattern) → pattern_of (figure_of f) ≡ f
figure-back f = ap (λ (cs : List Predicate). record { vars = f.vars; predicates = cs }) (conditions-back f.predicates)

-- a typed tree is that tree, as a line, as a part and as an item
pub record TypedBack (q : Query) : Type 0 where
  pub line : line_query (typed q).line ≡ q
  pub part : part_query (typed q).part ≡ q
  pub item : item_query (typed q).item ≡ q

-- so it is for each tree
mutual
  unfolding typed line_query

  pub typed-back : (q : Query) → TypedBack q
  typed-back (leaf f) = let e = ap leaf (figure-back f) in record { line = e; part = e; item = e }
  typed-back (node c.And a b) =
      let e = ap₂ (node c.And) (typed-back a).part (typed-back b).item in
      record { line = e; part = e; item = e }
  typed-back (node c.Or a b) =
      let e = ap₂ (node c.Or) (typed-back a).line (typed-back b).part in
      record { line = e; part = e; item = e }
  typed-back (node c.AndNot a b) =
      let e = ap₂ (node c.AndNot) (typed-back a).part (typed-back b).item in
      record { line = e; part = e; item = e }
  typed-back (threshold n qs) = let e = ap (threshold n) (lines-back qs) in record { line = e; part = e; item = e }

  pub lines-back : (qs : Queries) → lines_queries (typed_lines qs) ≡ qs
  lines-back empty = refl
  lines-back (push qs q) = ap₂ push (lines-back qs) (typed-back q).line

-- the rows of a typed tree are its rows
pub typed-rows : (q : Query) → line_rows (typed q).line ≡ query_rows q
typed-rows q = line-rows (typed q).line ∙ ap query_rows (typed-back q).line

-- a tree as a part has no fewer brackets than as a line, as an item one more than as a line at most
record Ranked (q : Query) : Type 0 where
  line-part : rounds (typed q).line ≤ part_rounds (typed q).part
  part-item : part_rounds (typed q).part ≤ item_rounds (typed q).item
  item-line : item_rounds (typed q).item ≤ suc (rounds (typed q).line)

ranked : (q : Query) → Ranked q
unfolding typed rounds
ranked (leaf f) = record { line-part = omega arith; part-item = omega arith; item-line = omega arith }
ranked (node c.And a b) = record { line-part = omega arith; part-item = omega arith; item-line = omega arith }
ranked (node c.Or a b) = record { line-part = omega arith; part-item = omega arith; item-line = omega arith }
ranked (node c.AndNot a b) = record { line-part = omega arith; part-item = omega arith; item-line = omega arith }
ranked (threshold n qs) = record { line-part = omega arith; part-item = omega arith; item-line = omega arith }

join-fewest : (j : Joint) (a b : Query)
    → part_rounds (typed (node (connective_of j) a b)).part ≡ part_rounds (typed a).part + item_rounds (typed b).item
unfolding typed rounds
join-fewest g.both a b = refl
join-fewest g.without a b = refl

-- of all lines with a tree the typed one has the fewest round brackets
mutual
  unfolding rounds line_query typed

  pub line-fewest : (l : Line) → rounds (typed (line_query l)).line ≤ rounds l
  line-fewest (g.one p) = let r = ranked (part_query p) in let h = part-fewest p in omega (arith, r.line-part)
  line-fewest (g.either l p) = let h = line-fewest l in let k = part-fewest p in omega arith

  pub part-fewest : (p : Part) → part_rounds (typed (part_query p)).part ≤ part_rounds p
  part-fewest (g.alone i) = let r = ranked (item_query i) in let h = item-fewest i in omega (arith, r.part-item)
  part-fewest (g.join j p i) =
      let e = join-fewest j (part_query p) (item_query i) in
      let h = part-fewest p in
      let k = item-fewest i in
      omega arith

  pub item-fewest : (i : Item) → item_rounds (typed (item_query i)).item ≤ item_rounds i
  item-fewest (g.figure f) = omega arith
  item-fewest (g.round l) = let r = ranked (line_query l) in let h = line-fewest l in omega (arith, r.item-line)
  item-fewest (g.at_least n ls) = lines-fewest ls

  pub lines-fewest : (ls : Lines) → lines_rounds (typed_lines (lines_queries ls)) ≤ lines_rounds ls
  lines-fewest g.nil = omega arith
  lines-fewest (g.snoc ls l) = let h = lines-fewest ls in let k = line-fewest l in omega arith

-- of all lines with the rows of a tree the typed one has the fewest
pub fewest : (q : Query) (l : Line) → line_rows l ≡ query_rows q → rounds (typed q).line ≤ rounds l
fewest q l e =
    let t : line_query l ≡ q = rows-tree (line_query l) q (sym (line-rows l) ∙ e) in
    subst (λ (x : Query). rounds (typed x).line ≤ rounds l) t (line-fewest l)
