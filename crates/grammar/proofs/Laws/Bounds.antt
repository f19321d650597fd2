-- The line of an accepted plan keeps to every limit, so that it is read as the plan. No contract cites this file.
--     made              its patterns are well made, and AT LEAST asks for as many as it may
--     typed-fits        its numbers are as small as the grammar asks
--     shallow           its brackets lie less deep than it has patterns
--     typed-length      it has at most 26 bytes a row
--     line_read         the text of a line that is not too deep is read as that line
--     plan-line, accepted-line     all that `PlanLine` says
-- Assumes nothing.
use Prim.Native.Nat.{ℕ, zero, suc, ◌+◌, ◌*◌, ◌<◌, ◌≤◌}
use native.Mathlib.Omega.{arith}
use mathlib.Core.Path.{◌≡◌, refl, sym, ap, ap₂, ◌∙◌, subst}
use mathlib.Core.Bool.{Bool, true, cond}
use mathlib.Core.List.{List, [], ◌∷◌, ◌++◌, map, append_assoc, append-nil}
use mathlib.Core.Option.{Option}
use lib.Dec.{ltb}
use lib.ListN.{length, get_or, length-append, length-map, get_or-map, get_or-append}
use lib.Seq.{get_or-append-add}
use borrow.Author.Tests.{le-ltb, ltb-true}
use Rattle.seq.specs.Lists.{joined}
use Rattle.seq.proofs.Laws.Tests.{both}
use Rattle.seq.proofs.Laws.Lists.{Each}
use Rattle.plan.specs.declared.row.Predicate.{Predicate}
use Rattle.plan.specs.declared.row.Predicate.TheVariants.{Distance, Ordered, Samepara, Window, Proximity}
use Rattle.plan.specs.declared.row.Operator.TheVariants.{AtLeast}
use Rattle.plan.specs.declared.row.Kind.TheVariants as kind
use Rattle.plan.specs.declared.row.Row.{Row}
use Rattle.seq.proofs.Laws.Numbers.{length_run, get_or-run}
use Rattle.plan.specs.Rows.{row_count, row_at, rows_of, plan_of, InRange}
use Rattle.plan.specs.State.{names_below}
use Rattle.plan.specs.Patterns.{Pattern, no_row, patterns_from, patterns_of}
use Rattle.plan.specs.Parts.{pattern_rows}
use Rattle.plan.specs.Check.{sizes, Accepted}
use Rattle.plan.specs.Accepted.{WellMade, Given}
use Rattle.plan.proofs.Laws.Check.{verdict-passed}
use Rattle.plan.proofs.Laws.Given.{row-range}
use Rattle.plan.proofs.Laws.Accepted.{given}
use Rattle.volume.specs.Layout.{list_count}
use Rattle.volume.proofs.Laws.Check.{good}
use Rattle.seq.specs.Decimal.{decimal}
use Rattle.grammar.specs.Text.{lead}
use Rattle.grammar.specs.Grammar as g
use Rattle.grammar.specs.Grammar.{Condition, Line, condition_text, open_text, figure_text, separator, written, part_text, item_text}
use Rattle.grammar.specs.Grammar.{lines_text, ConditionFits, FigureFits, Several, Fits, PartFits, ItemFits, LinesFit, no_condition}
use Rattle.grammar.specs.Grammar.{most_of, Within}
use Rattle.grammar.specs.Brackets.{depth, part_depth, item_depth, lines_depth}
use Rattle.grammar.specs.Meaning.{operator_row}
use Rattle.grammar.specs.declared.tokens.Connective.TheVariants as c
use Rattle.grammar.specs.Query.{Connective, Query, leaf, node, threshold, Queries, empty, push, query_count, operator_for, query_rows}
use Rattle.grammar.specs.Query.{queries_rows, query_of, condition_of, figure_of, typed, typed_lines, plan_line, plan_text}
use Rattle.grammar.specs.Reading.{Config, after, start, open_in, whole, deep, outcome, reading, continued}
use Rattle.grammar.specs.Words.{words_by, words_of_line}
use Rattle.grammar.specs.Demands.{PlanLine}
use Rattle.grammar.proofs.Laws.Limits.{few, most-small}
use Rattle.grammar.proofs.Laws.Query.{voice, condition, end, typed-count, typed-back, typed-rows, fewest as fewest-rounds}
use Rattle.grammar.proofs.Laws.Brackets.{line-parens}
use Rattle.grammar.proofs.Laws.Spare.{tight, none_spare, line-tree}
use Rattle.seq.proofs.Laws.Decimal.{length-decimal}
use Rattle.grammar.proofs.Laws.Steps.{Steps, line-steps, front_of, last_of, line_again}
use Rattle.grammar.proofs.Laws.Written.{plan-tree}

-- the patterns of a tree
unfoldable mutual
  leaves : Query → List Pattern
  leaves (leaf f) = f ∷ []
  leaves (node k a b) = leaves a ++ leaves b
  leaves (threshold n qs) = all_leaves qs

  all_leaves : Queries → List Pattern
  all_leaves empty = []
  all_leaves (push qs q) = all_leaves qs ++ leaves q

voices_leave : (ls vs : List ℕ) (cs : List Predicate) (rest : List Row)
    → patterns_from (record { vars = vs; predicates = cs }) (map voice ls ++ rest)
    ≡ patterns_from (record { vars = vs ++ ls; predicates = cs }) rest
unfolding patterns_from
voices_leave [] vs cs rest = ap (λ (l : List ℕ). patterns_from (record { vars = l; predicates = cs }) rest) (sym (append-nil vs))
voices_leave (x ∷ ls) vs cs rest =
    voices_leave ls (vs ++ (x ∷ [])) cs rest
    ∙ ap (λ (l : List ℕ). patterns_from (record { vars = l; predicates = cs }) rest) (append_assoc vs (x ∷ []) ls)

conditions_leave : (ds cs : List Predicate) (vs : List ℕ) (rest : List Row)
    → patterns_from (record { vars = vs; predicates = cs }) (map condition ds ++ rest)
    ≡ patterns_from (record { vars = vs; predicates = cs ++ ds }) rest
unfolding patterns_from
conditions_leave [] cs vs rest = ap (λ (l : List Predicate). patterns_from (record { vars = vs; predicates = l }) rest) (sym (append-nil cs))
conditions_leave (x ∷ ds) cs vs rest =
    conditions_leave ds (cs ++ (x ∷ [])) vs rest
    ∙ ap (λ (l : List Predicate). patterns_from (record { vars = vs; predicates = l }) rest) (append_assoc cs (x ∷ []) ds)

mutual
  unfolding query_rows patterns_from leaves

  patterns_leave : (q : Query) (rest : List Row) → patterns_from no_row (query_rows q ++ rest) ≡ leaves q ++ patterns_from no_row rest
  patterns_leave (leaf f) rest =
      ap (patterns_from no_row)
      (append_assoc (map voice f.vars ++ map condition f.predicates) (end ∷ []) rest
      ∙ append_assoc (map voice f.vars) (map condition f.predicates) (end ∷ rest))
      ∙ voices_leave f.vars [] [] (map condition f.predicates ++ (end ∷ rest))
      ∙ conditions_leave f.predicates [] f.vars (end ∷ rest)
  patterns_leave (node k a b) rest =
      let row = operator_row (operator_for k) in
      ap (patterns_from no_row)
      (append_assoc (query_rows a) (query_rows b ++ row) rest
      ∙ ap (λ (l : List Row). query_rows a ++ l) (append_assoc (query_rows b) row rest))
      ∙ patterns_leave a (query_rows b ++ (row ++ rest))
      ∙ ap (λ (l : List Pattern). leaves a ++ l) (patterns_leave b (row ++ rest))
      ∙ sym (append_assoc (leaves a) (leaves b) (patterns_from no_row rest))
  patterns_leave (threshold n qs) rest =
      ap (patterns_from no_row) (append_assoc (queries_rows qs) (operator_row (AtLeast n (query_count qs))) rest)
      ∙ all_leave qs (operator_row (AtLeast n (query_count qs)) ++ rest)

  all_leave : (qs : Queries) (rest : List Row) → patterns_from no_row (queries_rows qs ++ rest) ≡ all_leaves qs ++ patterns_from no_row rest
  all_leave empty rest = refl
  all_leave (push qs q) rest =
      ap (patterns_from no_row) (append_assoc (queries_rows qs) (query_rows q) rest)
      ∙ all_leave qs (query_rows q ++ rest)
      ∙ ap (λ (l : List Pattern). all_leaves qs ++ l) (patterns_leave q rest)
      ∙ sym (append_assoc (all_leaves qs) (leaves q) (patterns_from no_row rest))

-- the patterns of rows are those of their tree
patterns_are : (q : Query) → patterns_of (query_rows q) ≡ leaves q
unfolding patterns_from
patterns_are q = ap (patterns_from no_row) (sym (append-nil (query_rows q))) ∙ patterns_leave q [] ∙ append-nil (leaves q)

-- each pattern of a tree is well made, and AT LEAST asks for 1 to as many as it takes, which are two to eight
unfoldable mutual
  unfolding query_count

  Made : ℕ → Query → Type 0
  Made t (leaf f) = WellMade t f
  Made t (node k a b) = Made t a × Made t b
  Made t (threshold n qs) = Several n (query_count qs) × AllMade t qs

  AllMade : ℕ → Queries → Type 0
  AllMade t empty = Unit
  AllMade t (push qs q) = AllMade t qs × Made t q

-- a fact of every element of two lists, one behind the other
module _ {A : Type 0} (P : A → Type 0) (d : A) (xs ys : List A) (h : Each P d (xs ++ ys)) where
  each_first : Each P d xs
  each_first i l = subst P (get_or-append xs ys d i l) (h i (let e = length-append xs ys in omega arith))

  each-second : Each P d ys
  each-second i l = subst P (get_or-append-add xs ys i d) (h (length xs + i) (let e = length-append xs ys in omega arith))

-- the numbers of rows are in their range
abbrev Ranged : List Row → Type 0
Ranged rows = Each (λ (r : Row). InRange r.kind) end rows

ranged-first : (xs ys : List Row) → Ranged (xs ++ ys) → Ranged xs
ranged-first xs ys h = each_first (λ (r : Row). InRange r.kind) end xs ys h

ranged-second : (xs ys : List Row) → Ranged (xs ++ ys) → Ranged ys
ranged-second xs ys h = each-second (λ (r : Row). InRange r.kind) end xs ys h

-- those of AT LEAST
several : (n m : ℕ) → Ranged (operator_row (AtLeast n m)) → Several n m
several n m h = let r = h 0 (omega arith) in record { some = r.0.0; enough = r.0.1; fewest = r.1.0; most = r.1.1 }

mutual
  unfolding Made leaves query_rows

  made : (t : ℕ) (q : Query) → Each (WellMade t) no_row (leaves q) → Ranged (query_rows q) → Made t q
  made t (leaf f) h r = h 0 (omega arith)
  made t (node k a b) h r =
      let row = operator_row (operator_for k) in
      let s = ranged-second (query_rows a) (query_rows b ++ row) r in (
        made t a (each_first (WellMade t) no_row (leaves a) (leaves b) h) (ranged-first (query_rows a) (query_rows b ++ row) r),
        made t b (each-second (WellMade t) no_row (leaves a) (leaves b) h) (ranged-first (query_rows b) row s),
      )
  made t (threshold n qs) h r =
      let row = operator_row (AtLeast n (query_count qs)) in (
        several n (query_count qs) (ranged-second (queries_rows qs) row r),
        all_made t qs h (ranged-first (queries_rows qs) row r),
      )

  all_made : (t : ℕ) (qs : Queries) → Each (WellMade t) no_row (all_leaves qs) → Ranged (queries_rows qs) → AllMade t qs
  all_made t empty h r = tt
  all_made t (push qs q) h r = (
    all_made t qs (each_first (WellMade t) no_row (all_leaves qs) (leaves q) h) (ranged-first (queries_rows qs) (query_rows q) r),
    made t q (each-second (WellMade t) no_row (all_leaves qs) (leaves q) h) (ranged-second (queries_rows qs) (query_rows q) r),
  )

-- a predicate of a well made pattern keeps to its word's limits
condition-fits : (n : ℕ) (c : Predicate) → names_below n c ≡ true → n ≤ 8 → InRange (kind.Condition c) → ConditionFits (condition_of c)
condition-fits n (Distance a b limit) e l r = record { count = refl; within = three }
  where
    x : a < n
    x = ltb-true a n (both (ltb a n) (ltb b n) e).0

    y : b < n
    y = ltb-true b n (both (ltb a n) (ltb b n) e).1

    three : Within (most_of g.near) (a ∷ b ∷ limit ∷ [])
    three zero h = omega (arith, x)
    three (suc zero) h = omega (arith, y)
    three (suc (suc zero)) h = omega arith
    three (suc (suc (suc i))) h = absurd (let z : ⊥ = omega arith in z)
condition-fits n (Ordered a b) e l r = record { count = refl; within = pair }
  where
    pair : Within (most_of g.before) (a ∷ b ∷ [])
    pair zero h = omega (arith, ltb-true a n (both (ltb a n) (ltb b n) e).0)
    pair (suc zero) h = omega (arith, ltb-true b n (both (ltb a n) (ltb b n) e).1)
    pair (suc (suc i)) h = absurd (let z : ⊥ = omega arith in z)
condition-fits n (Samepara a b) e l r = record { count = refl; within = pair }
  where
    pair : Within (most_of g.same) (a ∷ b ∷ [])
    pair zero h = omega (arith, ltb-true a n (both (ltb a n) (ltb b n) e).0)
    pair (suc zero) h = omega (arith, ltb-true b n (both (ltb a n) (ltb b n) e).1)
    pair (suc (suc i)) h = absurd (let z : ⊥ = omega arith in z)
condition-fits n (Window limit) e l r = record { count = refl; within = single }
  where
    single : Within (most_of g.span) (limit ∷ [])
    single zero h = r.1
    single (suc i) h = absurd (let z : ⊥ = omega arith in z)
condition-fits n (Proximity a b least most) e l r = record { count = refl; within = four }
  where
    four : Within (most_of g.apart) (a ∷ b ∷ least ∷ most ∷ [])
    four zero h = omega (arith, ltb-true a n (both (ltb a n) (ltb b n) e).0)
    four (suc zero) h = omega (arith, ltb-true b n (both (ltb a n) (ltb b n) e).1)
    four (suc (suc zero)) h = omega (arith, r.0, r.1)
    four (suc (suc (suc zero))) h = r.1
    four (suc (suc (suc (suc i)))) h = absurd (let z : ⊥ = omega arith in z)

-- and so does the pattern
figure-fits : (t : ℕ) (f : Pattern) → t ≤ 65536 → WellMade t f → FigureFits (figure_of f)
figure-fits t f l h = record {
  some-list = h.some-vars;
  within = λ i k. let w : get_or f.vars i 0 < t = (h.lists i k).1 in omega arith;
  conditions = λ i k.
      let n : i < length f.predicates = subst (λ (m : ℕ). i < m) (length-map f.predicates condition_of) k in
      subst ConditionFits (sym (get_or-map condition_of f.predicates i (Window 1)))
      (condition-fits (length f.vars) (get_or f.predicates i (Window 1)) (h.names i n) h.most-vars (h.ranges i n));
}

record TypedFits (q : Query) : Type 0 where
  line : Fits (typed q).line
  part : PartFits (typed q).part
  item : ItemFits (typed q).item

mutual
  unfolding typed Fits Made

  typed-fits : (t : ℕ) (q : Query) → t ≤ 65536 → Made t q → TypedFits q
  typed-fits t (leaf f) l h = let w = figure-fits t f l h in record { line = w; part = w; item = w }
  typed-fits t (node c.And a b) l h =
      let x = (typed-fits t a l h.0).part in
      let y = (typed-fits t b l h.1).item in
      record { line = (x, y); part = (x, y); item = (x, y) }
  typed-fits t (node c.Or a b) l h =
      let x = (typed-fits t a l h.0).line in
      let y = (typed-fits t b l h.1).part in
      record { line = (x, y); part = (x, y); item = (x, y) }
  typed-fits t (node c.AndNot a b) l h =
      let x = (typed-fits t a l h.0).part in
      let y = (typed-fits t b l h.1).item in
      record { line = (x, y); part = (x, y); item = (x, y) }
  typed-fits t (threshold n qs) l h =
      let x = subst (Several n) (sym (typed-count qs)) h.0 in
      let y = lines_fit t qs l h.1 in
      record { line = (x, y); part = (x, y); item = (x, y) }

  lines_fit : (t : ℕ) (qs : Queries) → t ≤ 65536 → AllMade t qs → LinesFit (typed_lines qs)
  lines_fit t empty l h = tt
  lines_fit t (push qs q) l h = (lines_fit t qs l h.0, (typed-fits t q l h.1).line)

-- brackets lie in one another less deep than there are patterns
record Shallow (q : Query) : Type 0 where
  some : 1 ≤ length (leaves q)
  line : depth (typed q).line < length (leaves q)
  part : part_depth (typed q).part < length (leaves q)
  item : item_depth (typed q).item < length (leaves q)

-- those of several lines by as many less as there are lines; `<` adds one, and stands in front of two lines at least
mutual
  unfolding typed depth leaves Made query_count

  shallow : (t : ℕ) (q : Query) → Made t q → Shallow q
  shallow t (leaf f) h = record { some = omega arith; line = omega arith; part = omega arith; item = omega arith }
  shallow t (node c.And a b) h =
      let x = shallow t a h.0 in
      let y = shallow t b h.1 in
      let e = length-append (leaves a) (leaves b) in
      record {
        some = omega (arith, x.some);
        line = omega (arith, x.part, y.item, x.some, y.some);
        part = omega (arith, x.part, y.item, x.some, y.some);
        item = omega (arith, x.part, y.item, x.some, y.some);
      }
  shallow t (node c.Or a b) h =
      let x = shallow t a h.0 in
      let y = shallow t b h.1 in
      let e = length-append (leaves a) (leaves b) in
      record {
        some = omega (arith, x.some);
        line = omega (arith, x.line, y.part, x.some, y.some);
        part = omega (arith, x.line, y.part, x.some, y.some);
        item = omega (arith, x.line, y.part, x.some, y.some);
      }
  shallow t (node c.AndNot a b) h =
      let x = shallow t a h.0 in
      let y = shallow t b h.1 in
      let e = length-append (leaves a) (leaves b) in
      record {
        some = omega (arith, x.some);
        line = omega (arith, x.part, y.item, x.some, y.some);
        part = omega (arith, x.part, y.item, x.some, y.some);
        item = omega (arith, x.part, y.item, x.some, y.some);
      }
  shallow t (threshold n qs) h =
      let x = lines-shallow t qs h.1 in
      let k = h.0.fewest in
      record { some = omega arith; line = omega arith; part = omega arith; item = omega arith }

  lines-shallow : (t : ℕ) (qs : Queries) → AllMade t qs → lines_depth (typed_lines qs) + query_count qs ≤ length (all_leaves qs)
  lines-shallow t empty h = omega arith
  lines-shallow t (push qs q) h =
      let x = lines-shallow t qs h.0 in
      let y = (shallow t q h.1).line in
      let e = length-append (all_leaves qs) (leaves q) in
      omega arith

-- a number of the grammar has at most five digits
five : (n : ℕ) → n ≤ 65536 → length (decimal n) ≤ 5
five n h = length-decimal 4 n (omega arith)

lead-length : (b : ℕ) (ns : List ℕ) → Within (λ i. 65536) ns → length (lead b ns) ≤ 6 * length ns
unfolding lead
lead-length b [] h = omega arith
lead-length b (n ∷ ns) h =
    let d = five n (h 0 (omega arith)) in
    let r = lead-length 32 ns (λ i l. h (suc i) (omega arith)) in
    let e = length-append (b ∷ decimal n) (lead 32 ns) in
    omega arith

condition-length : (c : Condition) → ConditionFits c → length (condition_text c) ≤ 26
condition-length c h =
    let n = h.count in
    let a = few (c).word in
    let l = lead-length 32 (c).numbers (λ i k. let m = h.within i k in let s = most-small (c).word i in omega arith) in
    omega arith

conditions-length : (cs : List Condition) → ((i : ℕ) → i < length cs → ConditionFits (get_or cs i no_condition))
    → length (joined (map condition_text cs)) ≤ 26 * length cs
unfolding joined
conditions-length [] h = omega arith
conditions-length (c ∷ cs) h =
    let a = condition-length c (h 0 (omega arith)) in
    let b = conditions-length cs (λ i l. h (suc i) (omega arith)) in
    let e = length-append (condition_text c) (joined (map condition_text cs)) in
    omega arith

figure-length : (f : Pattern) → FigureFits (figure_of f) → length (figure_text (figure_of f)) ≤ 26 * length (pattern_rows f)
unfolding figure_text open_text
figure-length f h =
    let a = lead-length 91 f.vars h.within in
    let b = conditions-length (map condition_of f.predicates) h.conditions in
    let m : length (map condition_of f.predicates) ≡ length f.predicates = length-map f.predicates condition_of in
    let x = length-append (lead 91 f.vars) (joined (map condition_text (map condition_of f.predicates))) in
    let y = length-append (lead 91 f.vars ++ joined (map condition_text (map condition_of f.predicates))) (93 ∷ []) in
    let u = length-append (map voice f.vars) (map condition f.predicates) in
    let v = length-append (map voice f.vars ++ map condition f.predicates) (end ∷ []) in
    let p : length (map voice f.vars) ≡ length f.vars = length-map f.vars voice in
    let q : length (map condition f.predicates) ≡ length f.predicates = length-map f.predicates condition in
    omega arith

record Short (q : Query) : Type 0 where
  line : length (written (typed q).line) ≤ 26 * length (query_rows q)
  part : length (part_text (typed q).part) ≤ 26 * length (query_rows q)
  item : length (item_text (typed q).item) ≤ 26 * length (query_rows q)

-- the rows of two trees and their operator
node-rows : (k : Connective) (a b : Query) → length (query_rows (node k a b)) ≡ length (query_rows a) + length (query_rows b) + 1
unfolding query_rows
node-rows k a b =
    let e = length-append (query_rows a) (query_rows b ++ operator_row (operator_for k)) in
    let f = length-append (query_rows b) (operator_row (operator_for k)) in
    omega arith

-- two texts with a byte between them, in brackets and without
bracketed : (x y : List ℕ) (j n : ℕ) → length x + length y + 3 ≤ n
    → (length (x ++ (j ∷ y)) ≤ n) × (length (40 ∷ ((x ++ (j ∷ y)) ++ (41 ∷ []))) ≤ n)
bracketed x y j n h =
    let e = length-append x (j ∷ y) in
    let f = length-append (x ++ (j ∷ y)) (41 ∷ []) in
    (omega arith, omega arith)

mutual
  unfolding typed written Made query_rows Fits query_count

  typed-length : (q : Query) → TypedFits q → (t : ℕ) → t ≤ 65536 → Made t q → Short q
  typed-length (leaf f) w t l h = let e = figure-length f w.item in record { line = e; part = e; item = e }
  typed-length (node c.And a b) w t l h =
      let x = (typed-length a (typed-fits t a l h.0) t l h.0).part in
      let y = (typed-length b (typed-fits t b l h.1) t l h.1).item in
      let r = node-rows c.And a b in
      let most = 26 * length (query_rows (node c.And a b)) in
      let z = bracketed (part_text (typed a).part) (item_text (typed b).item) 38 most (omega arith) in
      record { line = z.0; part = z.0; item = z.1 }
  typed-length (node c.Or a b) w t l h =
      let x = (typed-length a (typed-fits t a l h.0) t l h.0).line in
      let y = (typed-length b (typed-fits t b l h.1) t l h.1).part in
      let r = node-rows c.Or a b in
      let most = 26 * length (query_rows (node c.Or a b)) in
      let z = bracketed (written (typed a).line) (part_text (typed b).part) 124 most (omega arith) in
      record { line = z.0; part = z.1; item = z.1 }
  typed-length (node c.AndNot a b) w t l h =
      let x = (typed-length a (typed-fits t a l h.0) t l h.0).part in
      let y = (typed-length b (typed-fits t b l h.1) t l h.1).item in
      let r = node-rows c.AndNot a b in
      let most = 26 * length (query_rows (node c.AndNot a b)) in
      let z = bracketed (part_text (typed a).part) (item_text (typed b).item) 33 most (omega arith) in
      record { line = z.0; part = z.0; item = z.1 }
  typed-length (threshold n qs) w t l h =
      let x = lines-length qs t l h.1 in
      let m = h.0.most in
      let r = length-append (queries_rows qs) (operator_row (AtLeast n (query_count qs))) in
      let e = length-append (lines_text (typed_lines qs)) (62 ∷ []) in
      record { line = omega arith; part = omega arith; item = omega arith }

  -- a byte more for each line
  lines-length : (qs : Queries) (t : ℕ) → t ≤ 65536 → AllMade t qs
      → length (lines_text (typed_lines qs)) ≤ 26 * length (queries_rows qs) + query_count qs
  lines-length empty t l h = omega arith
  lines-length (push qs q) t l h =
      let x = lines-length qs t l h.0 in
      let y = (typed-length q (typed-fits t q l h.1) t l h.1).line in
      let r = length-append (queries_rows qs) (query_rows q) in
      let e = length-append (lines_text (typed_lines qs)) (separator (typed_lines qs) ∷ written (typed q).line) in
      omega arith

-- a way through eight brackets is what is read
pub steps-outcome : (s r : List ℕ) (c d : Config) (q : ℕ) → Steps 8 c s d → outcome c q (s ++ r) ≡ outcome d (q + length s) r
unfolding Steps outcome
steps-outcome [] r c d q p = ap₂ (λ (x : Config) (k : ℕ). outcome x k r) p (let e : q ≡ q + 0 = omega arith in e)
steps-outcome (b ∷ s) r c d q p =
    ap (λ (o : Option Config). continued o q (λ x. outcome x (suc q) (s ++ r))) p.1
    ∙ ap (λ (t : Bool). cond t (deep q) (outcome p.0 (suc q) (s ++ r))) (le-ltb 8 (open_in p.0) p.2)
    ∙ steps-outcome s r p.0 d (suc q) p.3
    ∙ ap (λ (k : ℕ). outcome d k r) (let e : suc q + length s ≡ q + suc (length s) = omega arith in e)

-- the text of a line that is not too deep is read as that line
pub line_read : (l : Line) → Fits l → depth l ≤ 8 → reading (written l) ≡ whole l
unfolding outcome
line_read l h k =
    ap (outcome start 0) (sym (append-nil (written l)))
    ∙ steps-outcome (written l) [] start (after (front_of l) (last_of l) []) 0 (line-steps l 8 [] h (omega arith))
    ∙ ap whole (line_again l)

module _ (v p : List ℕ) (ok : Accepted v p) (few-lists : list_count v ≤ 1024) where
  w : Given v p
  w = given v p ok

  tree : query_rows (query_of (rows_of p)) ≡ rows_of p
  tree = plan-tree (list_count v) p (verdict-passed v p (sizes p) ok)

  patterns : patterns_of (rows_of p) ≡ leaves (query_of (rows_of p))
  patterns = ap patterns_of (sym tree) ∙ patterns_are (query_of (rows_of p))

  ranged : Ranged (query_rows (query_of (rows_of p)))
  ranged = subst Ranged (sym tree) (λ i l. each i (let c = length_run (row_at p) 0 (row_count p) in omega arith))
    where
      each : (i : ℕ) → i < row_count p → InRange (get_or (rows_of p) i end).kind
      each i l =
          subst (λ (r : Row). InRange r.kind) (sym (get_or-run (row_at p) 0 (row_count p) i end l))
          (row-range p (0 + i) (w.formed (0 + i) (omega arith)))

  tree-made : Made (list_count v) (query_of (rows_of p))
  unfolding sizes
  tree-made = made (list_count v) (query_of (rows_of p)) (subst (Each (WellMade (list_count v)) no_row) patterns w.well-made) ranged

  eight : length (leaves (query_of (rows_of p))) ≤ 8
  unfolding sizes
  eight = subst (λ (fs : List Pattern). length fs ≤ 8) patterns w.most-patterns

  -- the line of an accepted plan, over a volume with few lists
  pub plan-line : PlanLine v p
  unfolding plan_text plan_line words_of_line
  plan-line =
      let t : list_count v ≤ 65536 = omega arith in
      let f = typed-fits (list_count v) (query_of (rows_of p)) t tree-made in
      let d = (shallow (list_count v) (query_of (rows_of p)) tree-made).line in
      let e = eight in
      let s = (typed-length (query_of (rows_of p)) f (list_count v) t tree-made).line in
      let n = ap length tree in
      let m = w.most-rows in
      let c : length (rows_of p) ≡ row_count p = length_run (row_at p) 0 (row_count p) in
      let r = line_read (typed (query_of (rows_of p))).line f.line (omega arith) in
      record {
        fits = f.line;
        shallow = omega arith;
        rows = typed-rows (query_of (rows_of p)) ∙ tree;
        short = omega arith;
        reads = r;
        words = ap words_by r ∙ ap plan_of (typed-rows (query_of (rows_of p)) ∙ tree) ∙ sym w.words;
        fewest = λ l x.
            let k = fewest-rounds (query_of (rows_of p)) l (x ∙ sym tree) in
            let a = line-parens (typed (query_of (rows_of p))).line in
            let b = line-parens l in
            omega arith;
        none_spare = λ t w. none_spare (query_of (rows_of p)) t w (typed-back (query_of (rows_of p))).line;
        only = λ l h x none. tight l h none ∙ ap (λ (q : Query). (typed q).line) (sym (line-tree l) ∙ ap query_of x);
      }

-- the same for every accepted plan
pub accepted-line : (v p : List ℕ) → Accepted v p → PlanLine v p
accepted-line v p ok = plan-line v p ok (good v (given v p ok).volume-accepted).lists-most
