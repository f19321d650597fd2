-- The tree of an accepted plan: the plan is its rows. No contract cites this file.
--     Stacked, row_stacked, all_stacked     the trees that rows stack have these rows
--     plan-tree                             a plan that passes every test is the rows of its tree
-- Assumes nothing.
use Prim.Native.Nat.{ℕ, ◌+◌, ◌≤◌}
use native.Mathlib.Omega.{arith}
use mathlib.Core.Path.{◌≡◌, refl, sym, ap, ap₂, ◌∙◌}
use mathlib.Core.Bool.{false, true≢false}
use mathlib.Core.List.{List, [], ◌∷◌, ◌++◌, map, append_assoc, append-nil, map-append}
use lib.ListN.{length, get_or, take, drop, length-drop}
use lib.Seq.{length-take-le}
use Rattle.seq.proofs.Laws.Lists.{length-snoc}
use Rattle.plan.specs.declared.row.Predicate.{Predicate}
use Rattle.plan.specs.declared.row.Operator.{Operator}
use Rattle.plan.specs.declared.row.Operator.TheVariants.{Both, Either, FirstNotSecond, AtLeast}
use Rattle.plan.specs.declared.row.Kind.{Kind}
use Rattle.plan.specs.declared.row.Kind.TheVariants as kind
use Rattle.plan.specs.declared.row.Row.{Row}
use Rattle.plan.specs.declared.state.State.{State}
use Rattle.plan.specs.Rows.{rows_of}
use Rattle.plan.specs.State.{initial, after, after_all, state_at, takes}
use Rattle.plan.specs.Patterns.{Pattern, no_row, open_after}
use Rattle.plan.specs.Parts.{pattern_rows}
use Rattle.plan.proofs.Laws.State.{condition-stands, operator-stands}
use Rattle.plan.proofs.Laws.Patterns.{Passes, PassAll}
use Rattle.plan.proofs.Laws.Passed.{Passed}
use Rattle.plan.proofs.Laws.Given.{all_pass}
use Rattle.grammar.specs.Meaning.{operator_row}
use Rattle.grammar.specs.declared.tokens.Connective.TheVariants as c
use Rattle.grammar.specs.Query.{Connective, Query, leaf, operator_for, query_rows, queries_rows, stack_rows, gathered}
use Rattle.grammar.specs.Query.{queries_after, queries_from, query_of}
use Rattle.grammar.proofs.Laws.Query.{voice, condition, end, topped-two, count-gathered, stack-gathered}

-- the rows of a pattern without END
abbrev open_rows : Pattern → List Row
open_rows f = map voice f.vars ++ map condition f.predicates

-- the pattern that rows leave open
unfoldable open_from : Pattern → List Row → Pattern
open_from f [] = f
open_from f (r ∷ rows) = open_from (open_after f r.kind) rows

-- where the reading stands, with the open pattern and the stacked trees
record Stacked (s : State) (f : Pattern) (qs : List Query) : Type 0 where
  count : length f.vars ≡ s.vars
  idle : s.vars ≡ 0 → f ≡ no_row
  unbegun : s.begun ≡ false → f.predicates ≡ []
  stack : length qs ≡ s.answers

-- one more row
record Row-stacked (s : State) (f : Pattern) (qs : List Query) (k : Kind) : Type 0 where
  next : Stacked (after s k) (open_after f k) (queries_after f qs k)
  rows : stack_rows (queries_after f qs k) ++ open_rows (open_after f k) ≡ (stack_rows qs ++ open_rows f) ++ (record { kind = k } ∷ [])

takes_two : (k : Connective) → takes (operator_for k) ≡ 2
takes_two c.And = refl
takes_two c.Or = refl
takes_two c.AndNot = refl

connective_stacked : (k : Connective) (s : State) (f : Pattern) (qs : List Query) → s.vars ≡ 0 → 2 ≤ length qs → Stacked s f qs
    → Row-stacked s f qs (kind.Operator (operator_for k))
unfolding stack_rows query_rows
connective_stacked k s f [] z l h = absurd (let x : ⊥ = omega arith in x)
connective_stacked k s f (b ∷ []) z l h = absurd (let x : ⊥ = omega arith in x)
connective_stacked k s f (b ∷ (a ∷ qs)) z l h =
    let e = h.idle z in
    let row = operator_row (operator_for k) in
    let t = takes_two k in
    let m = ap length (topped-two k a b qs) in
    let n = h.stack in
    record {
      next = record { count = h.count; idle = h.idle; unbegun = h.unbegun; stack = omega arith };
      rows =
          ap₂ (λ (x : List Query) (y : Pattern). stack_rows x ++ open_rows y) (topped-two k a b qs) e
          ∙ append-nil (stack_rows qs ++ (query_rows a ++ (query_rows b ++ row)))
          ∙ sym (append_assoc (stack_rows qs) (query_rows a) (query_rows b ++ row))
          ∙ sym (append_assoc (stack_rows qs ++ query_rows a) (query_rows b) row)
          ∙ ap (λ (x : List Row). x ++ row) (sym (append-nil ((stack_rows qs ++ query_rows a) ++ query_rows b)))
          ∙ ap (λ (x : Pattern). (stack_rows (b ∷ (a ∷ qs)) ++ open_rows x) ++ row) (sym e);
    }

threshold_stacked : (least of : ℕ) (s : State) (f : Pattern) (qs : List Query) → s.vars ≡ 0 → of ≤ length qs → Stacked s f qs
    → Row-stacked s f qs (kind.Operator (AtLeast least of))
unfolding stack_rows query_rows
threshold_stacked least of s f qs z l h =
    let e = h.idle z in
    let n = h.stack in
    let d = length-drop of qs in
    let xs = queries_rows (gathered (take of qs)) in
    record {
      next = record { count = h.count; idle = h.idle; unbegun = h.unbegun; stack = omega arith };
      rows =
          ap₂ (λ (k : ℕ) (y : Pattern). (stack_rows (drop of qs) ++ (xs ++ operator_row (AtLeast least k))) ++ open_rows y)
          (count-gathered (take of qs) ∙ length-take-le of qs l) e
          ∙ append-nil (stack_rows (drop of qs) ++ (xs ++ operator_row (AtLeast least of)))
          ∙ sym (append_assoc (stack_rows (drop of qs)) xs (operator_row (AtLeast least of)))
          ∙ ap (λ (x : List Row). x ++ operator_row (AtLeast least of)) (stack-gathered of qs ∙ sym (append-nil (stack_rows qs)))
          ∙ ap (λ (y : Pattern). (stack_rows qs ++ open_rows y) ++ operator_row (AtLeast least of)) (sym e);
    }

-- an operator stands behind as many trees as it takes
operator_stacked : (o : Operator) (s : State) (f : Pattern) (qs : List Query) → s.vars ≡ 0 → takes o ≤ length qs → Stacked s f qs
    → Row-stacked s f qs (kind.Operator o)
operator_stacked Both s f qs z l h = connective_stacked c.And s f qs z l h
operator_stacked Either s f qs z l h = connective_stacked c.Or s f qs z l h
operator_stacked FirstNotSecond s f qs z l h = connective_stacked c.AndNot s f qs z l h
operator_stacked (AtLeast least of) s f qs z l h = threshold_stacked least of s f qs z l h

row_stacked : (t : ℕ) (s : State) (f : Pattern) (qs : List Query) (k : Kind) → Passes t s k → Stacked s f qs → Row-stacked s f qs k
unfolding stack_rows query_rows
row_stacked t s f qs (kind.Voice list) p h =
    let b : f.predicates ≡ [] = h.unbegun p.ordered in
    record {
      next = record {
        count = length-snoc f.vars list ∙ ap (λ (n : ℕ). n + 1) h.count;
        idle = λ z. absurd (let q : ⊥ = omega arith in q);
        unbegun = λ x. b;
        stack = h.stack;
      };
      rows =
          ap (λ (l : List Predicate). stack_rows qs ++ (map voice (f.vars ++ (list ∷ [])) ++ map condition l)) b
          ∙ ap (λ (l : List Row). stack_rows qs ++ l)
          (append-nil (map voice (f.vars ++ (list ∷ []))) ∙ map-append voice f.vars (list ∷ []))
          ∙ sym (append_assoc (stack_rows qs) (map voice f.vars) (voice list ∷ []))
          ∙ ap (λ (l : List Row). (stack_rows qs ++ l) ++ (voice list ∷ []))
          (sym (append-nil (map voice f.vars)) ∙ ap (λ (l : List Predicate). map voice f.vars ++ map condition l) (sym b));
    }
row_stacked t s f qs (kind.Condition c) p h =
    let w = condition-stands s c p.ordered in
    record {
      next = record { count = h.count; idle = λ z. absurd (w.0 z); unbegun = λ x. absurd (true≢false x); stack = h.stack };
      rows =
          ap (λ (l : List Row). stack_rows qs ++ (map voice f.vars ++ l)) (map-append condition f.predicates (c ∷ []))
          ∙ ap (λ (l : List Row). stack_rows qs ++ l)
          (sym (append_assoc (map voice f.vars) (map condition f.predicates) (condition c ∷ [])))
          ∙ sym (append_assoc (stack_rows qs) (open_rows f) (condition c ∷ []));
    }
row_stacked t s f qs kind.End p h = record {
  next = record { count = refl; idle = λ z. refl; unbegun = λ x. refl; stack = let n = h.stack in omega arith };
  rows = append-nil (stack_rows qs ++ pattern_rows f) ∙ sym (append_assoc (stack_rows qs) (open_rows f) (end ∷ []));
}
row_stacked t s f qs (kind.Operator o) p h =
    let w = operator-stands s o p.ordered in
    let m : takes o ≤ s.answers = w.1 in
    let n = h.stack in
    operator_stacked o s f qs w.0 (omega arith) h

-- all rows of a plan
record All-stacked (s : State) (f : Pattern) (qs : List Query) (rs : List Row) : Type 0 where
  last : Stacked (after_all s rs) (open_from f rs) (queries_from f qs rs)
  rows : stack_rows (queries_from f qs rs) ++ open_rows (open_from f rs) ≡ (stack_rows qs ++ open_rows f) ++ rs

all_stacked : (t : ℕ) (rs : List Row) (s : State) (f : Pattern) (qs : List Query) → PassAll t s rs → Stacked s f qs → All-stacked s f qs rs
unfolding PassAll after_all queries_from open_from
all_stacked t [] s f qs p h = record { last = h; rows = sym (append-nil (stack_rows qs ++ open_rows f)) }
all_stacked t (r ∷ rs) s f qs p h =
    let a = row_stacked t s f qs r.kind p.0 h in
    let b = all_stacked t rs (after s r.kind) (open_after f r.kind) (queries_after f qs r.kind) p.1 a.next in
    record {
      last = b.last;
      rows = b.rows ∙ ap (λ (l : List Row). l ++ rs) a.rows ∙ append_assoc (stack_rows qs ++ open_rows f) (r ∷ []) rs;
    }

-- a plan that passes every test is the rows of its tree
module _ (t : ℕ) (p : List ℕ) (ok : Passed t p) where
  -- the plan is the rows of its tree
  pub plan-tree : query_rows (query_of (rows_of p)) ≡ rows_of p
  unfolding query_of state_at stack_rows
  plan-tree = go (queries_from no_row [] (rows_of p)) refl (w.last.stack ∙ ok.single) w.rows
    where
      w : All-stacked initial no_row [] (rows_of p)
      w =
          all_stacked t (rows_of p) initial no_row [] (all_pass t p ok)
          (record { count = refl; idle = λ z. refl; unbegun = λ b. refl; stack = refl })

      none_open : open_from no_row (rows_of p) ≡ no_row
      none_open = w.last.idle ok.closed

      go : (qs : List Query) → queries_from no_row [] (rows_of p) ≡ qs → length qs ≡ 1
          → stack_rows qs ++ open_rows (open_from no_row (rows_of p)) ≡ rows_of p → query_rows (get_or qs 0 (leaf no_row)) ≡ rows_of p
      go [] e l r = absurd (let z : ⊥ = omega arith in z)
      go (q ∷ []) e l r = sym (append-nil (query_rows q)) ∙ ap (λ (f : Pattern). query_rows q ++ open_rows f) (sym none_open) ∙ r
      go (q ∷ (x ∷ qs)) e l r = absurd (let z : ⊥ = omega arith in z)
