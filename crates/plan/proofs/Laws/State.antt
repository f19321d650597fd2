-- The laws of `specs/State.antt`. No contract cites this file.
--     after_all_append                 rows behind others
--     state_at-first, state_at-next     in front of row 0, and of the next row
--     state_at-most, most-le           in front of row i no number of a state is above i, nor above a larger n
--     condition-stands, end-stands, operator-stands     what a row that may stand there tells of the state
--     takes-some, takes-few           an operator takes two answers to eight
--     step_form .. step-stands        what a row does, by the first test that applies
--     step_right                      a row that stands passes every test, and the state behind it
--     list_wrong_decides, too_many_decides, order_wrong_decides     the tests decide document 01's sentences
-- Assumes nothing.
use Prim.Native.Nat.{ℕ, zero, suc, ◌+◌, ◌<◌, ◌≤◌}
use native.Mathlib.Omega.{arith}
use native.Mathlib.Nat.{zero-add}
use mathlib.Core.Path.{◌≡◌, refl, sym, ap, ◌∙◌}
use mathlib.Core.Bool.{Bool, true, false, not, cond, ◌&&◌, true≢false}
use mathlib.Core.Logic.{◌⊎◌, inl, inr, ⊎_elim, ◌≢◌}
use mathlib.Core.List.{List, [], ◌∷◌, ◌++◌}
use lib.Dec.{eqb, ltb}
use Rattle.std.specs.Prelude.{Ok, Err}
use borrow.Author.Tests.{eqb-true, eqb-false, ltb-false, not-false}
use Rattle.seq.specs.Numbers.{run}
use Rattle.seq.proofs.Laws.Tests.{neither, contrary}
use Rattle.seq.proofs.Laws.Decides.{Decides, not_decides, eqb_decides, leb_decides, ltb_decides, and_decides, or_decides, nand_decides, same_decides}
use Rattle.seq.proofs.Laws.Numbers.{run-snoc}
use Rattle.plan.specs.declared.answers.Fault.{Fault}
use Rattle.plan.specs.declared.answers.Fault.TheVariants as fault
use Rattle.plan.specs.declared.row.Predicate.{Predicate}
use Rattle.plan.specs.declared.row.Predicate.TheVariants.{Distance, Ordered, Samepara, Window, Proximity}
use Rattle.plan.specs.declared.row.Operator.{Operator}
use Rattle.plan.specs.declared.row.Operator.TheVariants.{Both, Either, FirstNotSecond, AtLeast}
use Rattle.plan.specs.declared.row.Kind.{Kind}
use Rattle.plan.specs.declared.row.Kind.TheVariants as kind
use Rattle.plan.specs.declared.row.Row.{Row}
use Rattle.plan.specs.declared.state.State.{State}
use Rattle.plan.specs.Limits.{most_patterns, most_pattern_vars}
use Rattle.plan.specs.Rows.{row_at, form_wrong_at, InRange}
use Rattle.plan.specs.Check.{faulty}
use Rattle.plan.specs.State.{initial, takes, after, after_all, state_at, names_below, list_wrong, too_many, order_wrong, step}
use Rattle.plan.specs.Inner.State.{AtMost}
use Rattle.plan.proofs.Laws.Rows.{never_decides}
use Rattle.plan.specs.Refusals.{WrongList, Ninth, NamesMissing, WrongOrder}

after_all_append : (s : State) (xs ys : List Row) → after_all s (xs ++ ys) ≡ after_all (after_all s xs) ys
unfolding after_all
after_all_append s [] ys = refl
after_all_append s (x ∷ xs) ys = after_all_append (after s x.kind) xs ys

pub state_at-first : (p : List ℕ) → state_at p 0 ≡ initial
unfolding state_at after_all run
state_at-first p = refl

pub state_at-next : (p : List ℕ) (i : ℕ) → state_at p (i + 1) ≡ after (state_at p i) (row_at p i).kind
unfolding state_at after_all
state_at-next p i = ap (after_all initial) (run-snoc (row_at p) 0 i) ∙ after_all_append initial (run (row_at p) 0 i) (row_at p (0 + i) ∷ []) ∙ ap (λ (j : ℕ). after (after_all initial (run (row_at p) 0 i)) (row_at p j).kind) (zero-add i)

-- a row adds at most one to each number
after-most : (n : ℕ) (s : State) (k : Kind) → AtMost n s → AtMost (n + 1) (after s k)
after-most n s (kind.Voice list) h =
    let a = h.vars in let b = h.patterns in let c = h.answers in let d = h.total in
    record { vars = omega arith; patterns = omega arith; answers = omega arith; total = omega arith }
after-most n s (kind.Condition x) h =
    let a = h.vars in let b = h.patterns in let c = h.answers in let d = h.total in
    record { vars = omega arith; patterns = omega arith; answers = omega arith; total = omega arith }
after-most n s kind.End h =
    let a = h.vars in let b = h.patterns in let c = h.answers in let d = h.total in
    record { vars = omega arith; patterns = omega arith; answers = omega arith; total = omega arith }
after-most n s (kind.Operator o) h =
    let a = h.vars in let b = h.patterns in let c = h.answers in let d = h.total in
    record { vars = omega arith; patterns = omega arith; answers = omega arith; total = omega arith }

pub state_at-most : (p : List ℕ) (i : ℕ) → AtMost i (state_at p i)
state_at-most p zero = rw (state_at-first p) (record { vars = omega arith; patterns = omega arith; answers = omega arith; total = omega arith })
state_at-most p (suc i) =
    let e : state_at p (suc i) ≡ after (state_at p i) (row_at p i).kind = ap (state_at p) (omega arith) ∙ state_at-next p i in
    let h : AtMost (i + 1) (after (state_at p i) (row_at p i).kind) = after-most i (state_at p i) (row_at p i).kind (state_at-most p i) in
    rw e (rw (sym (one_more i)) h)
  where
    one_more : (j : ℕ) → j + 1 ≡ suc j
    one_more j = omega arith

pub most-le : (i n : ℕ) (s : State) → i ≤ n → AtMost i s → AtMost n s
most-le i n s l h = record { vars = omega arith; patterns = omega arith; answers = omega arith; total = omega arith }

-- what a row that may stand there tells of the state
pub condition-stands : (s : State) (c : Predicate) → order_wrong s (kind.Condition c) ≡ false → (s.vars ≢ 0) × (names_below s.vars c ≡ true)
condition-stands s c e =
    let w = neither (eqb s.vars 0) (not (names_below s.vars c)) e in
    (eqb-false s.vars 0 w.0, not-false (names_below s.vars c) w.1)

pub end-stands : (s : State) → order_wrong s kind.End ≡ false → s.vars ≢ 0
end-stands s e = eqb-false s.vars 0 e

-- an operator takes two answers to eight
pub takes-some : (o : Operator) → InRange (kind.Operator o) → 2 ≤ takes o
takes-some Both h = omega arith
takes-some Either h = omega arith
takes-some FirstNotSecond h = omega arith
takes-some (AtLeast least of) h = h.1.0

pub takes-few : (o : Operator) → InRange (kind.Operator o) → takes o ≤ 8
takes-few Both h = omega arith
takes-few Either h = omega arith
takes-few FirstNotSecond h = omega arith
takes-few (AtLeast least of) h = h.1.1

pub operator-stands : (s : State) (o : Operator) → order_wrong s (kind.Operator o) ≡ false → (s.vars ≡ 0) × (takes o ≤ s.answers)
operator-stands s o e =
    let w = neither (not (eqb s.vars 0)) (ltb s.answers (takes o)) e in
    (eqb-true s.vars 0 (not-false (eqb s.vars 0) w.0), ltb-false s.answers (takes o) w.1)

module _ (t : ℕ) (s : State) (p : List ℕ) (i : ℕ) where
  pub step_form : form_wrong_at p i ≡ true → step t s p i ≡ Err fault.Form
  unfolding step
  step_form e = rw e

  module _ (formed : form_wrong_at p i ≡ false) where
    pub step-list : list_wrong t (row_at p i).kind ≡ true → step t s p i ≡ Err fault.List
    unfolding step
    step-list e = rw (formed, e)

    module _ (listed : list_wrong t (row_at p i).kind ≡ false) where
      pub step-many : too_many s (row_at p i).kind ≡ true → step t s p i ≡ Err fault.TooMany
      unfolding step
      step-many e = rw (formed, listed, e)

      module _ (few : too_many s (row_at p i).kind ≡ false) where
        pub step-order : order_wrong s (row_at p i).kind ≡ true → step t s p i ≡ Err fault.Order
        unfolding step
        step-order e = rw (formed, listed, few, e)

        pub step-stands : order_wrong s (row_at p i).kind ≡ false → step t s p i ≡ Ok (after s (row_at p i).kind)
        unfolding step
        step-stands e = rw (formed, listed, few, e)

  -- a row that stands passes the four tests, and where it leads
  pub step_right : (s' : State) → step t s p i ≡ Ok s' → (form_wrong_at p i ≡ false) × (list_wrong t (row_at p i).kind ≡ false) × (too_many s (row_at p i).kind ≡ false) × (order_wrong s (row_at p i).kind ≡ false) × (s' ≡ after s (row_at p i).kind)
  unfolding step
  step_right s' e = go (form_wrong_at p i) (list_wrong t (row_at p i).kind) (too_many s (row_at p i).kind) (order_wrong s (row_at p i).kind) (after s (row_at p i).kind) e
    where
      not-faulty : (why : Fault) → Err why ≡ Ok s' → ⊥
      not-faulty why q = true≢false (ap faulty q)

      go : (a b c d : Bool) (x : State) → cond a (Err fault.Form) (cond b (Err fault.List) (cond c (Err fault.TooMany) (cond d (Err fault.Order) (Ok x)))) ≡ Ok s' → (a ≡ false) × (b ≡ false) × (c ≡ false) × (d ≡ false) × (s' ≡ x)
      go true b c d x q = absurd (not-faulty fault.Form q)
      go false true c d x q = absurd (not-faulty fault.List q)
      go false false true d x q = absurd (not-faulty fault.TooMany q)
      go false false false true x q = absurd (not-faulty fault.Order q)
      go false false false false x q = (refl, refl, refl, refl, cc)

pub list_wrong_decides : (t : ℕ) (k : Kind) → Decides (list_wrong t k) (WrongList t k)
list_wrong_decides t (kind.Voice list) = or_decides (eqb_decides list 0) (leb_decides t list)
list_wrong_decides t (kind.Condition c) = never_decides
list_wrong_decides t kind.End = never_decides
list_wrong_decides t (kind.Operator o) = never_decides

pub too_many_decides : (s : State) (k : Kind) → Decides (too_many s k) (Ninth s k)
too_many_decides s (kind.Voice list) = or_decides (leb_decides most_pattern_vars s.vars) (and_decides (eqb_decides s.vars 0) (leb_decides most_patterns s.patterns))
too_many_decides s (kind.Condition c) = never_decides
too_many_decides s kind.End = never_decides
too_many_decides s (kind.Operator o) = never_decides

-- one of two names is not below n
missing : (n a b : ℕ) → Decides (not (ltb a n && ltb b n)) ((n ≤ a) ⊎ (n ≤ b))
missing n a b =
    same_decides (nand_decides (ltb_decides a n) (ltb_decides b n))
    (⊎_elim (λ (x : a < n → ⊥). inl (omega arith)) (λ (x : b < n → ⊥). inr (omega arith)))
    (⊎_elim (λ (x : n ≤ a). inl (λ (y : a < n). omega arith)) (λ (x : n ≤ b). inr (λ (y : b < n). omega arith)))

names_below_decides : (n : ℕ) (c : Predicate) → Decides (not (names_below n c)) (NamesMissing n c)
names_below_decides n (Distance a b limit) = missing n a b
names_below_decides n (Ordered a b) = missing n a b
names_below_decides n (Samepara a b) = missing n a b
names_below_decides n (Window limit) = never_decides
names_below_decides n (Proximity a b least most) = missing n a b

pub order_wrong_decides : (s : State) (k : Kind) → Decides (order_wrong s k) (WrongOrder s k)
order_wrong_decides s (kind.Voice list) = record { yes = λ e. e; no = λ e f. contrary f e }
order_wrong_decides s (kind.Condition c) = or_decides (eqb_decides s.vars 0) (names_below_decides s.vars c)
order_wrong_decides s kind.End = eqb_decides s.vars 0
order_wrong_decides s (kind.Operator o) = or_decides (not_decides (eqb_decides s.vars 0)) (ltb_decides s.answers (takes o))
