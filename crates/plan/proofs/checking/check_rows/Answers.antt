use native.Mathlib.Omega.{arith}
use Prim.Native.Nat.{ℕ, ◌-◌}
use mathlib.Core.Path.{◌≡◌, sym, ap, ◌∙◌}
use mathlib.Core.List.{List}
use Rattle.std.specs.Prelude.{Ok, Err}
use Rattle.seq.specs.Numbers.{first_from}
use Rattle.seq.specs.Refusals.{answered}
use Rattle.seq.proofs.Laws.Numbers.{first_hit, first_miss, first-end}
use Rattle.plan.specs.declared.answers.Sizes.{Sizes}
use Rattle.plan.specs.declared.state.State.{State}
use Rattle.plan.specs.Limits.{most_rows}
use Rattle.plan.specs.Rows.{row_count}
use Rattle.plan.specs.State.{state_at, step}
use Rattle.plan.specs.Check.{row_wrong, bad_row}
use Rattle.plan.specs.Refusals.{Unfinished}
use Rattle.plan.proofs.Laws.State.{state_at-first, state_at-next, state_at-most, most-le, step_right}
use Rattle.plan.proofs.Laws.Check.{row-stands, row-faulty, rows_fault, rows-unfinished, rows-answer}
use Rattle.plan.proofs.Laws.Given.{sizes_are}
use Rattle.plan.proofs.checking.check_rows.Goals as goal
use Rattle.plan.proofs.checking.check_rows.Goals.{After-loop-i}

-- behind the loop s is the state at the end of the plan, and no row is refused
abbrev AtEnd : List ℕ → ℕ → State → Type 0
AtEnd p lists s = (s ≡ state_at p (row_count p)) × (bad_row lists p ≡ row_count p)

at-end : (c : After-loop-i) → AtEnd c.args.plan.now c.args.lists c.loop-i.s
at-end c =
    let l = c.loop-i in
    let a = c.args in
    let p = a.plan.now in
    let e : l.i ≡ row_count p = omega arith in
    (l.invariant.0 ∙ ap (state_at p) e, sym l.invariant.1 ∙ first-end (row_wrong a.lists p) l.i (row_count p) c.loop-i-test.false ∙ e)

-- what a state counts
abbrev sized : State → Sizes
sized s = record { patterns = s.patterns; vars = s.total }

pub loop-i-init : goal.loop-i-init
loop-i-init c =
    let a = c.args in
    let p = a.plan.now in
    let e : row_count p - 0 ≡ row_count p = omega arith in
    (sym (state_at-first p), ap (first_from (row_wrong a.lists p) 0) e)

pub row_step-requires-clause-at_most : goal.row_step-requires-clause-at_most
row_step-requires-clause-at_most c =
    let l = c.loop-i in
    let p = c.args.plan.now in
    rw l.invariant.0 (most-le l.i most_rows (state_at p l.i) (omega arith) (state_at-most p l.i))

pub returns-in-Err : goal.returns-in-Err
returns-in-Err c =
    let a = c.args in
    let l = c.loop-i in
    let p = a.plan.now in
    let e : step a.lists (state_at p l.i) p l.i ≡ Err _ = ap (λ (s : State). step a.lists s p l.i) (sym l.invariant.0) ∙ sym c.row_step.ensures ∙ c.in-Err.is in
    sym (rows_fault a.lists p l.i _ c.loop-i-test.true (sym l.invariant.1 ∙ first_hit (row_wrong a.lists p) l.i (row_count p) c.loop-i-test.true (row-faulty a.lists p l.i _ e).0) e)

pub loop-i-preserved : goal.loop-i-preserved
loop-i-preserved c =
    let a = c.args in
    let l = c.loop-i in
    let p = a.plan.now in
    let e : step a.lists (state_at p l.i) p l.i ≡ Ok _ = ap (λ (s : State). step a.lists s p l.i) (sym l.invariant.0) ∙ sym c.row_step.ensures ∙ c.in-Ok.is in (
      (step_right a.lists (state_at p l.i) p l.i _ e).4 ∙ sym (state_at-next p l.i),
      sym (first_miss (row_wrong a.lists p) l.i (row_count p) c.loop-i-test.true (row-stands a.lists p l.i _ e)) ∙ l.invariant.1,
    )

pub returns-then-s-ne0 : goal.returns-then-s-ne0
returns-then-s-ne0 c =
    let e = at-end (goal.at.returns-then-s-ne0 c).After-loop-i in
    let h : Unfinished c.loop-i.s = grind arith in
    sym (rows-unfinished _ _ e.1 (rw e.0 at h))

pub returns : goal.returns
returns c =
    let a = c.args in
    let p = a.plan.now in
    let e = at-end (goal.at.returns c).After-loop-i in
    let closed = sym (ap (λ (s : State). s.vars) e.0) ∙ c.if-s-ne0.false in
    ap (λ (s : State). answered (sized s)) e.0 ∙ sym (ap answered (sizes_are p closed)) ∙ sym (rows-answer a.lists p e.1 closed (sym (ap (λ (s : State). s.answers) e.0) ∙ c.if-s-ne1.false))
