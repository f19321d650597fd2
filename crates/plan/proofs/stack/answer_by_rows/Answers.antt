use native.Mathlib.Omega.{arith}
use Prim.Native.Nat.{◌<◌}
use mathlib.Core.Path.{sym, ap, subst, ◌∙◌}
use mathlib.Core.Logic.{⊎_elim}
use Rattle.plan.specs.declared.row.Kind.{Kind}
use Rattle.plan.specs.declared.row.Row.{Row}
use Rattle.plan.specs.Rows.{row_count, InRange}
use Rattle.plan.specs.Check.{sizes}
use Rattle.plan.proofs.Laws.Check.{verdict-passed}
use Rattle.plan.proofs.Laws.Accepted.{given}
use Rattle.plan.proofs.Laws.Given.{row-range}
use Rattle.plan.proofs.Laws.Stack.{reading-first, reading_small, reading-voice, reading-condition, reading-end, reading-operate, reading-done}
use Rattle.plan.proofs.stack.answer_by_rows.Goals as goal
use Rattle.plan.proofs.stack.answer_by_rows.Goals.{in-Voice, in-End, in-Operator}
use Rattle.plan.proofs.stack.answer_by_rows.Goals.{In-End}

pub loop-i-init : goal.loop-i-init
loop-i-init c = let a = c.args in reading-first a.plan.now a.bits

pub row_at-requires : goal.row_at-requires
row_at-requires c =
    record {
      i_bound = c.loop-i-test.true;
      i_value = (given _ _ c.requires.1).formed c.loop-i.i c.loop-i-test.true;
    }

-- the stack has room for one more bit
small : (c : In-End) → c.loop-i.stack < 256
small c =
    let l = c.loop-i in
    reading_small c.args.plan.now c.args.bits l.stack l.rest l.i l.invariant (given _ _ c.requires.1).most-patterns

pub overflow_mul-stack : goal.overflow_mul-stack
overflow_mul-stack c = omega (arith, small c)

pub overflow_add-stack : goal.overflow_add-stack
overflow_add-stack c = omega (arith, small c)

pub operate-stack-requires : goal.operate-stack-requires
operate-stack-requires c =
    let p = c.args.plan.now in
    let i = c.loop-i.i in
    let h = c.loop-i-test.true in
    let read = sym (ap (λ (r : Row). r.kind) c.row_at.ensures) in
    subst (λ (x : Kind). InRange x) (read ∙ c.in-Operator.is) (row-range p i ((given _ _ c.requires.1).formed i h))

pub loop-i-preserved : goal.loop-i-preserved
loop-i-preserved c =
    let l = c.loop-i in
    let p = c.args.plan.now in
    let bits = c.args.bits in
    let h : l.i < row_count p = c.loop-i-test.true in
    let read = sym (ap (λ (r : Row). r.kind) c.row_at.ensures) in
    let ok = verdict-passed c.requires.0 p (sizes p) c.requires.1 in
    elim c.match-row_at.branch [
      | in-Voice w ↦ rw (w.stack-is, w.rest-is)
          (⊎_elim (λ e. reading-voice p bits l.stack l.rest l.i l.invariant h _ (read ∙ e.1)) (λ e. reading-condition p bits l.stack l.rest l.i l.invariant h _ (read ∙ e.1)) w.in-Voice.is)
      | in-End w ↦ rw (w.stack-is, w.rest-is) (reading-end p bits l.stack l.rest l.i l.invariant h (read ∙ w.in-End.is))
      | in-Operator w ↦ rw (w.stack-is, w.rest-is)
          (reading-operate p bits l.stack l.rest l.i l.invariant h _ (read ∙ w.in-Operator.is)
          (row-range p l.i (ok.formed l.i h)) (ok.ordered l.i h) w.operate-stack.result w.operate-stack.ensures)
    ]

pub returns : goal.returns
returns c =
    let l = c.loop-i in
    let a = c.args in
    reading-done a.plan.now a.bits l.stack l.rest l.i l.invariant (omega arith)
