use native.Mathlib.Omega.{arith}
use Prim.Native.Nat.{ℕ, ◌+◌}
use mathlib.Core.Path.{◌≡◌, sym, ap, ◌∙◌, subst}
use lib.ListN.{length}
use mathlib.Core.List.{List}
use Rattle.std.proofs.Common.{Some, Ok, Err}
use Rattle.line.specs.declared.reading.Stop.TheVariants.{Broken}
use Rattle.line.specs.Inner.Reads.{FigureRead}
use Rattle.plan.specs.declared.row.Kind.TheVariants.{End}
use Rattle.line.specs.Inner.Store.{put_row}
use Rattle.line.proofs.Laws.Figure.{Within, within_first, within-length, within-most, within_end, within-goes, within_emits}
use Rattle.line.proofs.Laws.Figure.{within-closes, within-stuck}
use Rattle.line.proofs.figure.figure.Goals as goal
use Rattle.line.proofs.figure.figure.Goals.{in-Goes, in-Emits}

pub loop-at-init : goal.loop-at-init
loop-at-init c =
    let a = c.args in
    within_first a.text.now a.from a.first a.out.now (omega arith) (omega arith)

pub step-requires : goal.step-requires
step-requires c =
    let a = c.args in
    let l = c.loop-at in
    within-most a.text.now a.from a.first a.out.now l.at l.state l.rows l.out l.invariant

pub shape_of-out-in-Closes : goal.shape_of-out-in-Closes
shape_of-out-in-Closes c =
    let a = c.args in
    let l = c.loop-at in
    c.put-in-Closes-2.auto.out
    ∙ c.put-in-Closes.auto.out
    ∙ within-length a.text.now a.from a.first a.out.now l.at l.state l.rows l.out l.invariant

pub returns-in-Closes : goal.returns-in-Closes
returns-in-Closes c =
    let a = c.args in
    let l = c.loop-at in
    let closes = sym c.step.ensures ∙ c.in-Some.is ∙ ap Some c.in-Closes.is in
    let row = ap (λ (o : List ℕ). put_row o (l.rows + 1) End) c.put-in-Closes.ensures in
    subst (λ (o : List ℕ). FigureRead a.text.now a.from a.first a.out.now o (Ok (record { at = l.at + 1; rows = l.rows + 2 })))
    (sym (c.put-in-Closes-2.ensures ∙ row))
    (within-closes a.text.now a.from a.first a.out.now l.at l.state l.rows l.out l.invariant (omega arith) c.in-Closes.kind closes)

pub shape_of-out-in_default : goal.shape_of-out-in_default
shape_of-out-in_default c =
    let a = c.args in
    let l = c.loop-at in
    within-length a.text.now a.from a.first a.out.now l.at l.state l.rows l.out l.invariant

pub returns-in_default : goal.returns-in_default
returns-in_default c =
    let a = c.args in
    let l = c.loop-at in
    within-stuck a.text.now a.from a.first a.out.now l.at l.state l.rows l.out l.invariant (omega arith)
    (sym c.step.ensures ∙ c.in_default.is)

pub loop-at-preserved : goal.loop-at-preserved
loop-at-preserved c =
    let a = c.args in
    let l = c.loop-at in
    elim c.match-next.branch [
      | in-Goes w ↦ rw (w.state-is, w.rows-is, w.out-is)
          (within-goes a.text.now a.from a.first a.out.now l.at l.state l.rows l.out l.invariant (omega arith) _
          (sym c.step.ensures ∙ c.in-Some.is ∙ ap Some w.in-Goes.is))
      | in-Emits w ↦ rw (w.state-is, w.rows-is, w.out-is)
          (subst (λ (o : List ℕ). Within a.text.now a.from a.first a.out.now (l.at + 1) w.in-Emits.goes (l.rows + 1) o)
          (sym w.put.ensures)
          (within_emits a.text.now a.from a.first a.out.now l.at l.state l.rows l.out l.invariant (omega arith)
          w.in-Emits.kind w.in-Emits.goes (sym c.step.ensures ∙ c.in-Some.is ∙ ap Some w.in-Emits.is)))
    ]

pub shape_of-out : goal.shape_of-out
shape_of-out c =
    let a = c.args in
    let l = c.loop-at in
    within-length a.text.now a.from a.first a.out.now l.at l.state l.rows l.out l.invariant

pub returns : goal.returns
returns c =
    let a = c.args in
    let l = c.loop-at in
    let h = l.invariant.high in
    let e : l.at ≡ length a.text.now = omega arith in
    subst (λ (n : ℕ). FigureRead a.text.now a.from a.first a.out.now l.out (Err (Broken n))) e
    (within_end a.text.now a.from a.first a.out.now l.at l.state l.rows l.out l.invariant c.loop-at-test.false)
