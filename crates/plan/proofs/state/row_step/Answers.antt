-- `state::row_step` meets its contract: the four tests in order, then the state behind the row. Assumes nothing.
use mathlib.Core.Path.{sym, ap, ◌∙◌}
use Rattle.std.specs.Prelude.{Ok}
use Rattle.plan.specs.declared.row.Row.{Row}
use Rattle.plan.specs.State as state
use Rattle.plan.proofs.Laws.State.{step_form, step-list, step-many, step-order, step-stands}
use Rattle.plan.proofs.state.row_step.Goals as goal

pub returns-then-form_wrong : goal.returns-then-form_wrong
returns-then-form_wrong c = sym (step_form _ _ _ _ (sym c.form_wrong.ensures ∙ c.if-form_wrong.true))

pub row_at-kind-requires-clause-i_value : goal.row_at-kind-requires-clause-i_value
row_at-kind-requires-clause-i_value c = sym c.form_wrong.ensures ∙ c.if-form_wrong.false

pub returns-then-list_wrong : goal.returns-then-list_wrong
returns-then-list_wrong c =
    let formed = sym c.form_wrong.ensures ∙ c.if-form_wrong.false in
    sym (step-list _ _ _ _ formed (rw c.row_at-kind.ensures at (sym c.list_wrong.ensures ∙ c.if-list_wrong.true)))

pub returns-then-too_many : goal.returns-then-too_many
returns-then-too_many c =
    let formed = sym c.form_wrong.ensures ∙ c.if-form_wrong.false in
    let listed = rw c.row_at-kind.ensures at (sym c.list_wrong.ensures ∙ c.if-list_wrong.false) in
    sym (step-many _ _ _ _ formed listed (rw c.row_at-kind.ensures at (sym c.too_many.ensures ∙ c.if-too_many.true)))

pub returns-then-order_wrong : goal.returns-then-order_wrong
returns-then-order_wrong c =
    let formed = sym c.form_wrong.ensures ∙ c.if-form_wrong.false in
    let listed = rw c.row_at-kind.ensures at (sym c.list_wrong.ensures ∙ c.if-list_wrong.false) in
    let few = rw c.row_at-kind.ensures at (sym c.too_many.ensures ∙ c.if-too_many.false) in
    sym (step-order _ _ _ _ formed listed few (rw c.row_at-kind.ensures at (sym c.order_wrong.ensures ∙ c.if-order_wrong.true)))

pub after-requires-clause-kind_value : goal.after-requires-clause-kind_value
after-requires-clause-kind_value c = sym c.order_wrong.ensures ∙ c.if-order_wrong.false

pub returns : goal.returns
returns c =
    let a = c.args in
    let formed = sym c.form_wrong.ensures ∙ c.if-form_wrong.false in
    let listed = rw c.row_at-kind.ensures at (sym c.list_wrong.ensures ∙ c.if-list_wrong.false) in
    let few = rw c.row_at-kind.ensures at (sym c.too_many.ensures ∙ c.if-too_many.false) in
    let ordered = rw c.row_at-kind.ensures at (sym c.order_wrong.ensures ∙ c.if-order_wrong.false) in
    ap Ok (c.after.ensures ∙ ap (λ (r : Row). state.after a.s r.kind) c.row_at-kind.ensures) ∙ sym (step-stands _ _ _ _ formed listed few ordered)
