-- `kinds::form_wrong` meets its contract: the kind, then the words, then the words together. Assumes nothing.
use mathlib.Core.Path.{refl, sym, ap, ◌∙◌}
use Rattle.plan.specs.declared.row.Row.{Row}
use Rattle.plan.specs.Rows.{pair_wrong}
use Rattle.plan.proofs.Laws.Rows.{form-unknown, form-known}
use Rattle.plan.proofs.kinds.form_wrong.Goals as goal

pub returns-then-kind-lt1 : goal.returns-then-kind-lt1
returns-then-kind-lt1 c = sym (form-unknown _ _ _ _ c.then-kind-lt1.either)

pub returns-then-misused : goal.returns-then-misused
returns-then-misused c =
    let a = c.args in
    rw (form-known a.kind a.a a.b a.c _ (c.used_by.ensures a.a a.b a.c) c.if-kind-lt1.false c.if-kind-gt-LAST_KIND.false, sym c.misused.ensures, c.if-misused.true) refl

pub returns-else-misused : goal.returns-else-misused
returns-else-misused c =
    let a = c.args in
    rw (form-known a.kind a.a a.b a.c _ (c.used_by.ensures a.a a.b a.c) c.if-kind-lt1.false c.if-kind-gt-LAST_KIND.false, sym c.misused.ensures, c.if-misused.false)
    (c.pair_wrong.ensures ∙ ap (λ (r : Row). pair_wrong r.kind) c.row_of.ensures)
