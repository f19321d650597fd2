-- `patterns::put_open` meets its contract: the last row of an open pattern is a condition, or its last VOICE. Assumes nothing.
use native.Mathlib.Omega.{arith}
use mathlib.Core.Path.{ap, sym, ◌∙◌}
use mathlib.Core.Logic.{⊎_elim}
use Rattle.plan.specs.declared.row.Row.{Row}
use Rattle.printer.proofs.Laws.Patterns.{open-some, open-condition, open-room, open_next, open-lists, open-first}
use Rattle.printer.proofs.Laws.Patterns.{open-no-end, open-no_operator}
use Rattle.printer.proofs.patterns.+put_open.Goals as goal

pub put_condition-requires : goal.put_condition-requires
put_condition-requires t c =
    let e = ap (λ (r : Row). r.kind) (sym c.row_at.ensures) ∙ c.in-Condition.is in
    open-condition e c.requires

pub overflow_sub-last : goal.overflow_sub-last
overflow_sub-last t c =
    let e = ap (λ (r : Row). r.kind) (sym c.row_at.ensures) ∙ c.in-Condition.is in
    open-some e c.requires

pub put_open-requires : goal.put_open-requires
put_open-requires t c =
    let e = ap (λ (r : Row). r.kind) (sym c.row_at.ensures) ∙ c.in-Condition.is in
    let s = open-some e c.requires in
    (omega (arith, c.decreases), open-room e c.put_condition.ensures.put c.requires)

pub put_lists-requires : goal.put_lists-requires
put_lists-requires t c =
    let e = ap (λ (r : Row). r.kind) (sym c.row_at.ensures) ∙ c.in-Voice.is in
    open-lists e c.requires

pub returns-in-Condition : goal.returns-in-Condition
returns-in-Condition t c =
    let e = ap (λ (r : Row). r.kind) (sym c.row_at.ensures) ∙ c.in-Condition.is in
    let condition = c.put_condition.ensures in
    let rest = c.put_open.ensures in
    record { put = open_next e condition.put rest.put; same = rest.same ∙ condition.same }

pub returns-in-Voice : goal.returns-in-Voice
returns-in-Voice t c =
    let e = ap (λ (r : Row). r.kind) (sym c.row_at.ensures) ∙ c.in-Voice.is in
    let lists = c.put_lists.ensures in
    record { put = open-first e lists.put; same = lists.same }

pub unreachable-requires : goal.unreachable-requires
unreachable-requires t c =
    let row = ap (λ (r : Row). r.kind) (sym c.row_at.ensures) in
    ⊎_elim (λ e. open-no-end (row ∙ e) c.requires) (λ e. open-no_operator (row ∙ e.1) c.requires) c.in-End.is
