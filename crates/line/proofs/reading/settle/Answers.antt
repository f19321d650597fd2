-- `reading::settle` meets its contract: a case for each operator that may wait. Assumes nothing.
use mathlib.Core.Path.{sym, ap, ◌∙◌}
use Rattle.std.proofs.Common.{List, ℕ, Option, Some}
use Rattle.grammar.specs.declared.tokens.Connective.{Connective}
use Rattle.plan.specs.declared.row.Operator.{Operator}
use Rattle.plan.specs.declared.row.Kind.TheVariants as kind
use Rattle.line.specs.Inner.Reads.{pending_rows}
use Rattle.line.specs.Inner.Store.{put_row, stored}
use Rattle.line.proofs.reading.settle.Goals as goal
use Rattle.line.proofs.reading.settle.Goals.{in-And, in-Or, in-AndNot}

pub returns-in_default-clause-out_after : goal.returns-in_default-clause-out_after
unfolding stored
returns-in_default-clause-out_after c =
    let a = c.args in
    sym (ap (λ (o : Option Connective). stored a.out.now a.rows (pending_rows o)) c.in_default.is)

pub returns-clause-out_after : goal.returns-clause-out_after
unfolding stored
returns-clause-out_after c =
    let a = c.args in
    let of : Connective → List ℕ = λ k. stored a.out.now a.rows (pending_rows (Some k)) in
    let by : Operator → List ℕ = λ o. put_row a.out.now a.rows (kind.Operator o) in
    c.put.ensures
    ∙ elim c.match-connective.branch [
      | in-And w ↦ ap by w.operator-is ∙ sym (ap of w.in-And.is)
      | in-Or w ↦ ap by w.operator-is ∙ sym (ap of w.in-Or.is)
      | in-AndNot w ↦ ap by w.operator-is ∙ sym (ap of w.in-AndNot.is)
    ]
    ∙ sym (ap (λ (o : Option Connective). stored a.out.now a.rows (pending_rows o)) c.in-Some.is)
