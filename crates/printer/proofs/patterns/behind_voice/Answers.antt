-- `patterns::behind_voice` meets its contract. Assumes nothing.
use native.Mathlib.Omega.{arith}
use Prim.Native.Nat.{◌-◌}
use mathlib.Core.Path.{ap, sym, ◌∙◌}
use Rattle.plan.specs.declared.row.Row.{Row}
use Rattle.plan.specs.Rows.{is_voice}
use Rattle.printer.proofs.Laws.Patterns.{behind-is}
use Rattle.printer.proofs.patterns.behind_voice.Goals as goal

pub row_at-requires : goal.row_at-requires
row_at-requires c =
    let a = c.args in
    let i = c.requires.inside in
    record {
      i_bound = omega arith;
      i_value = c.requires.formed (a.row - 1) (omega arith);
    }

pub returns-then-row-ne0 : goal.returns-then-row-ne0
returns-then-row-ne0 c =
    let a = c.args in
    c.is_voice.ensures
    ∙ ap (λ (r : Row). is_voice r.kind) c.row_at.ensures
    ∙ sym (behind-is a.plan.now a.row (omega arith))
