-- A row that is a condition has its predicate; no other kind is met. Assumes nothing.
use mathlib.Core.Path.{sym, ap, ◌∙◌}
use Rattle.plan.specs.declared.row.Row.{Row}
use Rattle.plan.proofs.reading.predicate_at.Goals as goal

pub returns : goal.returns
returns c = sym (ap (λ (r : Row). r.kind) c.row_at.ensures) ∙ c.in-Condition.is

pub unreachable-requires : goal.unreachable-requires
unreachable-requires c = c.in_default.not-Condition _ (ap (λ (r : Row). r.kind) c.row_at.ensures ∙ c.requires.row_value_2.1)
