-- A row that is a VOICE has its list; no other kind is met. Assumes nothing.
use mathlib.Core.Path.{sym, ap, ◌∙◌}
use Rattle.plan.specs.declared.row.Row.{Row}
use Rattle.plan.proofs.reading.list_at.Goals as goal

pub returns : goal.returns
returns c = sym (ap (λ (r : Row). r.kind) c.row_at.ensures) ∙ c.in-Voice.is

pub unreachable-requires : goal.unreachable-requires
unreachable-requires c = c.in_default.not-Voice _ (ap (λ (r : Row). r.kind) c.row_at.ensures ∙ c.requires.by_index.1)
