-- `showing::span_at` meets its contract. The loop's invariant: `behind` is the row behind the patterns so far, which is not far behind the
-- rows. Assumes nothing.
use Prim.Native.Nat.{◌+◌, ◌≤◌}
use mathlib.Core.Path.{◌≡◌}
use Rattle.plan.specs.Rows.{row_count}
use Rattle.plan.specs.Parts as parts
use Rattle.plan.proofs.showing.span_at.Given as goal

abbrev pub invariant-loop : goal.invariant-loop
invariant-loop l = (l.behind ≡ parts.behind l.plan l.counter) × (l.behind ≤ row_count l.plan + l.counter)
