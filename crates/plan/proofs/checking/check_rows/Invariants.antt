-- `checking::check_rows` meets its contract. The loop's invariant: s is the state in front of row i, and the first row that is refused
-- from i on is the first of all. Assumes nothing.
use Prim.Native.Nat.{◌-◌}
use mathlib.Core.Path.{◌≡◌}
use Rattle.seq.specs.Numbers.{first_from}
use Rattle.plan.specs.Rows.{row_count}
use Rattle.plan.specs.State.{state_at}
use Rattle.plan.specs.Check.{row_wrong, bad_row}
use Rattle.plan.proofs.checking.check_rows.Given as goal

abbrev pub invariant-loop-i : goal.invariant-loop-i
invariant-loop-i l = (l.s ≡ state_at l.plan l.i) × (first_from (row_wrong l.lists l.plan) l.i (row_count l.plan - l.i) ≡ bad_row l.lists l.plan)
