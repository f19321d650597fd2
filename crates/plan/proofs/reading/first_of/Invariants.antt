-- `reading::first_of` meets its contract. The loop's invariant: the first row from i on that `test` holds of is the first from `from` on,
-- or i has passed every row. Assumes nothing.
use mathlib.Core.Path.{◌≡◌}
use mathlib.Core.Bool.{Bool}
use Rattle.plan.specs.declared.row.Kind.{Kind}
use Rattle.plan.specs.Parts.{first_of}
use Rattle.plan.proofs.reading.first_of.Given as goal

abbrev pub invariant-loop-i : goal.invariant-loop-i
invariant-loop-i g l = (sort : Kind → Bool) → ((kind : Kind) (held : Bool) → goal.F-post g l.test kind held → held ≡ sort kind) → first_of sort l.plan l.i ≡ first_of sort l.plan l.from
