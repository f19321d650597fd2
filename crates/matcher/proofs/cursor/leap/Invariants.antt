-- The search in doubling steps: words in front of `low` are below the target. The measure is what lies behind `low`.
use Prim.Native.Nat.{◌-◌, ◌≤◌}
use Rattle.matcher.specs.Inner.Cursors.{Galloped}
use Rattle.matcher.proofs.cursor.leap.Given as goal

abbrev pub invariant-loop-step : goal.invariant-loop-step
invariant-loop-step l = Galloped l.volume l.target l.from l.end l.low × (1 ≤ l.step)

abbrev pub decreases-loop-step : goal.decreases-loop-step
decreases-loop-step l = l.end - l.low
