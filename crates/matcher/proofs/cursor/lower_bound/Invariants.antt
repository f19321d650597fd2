-- The search by halves: words in front of `low` are below the target, those from `high` on are not. The measure is what lies between.
use Prim.Native.Nat.{◌-◌}
use Rattle.matcher.proofs.Laws.Cursors.{Narrowed}
use Rattle.matcher.proofs.cursor.lower_bound.Given as goal

abbrev pub invariant-loop-low : goal.invariant-loop-low
invariant-loop-low l = Narrowed l.volume l.target l.from l.end l.low l.high

abbrev pub decreases-loop-low : goal.decreases-loop-low
decreases-loop-low l = l.high - l.low
