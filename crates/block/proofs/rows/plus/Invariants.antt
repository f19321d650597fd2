-- `rows::plus` meets its contract. The loop's invariant: the columns in front of c are added. Assumes nothing.
use Prim.Native.Nat.{ℕ, ◌+◌, ◌<◌}
use mathlib.Core.Path.{◌≡◌}
use lib.ListN.{length}
use Rattle.seq.specs.Lists.{at}
use Rattle.block.specs.Inner.Sums.{column}
use Rattle.block.proofs.rows.plus.Given as goal

abbrev pub invariant-loop-c : goal.invariant-loop-c
invariant-loop-c l = (length l.row ≡ 8) × ((k : ℕ) → k < l.c → at l.row k ≡ column l.x k + column l.y k)
