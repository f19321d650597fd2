-- `rows::row_at` meets its contract. The loop's invariant: behind zeros, c columns are the bytes. Assumes nothing.
use Prim.Native.Nat.{ℕ, ◌+◌, ◌-◌, ◌<◌}
use mathlib.Core.Path.{◌≡◌}
use lib.ListN.{length}
use Rattle.seq.specs.Lists.{at}
use Rattle.block.proofs.rows.row_at.Given as goal

abbrev pub invariant-loop-c : goal.invariant-loop-c
invariant-loop-c g l =
    (length l.row ≡ 8)
    × ((k : ℕ) → k < 8 - g.row.N → at l.row k ≡ 0)
    × ((k : ℕ) → k < l.c → at l.row (8 - g.row.N + k) ≡ at l.s (l.at + k))
