-- `order::rising` meets its contract. The loop's invariant: the words rise exactly if there was no fall so far and those from i - 1 on rise.
-- Assumes nothing.
use Prim.Native.Nat.{ℕ, ◌+◌, ◌-◌, ◌<◌}
use mathlib.Core.Path.{◌≡◌}
use mathlib.Core.Bool.{◌&&◌}
use lib.Dec.{eqb}
use Rattle.seq.specs.Lists.{rises}
use Rattle.seq.specs.Numbers.{run}
use Rattle.volume.proofs.order.rising.Given as goal

abbrev pub invariant-loop-i : goal.invariant-loop-i
invariant-loop-i g l =
    (l.falls + l.from < l.i)
    × ((f : ℕ → ℕ) → ((i x : ℕ) → i < l.end → goal.F-post g l.word i x → x ≡ f i)
    → (eqb l.falls 0 && rises (run f (l.i - 1) (l.end - (l.i - 1)))) ≡ rises (run f l.from (l.end - l.from)))
