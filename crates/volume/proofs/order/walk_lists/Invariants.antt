-- `order::walk_lists` meets its contract. The loop's invariant: the lowest list that does not rise from list i on is the lowest of all, and
-- list i begins at `start`. Assumes nothing.
use Prim.Native.Nat.{◌-◌}
use mathlib.Core.Path.{◌≡◌}
use Rattle.seq.specs.Numbers.{first_from}
use Rattle.volume.specs.Layout.{list_count}
use Rattle.volume.specs.Layout as layout
use Rattle.volume.specs.Check.{order_wrong, bad_list}
use Rattle.volume.proofs.order.walk_lists.Given as goal

abbrev pub invariant-loop-i : goal.invariant-loop-i
invariant-loop-i l = (l.start ≡ layout.start l.volume l.i) × (first_from (order_wrong l.volume) l.i (l.lists - l.i) ≡ bad_list l.volume)
