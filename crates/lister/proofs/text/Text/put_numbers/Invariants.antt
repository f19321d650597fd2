-- `text::Text::put_numbers` meets its contract. The loop's invariant: the numbers gone over are stored, and the rest of the buffer, which stays
-- the same one, is as it was.
-- Assumes nothing.
use Prim.Native.Nat.{ℕ}
use mathlib.Core.Path.{◌≡◌}
use mathlib.Core.List.{List}
use lib.ListN.{get_or}
use Rattle.seq.specs.Lists.{joined}
use Rattle.seq.specs.Numbers.{run}
use Rattle.lister.specs.Text.{spaced}
use Rattle.lister.specs.Inner.Stored.{Added}
use Rattle.lister.proofs.text.Text.put_numbers.Given as goal

-- number i and the space in front of it
abbrev pub piece : List ℕ → ℕ → List ℕ
piece ns i = spaced (get_or ns i 0)

abbrev pub invariant-loop-n : goal.invariant-loop-n
invariant-loop-n l =
    Added (joined (run (piece l.ns) 0 l.n-index)) l.initial.self l.self × (l.self.out.ghost_name ≡ l.initial.self.out.ghost_name)
