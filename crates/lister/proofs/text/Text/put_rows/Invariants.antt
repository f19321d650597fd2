-- `text::Text::put_rows` meets its contract. The loop's invariant: the lines of the first i rows are stored, and the rest of the buffer is as it was.
-- Assumes nothing.
use Prim.Native.Nat.{ℕ, ◌*◌}
use mathlib.Core.Path.{◌≡◌}
use mathlib.Core.List.{List}
use lib.ListN.{take, drop}
use Rattle.seq.specs.Lists.{joined}
use Rattle.seq.specs.Numbers.{run}
use Rattle.lister.specs.Text.{line, scene_word}
use Rattle.lister.specs.Inner.Stored.{Added}
use Rattle.lister.proofs.text.Text.put_rows.Given as goal

-- the line of row i
abbrev pub piece : ℕ → List ℕ → ℕ → List ℕ
piece width page i = line scene_word (take width (drop (i * width) page))

abbrev pub invariant-loop-i : goal.invariant-loop-i
invariant-loop-i l =
    Added (joined (run (piece l.width l.page) 0 l.i)) l.initial.self l.self × (l.self.out.ghost_name ≡ l.initial.self.out.ghost_name)
