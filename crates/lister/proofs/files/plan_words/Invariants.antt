-- `files::plan_words` meets its contract. The loop's invariant: the first i words are stored, and the rest of the buffer is as it was.
-- Assumes nothing.
use Prim.Native.Nat.{ℕ, ◌*◌}
use mathlib.Core.List.{List}
use Rattle.seq.specs.Numbers.{run}
use Rattle.block.specs.Bytes.{le32}
use Rattle.lister.specs.Inner.Stored.{Stored}
use Rattle.lister.proofs.files.plan_words.Given as goal

-- word i of a file
abbrev pub word_of : List ℕ → ℕ → ℕ
word_of file i = le32 file (4 * i)

abbrev pub invariant-loop-i : goal.invariant-loop-i
invariant-loop-i l = Stored l.initial.words 0 (run (word_of l.file) 0 l.i) l.words l.i
