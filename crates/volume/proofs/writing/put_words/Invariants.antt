-- `writing::put_words` meets its contract. The loops' invariants: for each function whose values from an index on the closure gives, the first
-- j of them are stored behind the first four bytes, and the rest is as it was (`Filling`). Assumes nothing.
use Prim.Native.Nat.{ℕ, ◌+◌, ◌<◌}
use mathlib.Core.Path.{◌≡◌}
use Rattle.volume.proofs.Laws.Storing.{Filling}
use Rattle.volume.proofs.writing.put_words.Given as goal

abbrev pub invariant-loop-j : goal.invariant-loop-j
invariant-loop-j g l = (f : ℕ → ℕ) (from : ℕ) → ((j x : ℕ) → j < 126 → goal.F-post g l.word j x → x ≡ f (from + j)) → Filling f from l.fn.out l.out l.j

abbrev pub invariant-loop-j-2 : goal.invariant-loop-j-2
invariant-loop-j-2 g l = (f : ℕ → ℕ) (from : ℕ) → ((j x : ℕ) → j < 126 → goal.F-post g l.word j x → x ≡ f (from + j)) → Filling f from l.fn.out l.out l.j
