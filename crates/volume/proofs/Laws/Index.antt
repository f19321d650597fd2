-- What an index below an end says, back from the answer. No contract cites this file. Assumes nothing.
use Prim.Native.Nat.{ℕ, ◌<◌, ◌≤◌}
use mathlib.Core.Path.{◌≡◌, ◌∙◌}
use mathlib.Core.Logic.{⊎_elim}
use Rattle.std.specs.Prelude.{Option, Some, None}
use Rattle.seq.specs.Numbers.{index_below}
use Rattle.seq.proofs.Laws.Numbers.{index-found, index-none}
use Rattle.seq.proofs.Laws.Tests.{below_or}

pub some_index : (n k i : ℕ) → Some i ≡ index_below n k → (i ≡ k) × (k < n)
some_index n k i e =
    ⊎_elim (λ (h : k < n). let w = e ∙ index-found n k h in ((cc), h)) (λ (h : n ≤ k). let w = e ∙ index-none n k h in absurd (cc)) (below_or k n)

pub no_index : (n k : ℕ) → ◌≡◌ {A = Option ℕ} None (index_below n k) → n ≤ k
no_index n k e = ⊎_elim (λ (h : k < n). let w = e ∙ index-found n k h in absurd (cc)) (λ (h : n ≤ k). h) (below_or k n)
