-- `writing::sum_of` meets its contract: the sum of a list is that of its values by index. Assumes nothing.
use Prim.Native.Nat.{ℕ, ◌+◌}
use native.Mathlib.Nat.{add-zero, zero-add, add_assoc}
use mathlib.Core.Path.{◌≡◌, sym, ◌∙◌}
use mathlib.Core.List.{List, [], ◌∷◌}
use Rattle.std.proofs.Common.{rules}
use Rattle.std.specs.List.{fold, sum}
use Rattle.seq.specs.Lists.{total}
use Rattle.seq.proofs.Laws.Runs.{sum-total}
use Rattle.volume.proofs.writing.sum_of.Goals as goal

same_fold : (a : ℕ) (xs : List ℕ) → fold (λ m x. m + x) a xs ≡ a + total (λ x. x) xs
unfolding total
same_fold a [] = rw add-zero
same_fold a (x ∷ xs) = same_fold (a + x) xs ∙ add_assoc a x _

same_sum : (xs : List ℕ) → sum xs ≡ total (λ x. x) xs
same_sum xs = same_fold 0 xs ∙ zero-add _

pub returns : goal.returns
returns c =
    let counts = c.args.lists.now.counts.now in
    let all : c.sum.result ≡ sum counts = search rules in
    all ∙ same_sum counts ∙ sym (sum-total counts)
