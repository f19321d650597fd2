-- The starts of a volume's lists, list by list. No contract cites this file.
--     start_first, start-next      the first list starts behind the counts, each other one behind the list in front of it
--     Started, started-next        the starts of the first lists stand in a buffer; one more is stored
-- Assumes nothing.
use Prim.Native.Nat.{ℕ, ◌+◌, ◌<◌, ◌≤◌}
use native.Mathlib.Omega.{arith}
use mathlib.Core.Path.{◌≡◌, ◌∙◌}
use mathlib.Core.Logic.{⊎_elim}
use mathlib.Core.List.{List}
use lib.ListN.{length, get_or, set}
use lib.Seq.{get_or-set_same, get_or-set_other}
use Rattle.seq.specs.Numbers.{sum_to}
use Rattle.seq.proofs.Laws.Tests.{below_or}
use Rattle.seq.proofs.Laws.Numbers.{sum_step}
use Rattle.volume.specs.Layout.{list_count, lead, count, start}

module _ (v : List ℕ) where
  pub start_first : start v 0 ≡ lead (list_count v)
  unfolding sum_to
  start_first = omega arith

  pub start-next : (i : ℕ) → start v (i + 1) ≡ start v i + count v i
  start-next i = let e = sum_step (count v) i in omega arith

  -- the starts of the first lists, that of list i the last
  pub record Started (starts : List ℕ) (i : ℕ) : Type 0 where
    pub each : (j : ℕ) → j ≤ i → get_or starts j 0 ≡ start v j

  pub started-next : (starts : List ℕ) (i at : ℕ) → ((j : ℕ) → j < i → get_or starts j 0 ≡ start v j) → i < length starts → at ≡ start v i
      → Started (set starts i at) i
  started-next starts i at before room here = record {
    each = λ j h.
        ⊎_elim
        (λ (l : j < i). get_or-set_other starts i j at 0 (λ q. omega arith) ∙ before j l)
        (λ (l : i ≤ j). let q : j ≡ i = omega arith in rw q (get_or-set_same starts i at 0 room ∙ here))
        (below_or j i);
  }
