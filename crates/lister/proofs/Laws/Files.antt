-- The laws of a plan file's words. No contract cites this file.
--     words-empty, words_long, words_uneven     a file of 0 bytes, over 1,024 bytes or of no multiple of 16 has none
--     words-whole                               any other has one for each four bytes
--     words-most                                at most 256
-- Assumes nothing.
use Prim.Native.Nat.{ℕ, ◌*◌, ◌/◌, ◌%◌, ◌<◌, ◌≤◌}
use native.Mathlib.Omega.{arith}
use mathlib.Core.Path.{◌≡◌}
use mathlib.Core.Bool.{true, false}
use mathlib.Core.Logic.{⊎_elim}
use mathlib.Core.List.{List, []}
use lib.ListN.{length}
use lib.Dec.{eqb}
use borrow.Author.Tests.{lt-ltb, le-ltb, le-leb, lt-leb, eq-eqb, ne_eqb, eqb-true, eqb-false}
use Rattle.seq.specs.Numbers.{run}
use Rattle.seq.proofs.Laws.Tests.{below_or, true_or}
use Rattle.seq.proofs.Laws.Numbers.{length_run}
use Rattle.block.specs.Bytes.{le32}
use Rattle.lister.specs.Printed.{plan_words}

module _ (b : List ℕ) where
  pub words-empty : length b ≡ 0 → plan_words b ≡ []
  unfolding plan_words
  words-empty e = rw (le-ltb 0 (length b) (omega arith))

  pub words_long : 1024 < length b → plan_words b ≡ []
  unfolding plan_words
  words_long h = rw (lt-ltb 0 (length b) (omega arith), lt-leb (length b) 1024 h)

  pub words_uneven : 0 < length b → length b ≤ 1024 → (length b % 16 ≡ 0 → ⊥) → plan_words b ≡ []
  unfolding plan_words
  words_uneven l h e = rw (lt-ltb 0 (length b) l, le-leb (length b) 1024 h, ne_eqb (length b % 16) 0 e)

  pub words-whole : 0 < length b → length b ≤ 1024 → length b % 16 ≡ 0 → plan_words b ≡ run (λ i. le32 b (4 * i)) 0 (length b / 4)
  unfolding plan_words
  words-whole l h e = rw (lt-ltb 0 (length b) l, le-leb (length b) 1024 h, eq-eqb (length b % 16) 0 e)

  pub words-most : length (plan_words b) ≤ 256
  words-most = ⊎_elim (λ h. rw (words_long h) (omega arith)) (λ h. ⊎_elim (some h) (λ l. rw (words-empty (omega arith)) (omega arith)) (below_or 0 (length b))) (below_or 1024 (length b))
    where
      some : length b ≤ 1024 → 0 < length b → length (plan_words b) ≤ 256
      some h l =
          ⊎_elim
          (λ (e : eqb (length b % 16) 0 ≡ true).
          let n = length_run (λ i. le32 b (4 * i)) 0 (length b / 4) in
          rw (words-whole l h (eqb-true (length b % 16) 0 e)) (omega arith))
          (λ (e : eqb (length b % 16) 0 ≡ false). rw (words_uneven l h (eqb-false (length b % 16) 0 e)) (omega arith))
          (true_or (eqb (length b % 16) 0))
