-- Lists, their lengths and their postings back to back: cutting and joining undo one another. No contract cites this file.
--     given-counts, given-postings        the lengths and the join of the given lists are the given counts and postings
--     given-lists                         the lists that lengths and join give are the lists
--     written-volume_of                   writing counts and postings gives the volume of the given lists
-- Assumes nothing.
use Prim.Native.Nat.{ℕ, zero, suc, ◌+◌, ◌<◌}
use native.Mathlib.Nat.{zero-add}
use native.Mathlib.Omega.{arith}
use mathlib.Core.Path.{◌≡◌, refl, sym, ap, ap₂, ◌∙◌}
use mathlib.Core.List.{List, [], ◌∷◌, ◌++◌, map}
use lib.ListN.{length, get_or, length-map}
use Rattle.seq.specs.Lists.{at, total, joined}
use Rattle.seq.specs.Numbers.{run, sum_to}
use Rattle.seq.proofs.Laws.Numbers.{run_ext, length_run}
use Rattle.volume.specs.Write.{written, volume_of, given_list, given_lists}
use Rattle.seq.proofs.Laws.Runs.{map-run, run-get_or, joined_runs, run-front, run-behind, sum_cons, sum-total}

-- counts and postings, cut into lists
module _ (cs ps : List ℕ) where
  pub length-given : length (given_lists cs ps) ≡ length cs
  unfolding given_lists
  length-given = length_run (given_list cs ps) 0 (length cs)

  pub given-counts : map length (given_lists cs ps) ≡ cs
  unfolding given_lists
  given-counts =
      map-run length (given_list cs ps) 0 (length cs)
      ∙ run_ext (λ i. length (given_list cs ps i)) (at cs) 0 0 (length cs) (λ j h. length_run (at ps) (sum_to (at cs) (0 + j)) (at cs (0 + j)))
      ∙ run-get_or 0 cs

  pub given-postings : total (λ x. x) cs ≡ length ps → joined (given_lists cs ps) ≡ ps
  unfolding given_lists
  given-postings e =
      ap joined (run_ext (given_list cs ps) (λ i. run (at ps) (0 + sum_to (at cs) i) (at cs i)) 0 0 (length cs) (λ j h. ap (λ (k : ℕ). run (at ps) k (at cs (0 + j))) (sym (zero-add (sum_to (at cs) (0 + j))))))
      ∙ joined_runs (at ps) 0 (at cs) (length cs)
      ∙ ap (λ (m : ℕ). run (at ps) 0 m) (sum-total cs ∙ e)
      ∙ run-get_or 0 ps

  pub written-volume_of : total (λ x. x) cs ≡ length ps → written cs ps ≡ volume_of (given_lists cs ps)
  unfolding volume_of
  written-volume_of e = ap₂ written (sym given-counts) (sym (given-postings e))

-- list i of lengths and join
pub given-list : (ls : List (List ℕ)) (i : ℕ) → i < length ls → given_list (map length ls) (joined ls) i ≡ get_or ls i []
unfolding joined sum_to
given-list [] i h = absurd (omega arith)
given-list (xs ∷ xss) zero h = run-front xs (joined xss)
given-list (xs ∷ xss) (suc i) h =
    ap (λ (k : ℕ). run (at (xs ++ joined xss)) k (at (map length xss) i)) (sum_cons (length xs) (map length xss) i)
    ∙ run-behind xs (joined xss) (sum_to (at (map length xss)) i) (at (map length xss) i)
    ∙ given-list xss i (omega arith)

pub given-lists : (ls : List (List ℕ)) → given_lists (map length ls) (joined ls) ≡ ls
unfolding given_lists
given-lists ls =
    ap (λ (m : ℕ). run (given_list (map length ls) (joined ls)) 0 m) (length-map ls length)
    ∙ run_ext (given_list (map length ls) (joined ls)) (λ i. get_or ls i []) 0 0 (length ls) (λ j h. given-list ls (0 + j) (omega arith))
    ∙ run-get_or [] ls

-- the lengths sum to the length of the join
pub total-lengths : (ls : List (List ℕ)) → total (λ x. x) (map length ls) ≡ total length ls
unfolding total
total-lengths [] = refl
total-lengths (xs ∷ xss) = ap (λ (n : ℕ). length xs + n) (total-lengths xss)
