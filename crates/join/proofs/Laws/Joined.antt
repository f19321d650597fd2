-- The joined lists of two volumes of as many lists, whatever is done to the second's postings. No contract cites this file.
--     length-lists           they are as many as the first's
--     list-is                list i is the first's, then the second's
--     lengths, length-of     the length of each is the sum of both
--     start-both             as many postings stand in front of list i as in both volumes together
--     length_both            and so in all
--     element-is             where posting k of list i stands in the joined lists, back to back
-- Assumes nothing.
use Prim.Native.Nat.{ℕ, ◌+◌, ◌<◌, ◌≤◌}
use native.Mathlib.Nat.{zero-add}
use native.Mathlib.Omega.{arith}
use mathlib.Core.Path.{◌≡◌, sym, ap, ap₂, ◌∙◌}
use mathlib.Core.List.{List, [], ◌++◌, map}
use lib.ListN.{length, get_or, length-append, length-map}
use Rattle.seq.specs.Lists.{at, joined}
use Rattle.seq.specs.Numbers.{run, sum_to}
use Rattle.seq.proofs.Laws.Lists.{length-joined}
use Rattle.seq.proofs.Laws.Numbers.{run_ext, length_run, get_or-run, sum_ext, sum_add}
use Rattle.seq.proofs.Laws.Runs.{map-run, run-get_or, sum-total}
use Rattle.volume.specs.Layout.{word, list_count, count, posting_count, start, postings_of, lists_of}
use Rattle.volume.proofs.Laws.Lists.{given-list, total-lengths}
use Rattle.volume.proofs.Laws.Volume.{length-lists_of, list-of}
use Rattle.join.specs.Joined.{joined_at, joined_by}

module _ (f : ℕ → ℕ) (v w : List ℕ) (same : list_count w ≡ list_count v) where
  abbrev lists : List (List ℕ)
  lists = joined_by f (lists_of v) (lists_of w)

  pub length-lists : length lists ≡ list_count v
  unfolding joined_by
  length-lists = length_run (joined_at f (lists_of v) (lists_of w)) 0 (length (lists_of v)) ∙ length-lists_of v

  pub list-is : (i : ℕ) → i < list_count v → get_or lists i [] ≡ postings_of v i ++ run (λ j. f (word w j)) (start w i) (count w i)
  unfolding joined_by
  list-is i h =
      let n = length-lists_of v in
      get_or-run (joined_at f (lists_of v) (lists_of w)) 0 (length (lists_of v)) i [] (omega arith)
      ∙ ap (joined_at f (lists_of v) (lists_of w)) (zero-add i)
      ∙ ap₂ (λ (a b : List ℕ). a ++ map f b) (list-of v i h) (list-of w i (omega arith))
      ∙ ap (λ (l : List ℕ). postings_of v i ++ l) (map-run f (word w) (start w i) (count w i))

  length_at : (i : ℕ) → i < list_count v → length (get_or lists i []) ≡ count v i + count w i
  length_at i h =
      ap length (list-is i h)
      ∙ length-append (postings_of v i) _
      ∙ ap₂ (λ (a b : ℕ). a + b) (length_run (word v) (start v i) (count v i)) (length_run (λ j. f (word w j)) (start w i) (count w i))

  pub lengths : map length lists ≡ run (λ i. count v i + count w i) 0 (list_count v)
  lengths =
      ap (map length) (sym (run-get_or [] lists) ∙ ap (run (λ i. get_or lists i []) 0) length-lists)
      ∙ map-run length (λ i. get_or lists i []) 0 (list_count v)
      ∙ run_ext (λ i. length (get_or lists i [])) (λ i. count v i + count w i) 0 0 (list_count v) (λ j h. length_at (0 + j) (omega arith))

  pub length-of : (i : ℕ) → i < list_count v → at (map length lists) i ≡ count v i + count w i
  length-of i h =
      ap (λ (l : List ℕ). at l i) lengths
      ∙ get_or-run (λ j. count v j + count w j) 0 (list_count v) i 0 h
      ∙ ap (λ (j : ℕ). count v j + count w j) (zero-add i)

  pub start-both : (i : ℕ) → i ≤ list_count v → sum_to (at (map length lists)) i ≡ sum_to (count v) i + sum_to (count w) i
  start-both i h =
      sum_ext (at (map length lists)) (λ j. count v j + count w j) i (λ j l. length-of j (omega arith))
      ∙ sum_add (count v) (count w) i

  pub length_both : length (joined lists) ≡ posting_count v + posting_count w
  length_both =
      length-joined lists
      ∙ sym (total-lengths lists)
      ∙ sym (sum-total (map length lists))
      ∙ ap (sum_to (at (map length lists))) (length-map lists length ∙ length-lists)
      ∙ start-both (list_count v) (omega arith)
      ∙ ap (λ (n : ℕ). posting_count v + sum_to (count w) n) (sym same)

  pub element-is : (i k : ℕ) → i < list_count v → k < count v i + count w i
      → at (joined lists) (sum_to (count v) i + sum_to (count w) i + k) ≡ at (get_or lists i []) k
  element-is i k h l =
      let e = length-of i h in
      let n = length-lists in
      ap (λ (s : ℕ). at (joined lists) (s + k)) (sym (start-both i (omega arith)))
      ∙ sym (get_or-run (at (joined lists)) (sum_to (at (map length lists)) i) (at (map length lists) i) k 0 (omega arith))
      ∙ ap (λ (xs : List ℕ). at xs k) (given-list lists i (omega arith))
