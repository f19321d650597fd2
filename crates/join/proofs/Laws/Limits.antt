-- Joined lists and the writer's tests. No contract cites this file.
--     length-counts               as many counts as lists
--     length-volume               the size of the volume of the joined lists
--     ordered                     where no document clashes, none of 5, 18 and 7 applies to the joined lists
--     write_rungs                 so only 19 and 20 are left of the writer's answer
--     within                      where 19 does not apply either, they are within the limits
-- Assumes nothing.
use Prim.Native.Nat.{ℕ, zero, suc, ◌+◌, ◌*◌, ◌<◌, ◌≤◌}
use native.Mathlib.Omega.{arith}
use mathlib.Core.Path.{◌≡◌, refl, sym, ap, ap₂, ◌∙◌, subst}
use mathlib.Core.Bool.{true, false, cond}
use mathlib.Core.Logic.{⊎_elim}
use mathlib.Core.List.{List, [], ◌∷◌, ◌++◌, map}
use lib.ListN.{length, get_or, length-map, get_or-eq_default}
use lib.Dec.{ltb}
use Rattle.seq.specs.Lists.{at, joined, rises, Rising}
use Rattle.seq.specs.Numbers.{run, sum_to}
use Rattle.seq.specs.Refusals.{refused, answered}
use Rattle.seq.proofs.Laws.Tests.{below_or}
use Rattle.seq.proofs.Laws.Numbers.{length_run}
use Rattle.seq.proofs.Laws.Lists.{length-joined}
use Rattle.seq.proofs.Laws.Decides.{holds, fails}
use Rattle.seq.proofs.Laws.Rising.{rises_decides, rising_append}
use Rattle.seq.proofs.Laws.Runs.{first_past, map-run, sum-total}
use Rattle.block.specs.Bytes.{IsBytes, IsWords}
use Rattle.volume.specs.Posting.{doc_of}
use Rattle.volume.specs.Layout.{list_count, count, word, blocks_for, extent_of, start, postings_of, lists_of}
use Rattle.volume.specs.Check.{Accepted}
use Rattle.volume.specs.Write.{volume_of, given_wrong, counts_wrong, sum_wrong, given_lists_wrong, too_large, short_output, write_answer}
use Rattle.volume.specs.Demands.{Within}
use Rattle.volume.proofs.Laws.Check.{good}
use Rattle.volume.proofs.Laws.Lists.{given-list, total-lengths}
use Rattle.volume.proofs.Laws.Volume.{length-written, length-lists_of, list-of}
use Rattle.volume.proofs.Laws.Within.{words_append, good-within}
use Rattle.volume.proofs.Laws.WriteAnswer.{Ordered, counts_wrong_decides, sum_wrong_decides, given_lists_wrong-false}
use Rattle.join.specs.Joined.{raised, joined_by}
use Rattle.join.specs.Join.{docs_wrong, lists_of_both}
use Rattle.join.specs.Refusals.{HasDoc, extent_of_both}
use Rattle.join.proofs.Laws.Joined.{length-lists, list-is, length_both}
use Rattle.join.proofs.Laws.Docs.{docs-passes, docs-above}

-- element j of a mapped list
get_d_map : (f : ℕ → ℕ) (xs : List ℕ) (j : ℕ) → j < length xs → get_or (map f xs) j 0 ≡ f (get_or xs j 0)
get_d_map f [] j h = absurd (omega arith)
get_d_map f (x ∷ xs) zero h = refl
get_d_map f (x ∷ xs) (suc j) h = get_d_map f xs j (omega arith)

rising-raised : (h : ℕ) (xs : List ℕ) → Rising xs → Rising (map (raised h) xs)
rising-raised h xs r j k =
    let n = length-map xs (raised h) in
    let a = get_d_map (raised h) xs j (omega arith) in
    let b = get_d_map (raised h) xs (j + 1) (omega arith) in
    let u = r j (omega arith) in
    rw (a, b) (omega arith)

module _ (f : ℕ → ℕ) (v w : List ℕ) (same : list_count w ≡ list_count v) where
  -- list i of the joined lists
  list_at : (i : ℕ) → i < list_count v → get_or (joined_by f (lists_of v) (lists_of w)) i [] ≡ postings_of v i ++ map f (postings_of w i)
  list_at i h = list-is f v w same i h ∙ ap (λ (xs : List ℕ). postings_of v i ++ xs) (sym (map-run f (word w) (start w i) (count w i)))

  -- as many counts as lists
  pub length-counts : length (map length (joined_by f (lists_of v) (lists_of w))) ≡ list_count v
  length-counts = length-map (joined_by f (lists_of v) (lists_of w)) length ∙ length-lists f v w same

  -- the size of their volume
  pub length-volume : length (volume_of (joined_by f (lists_of v) (lists_of w))) ≡ 512 * blocks_for (extent_of_both v w)
  unfolding volume_of
  length-volume =
      length-written (map length (joined_by f (lists_of v) (lists_of w))) (joined (joined_by f (lists_of v) (lists_of w)))
      ∙ ap₂ (λ (a b : ℕ). 512 * blocks_for (extent_of a b)) length-counts (length_both f v w same)

module _ (h : ℕ) (v w : List ℕ) (a : Accepted v) (b : Accepted w) (same : list_count w ≡ list_count v) (right : docs_wrong h v w ≡ false) where
  -- a posting of the first is below one of the second, raised
  low : (l : ℕ) → l < list_count v → (i j : ℕ) → i < length (postings_of v l) → j < length (map (raised h) (postings_of w l))
      → get_or (postings_of v l) i 0 < get_or (map (raised h) (postings_of w l)) j 0
  low l k i j p q =
      let m = length_run (word v) (start v l) (count v l) in
      let n = length_run (word w) (start w l) (count w l) in
      let o = length-map (postings_of w l) (raised h) in
      let c : HasDoc v (doc_of (at (postings_of v l) i)) = record { list = l; inside = k; index = i; below = omega arith; is = refl } in
      let d : HasDoc w (doc_of (at (postings_of w l) j)) = record { list = l; inside = omega arith; index = j; below = omega arith; is = refl } in
      let u = docs-above h v w right _ _ c d in
      let e = get_d_map (raised h) (postings_of w l) j (omega arith) in
      rw e (omega arith)

  -- each of the joined lists rises
  rising : (i : ℕ) → i < list_count v → Rising (get_or (lists_of_both h v w) i [])
  rising i k =
      let x = (rises_decides (postings_of v i)).yes ((good v a).lists-rise i k) in
      let y = (rises_decides (postings_of w i)).yes ((good w b).lists-rise i (omega arith)) in
      subst Rising (sym (list_at (raised h) v w same i k)) (rising_append (postings_of v i) (map (raised h) (postings_of w i)) x (rising-raised h (postings_of w i) y) (low i k))

  abbrev counts : List ℕ
  counts = map length (lists_of_both h v w)

  abbrev postings : List ℕ
  postings = joined (lists_of_both h v w)

  -- none of 5, 18 and 7 applies
  pub ordered : Ordered counts postings
  unfolding given_wrong
  ordered = record {
    few = let n = length-counts (raised h) v w same in let m = (good v a).lists-some in omega arith;
    many = let n = length-counts (raised h) v w same in let m = (good v a).lists-most in omega arith;
    sum = sum-total counts ∙ total-lengths (lists_of_both h v w) ∙ sym (length-joined (lists_of_both h v w));
    order = first_past (given_wrong counts postings) (length counts) (λ i k. rw (rise i k));
  }
    where
      rise : (i : ℕ) → i < length counts → rises (run (at postings) (sum_to (at counts) i) (at counts i)) ≡ true
      rise i k =
          let n = length-counts (raised h) v w same in
          let m = length-lists (raised h) v w same in
          ap rises (given-list (lists_of_both h v w) i (omega arith)) ∙ holds (rises_decides (get_or (lists_of_both h v w) i [])) (rising i (omega arith))

  -- so only 19 and 20 are left
  pub write_rungs : (room : ℕ) → write_answer counts postings room
      ≡ cond (ltb 1032192 (extent_of_both v w)) (refused 19 0) (cond (ltb room (512 * blocks_for (extent_of_both v w))) (refused 20 0) (answered (blocks_for (extent_of_both v w))))
  unfolding write_answer too_large short_output
  write_rungs room = rw (five, eighteen, seven, length-counts (raised h) v w same, length_both (raised h) v w same)
    where
      five : counts_wrong counts ≡ false
      five = fails (counts_wrong_decides counts postings) (⊎_elim (λ (x : length counts < 1). let y = ordered.few in omega arith) (λ (x : 1024 < length counts). let y = ordered.many in omega arith))

      eighteen : sum_wrong counts postings ≡ false
      eighteen = fails (sum_wrong_decides counts postings) (λ n. n (sym (sum-total counts) ∙ ordered.sum))

      seven : given_lists_wrong counts postings ≡ false
      seven = given_lists_wrong-false counts postings ordered.order

  -- raised postings of the second are words
  words-raised : IsBytes w → (i : ℕ) → i < list_count v → IsWords (map (raised h) (postings_of w i))
  words-raised bw i k j =
      let n = length_run (word w) (start w i) (count w i) in
      let o = length-map (postings_of w i) (raised h) in
      ⊎_elim inside
      (λ (l : length (postings_of w i) ≤ j). let m : length (map (raised h) (postings_of w i)) ≤ j = omega arith in rw (get_or-eq_default (map (raised h) (postings_of w i)) 0 m) (omega arith))
      (below_or j (length (postings_of w i)))
    where
      inside : j < length (postings_of w i) → get_or (map (raised h) (postings_of w i)) j 0 < 4294967296
      inside l =
          let n = length_run (word w) (start w i) (count w i) in
          let d : HasDoc w (doc_of (at (postings_of w i) j)) = record { list = i; inside = omega arith; index = j; below = omega arith; is = refl } in
          let u = docs-passes h v w right _ d in
          rw (get_d_map (raised h) (postings_of w i) j l) (omega arith)

  -- within the limits
  pub within : IsBytes v → IsBytes w → extent_of_both v w ≤ 1032192 → Within (lists_of_both h v w)
  within bv bw fits = record {
    some = let n = length-lists (raised h) v w same in let m = (good v a).lists-some in omega arith;
    most = let n = length-lists (raised h) v w same in let m = (good v a).lists-most in omega arith;
    rising = λ i k. rising i (let n = length-lists (raised h) v w same in omega arith);
    words = λ i k. words i (let n = length-lists (raised h) v w same in omega arith);
    fits = let n = length-lists (raised h) v w same in let m = length-joined (lists_of_both h v w) in let o = length_both (raised h) v w same in omega arith;
  }
    where
      words : (i : ℕ) → i < list_count v → IsWords (get_or (lists_of_both h v w) i [])
      words i k =
          let x : IsWords (postings_of v i) = subst IsWords (list-of v i k) ((good-within v bv (good v a)).words i (let n = length-lists_of v in omega arith)) in
          subst IsWords (sym (list_at (raised h) v w same i k)) (words_append (postings_of v i) (map (raised h) (postings_of w i)) x (words-raised bw i k))
