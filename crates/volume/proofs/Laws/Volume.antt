-- The volume that the writer lays, and the volume that is read: round trip and rebuilding. No contract cites this file.
--     Given                         counts and postings within the limits
--     written-good, written-lists   their volume is accepted and holds the given lists
--     read-back                     an accepted volume is the volume of its lists
-- Assumes nothing.
use Prim.Native.Nat.{ℕ, zero, suc, ◌+◌, ◌-◌, ◌*◌, ◌<◌, ◌≤◌}
use native.Mathlib.Nat.{add_assoc, zero-add}
use native.Mathlib.Omega.{arith}
use mathlib.Core.Path.{◌≡◌, sym, ap, ap₂, ◌∙◌}
use mathlib.Core.Bool.{true, false}
use mathlib.Core.List.{List, [], ◌++◌, map}
use lib.ListN.{length, get_or, length-append, get_or-append, get_or-eq_default}
use mathlib.Core.Logic.{⊎_elim}
use lib.Seq.{get_or-append-add}
use Rattle.seq.proofs.Laws.Tests.{below_or}
use Rattle.seq.specs.Lists.{at, joined, rises}
use Rattle.seq.specs.Numbers.{run, sum_to}
use Rattle.seq.proofs.Laws.Numbers.{run_ext, length_run, get_or-run, sum_ext, sum-le, sum_step}
use Rattle.block.specs.Bytes.{IsBytes, IsWords}
use Rattle.volume.specs.Layout.{entry, lead, extent_of, blocks, word, list_count, count, posting_count, extent, blocks_for, start, postings_of, lists_of}
use Rattle.volume.specs.Check.{block_wrong}
use Rattle.volume.specs.Write.{stream_of, blocks_from, written, volume_of, given_list, given_lists}
use Rattle.volume.proofs.Laws.Check.{Good, list-within}
use Rattle.volume.proofs.Laws.Write.{length-blocks_from}
use Rattle.volume.proofs.Laws.Blocks.{word-is, block-right}
use Rattle.seq.proofs.Laws.Runs.{map-run, joined_runs}
use Rattle.volume.proofs.Laws.Rebuild.{rebuild, blocks_from_ext}

-- the stream of counts and postings, word by word
module _ (cs ps : List ℕ) where
  stream_at : (i : ℕ) → at (stream_of cs ps) (entry i) ≡ at (cs ++ ps) i
  stream_at i = let e : 2 + i ≡ suc (suc i) = omega arith in rw e

  stream-count : (i : ℕ) → i < length cs → at (stream_of cs ps) (entry i) ≡ at cs i
  stream-count i h = stream_at i ∙ get_or-append cs ps 0 i h

  stream_posting : (j : ℕ) → at (stream_of cs ps) (lead (length cs) + j) ≡ at ps j
  stream_posting j = ap (at (stream_of cs ps)) (add_assoc 2 (length cs) j) ∙ stream_at (length cs + j) ∙ get_or-append-add cs ps j 0

  stream-zero : (i : ℕ) → extent_of (length cs) (length ps) ≤ i → at (stream_of cs ps) i ≡ 0
  stream-zero i h = let l : length (stream_of cs ps) ≤ i = let e = length-append cs ps in omega arith in get_or-eq_default (stream_of cs ps) 0 l

  pub length-written : length (written cs ps) ≡ 512 * blocks_for (extent_of (length cs) (length ps))
  unfolding written
  length-written = length-blocks_from (at (stream_of cs ps)) 0 (blocks_for (extent_of (length cs) (length ps)))

-- counts and postings within the limits
pub record Given (cs ps : List ℕ) : Type 0 where
  pub lists-some : 1 ≤ length cs
  pub lists-most : length cs ≤ 1024
  pub sum_is : sum_to (at cs) (length cs) ≡ length ps
  pub fits : extent_of (length cs) (length ps) ≤ 1032192
  pub lists-rise : (i : ℕ) → i < length cs → rises (given_list cs ps i) ≡ true
  pub words : IsWords ps

module _ (cs ps : List ℕ) (g : Given cs ps) where
  -- the stream words in front of the zero words
  abbrev need : ℕ
  need = extent_of (length cs) (length ps)

  -- a count is at most the sum of the counts
  sum-up : (i : ℕ) → i < length cs → sum_to (at cs) i + at cs i ≤ length ps
  sum-up i h =
      let a : sum_to (at cs) (i + 1) ≡ sum_to (at cs) i + at cs i = sum_step (at cs) i in
      let e : i + 1 + (length cs - (i + 1)) ≡ length cs = omega arith in
      let b : sum_to (at cs) (i + 1) ≤ sum_to (at cs) (length cs) = rw e at (sum-le (at cs) (i + 1) (length cs - (i + 1))) in
      let c = g.sum_is in
      omega arith

  -- each stream word is a word
  small : (i : ℕ) → at (stream_of cs ps) i < 4294967296
  small zero = omega arith
  small (suc zero) = let h = g.lists-most in omega arith
  small (suc (suc i)) = ⊎_elim front behind (below_or i (length cs))
    where
      front : i < length cs → at (cs ++ ps) i < 4294967296
      front h = rw (get_or-append cs ps 0 i h) (let a = sum-up i h in let b = g.fits in omega arith)

      behind : length cs ≤ i → at (cs ++ ps) i < 4294967296
      behind h =
          let e : i ≡ length cs + (i - length cs) = omega arith in
          let a : at (cs ++ ps) (length cs + (i - length cs)) ≡ at ps (i - length cs) = get_or-append-add cs ps (i - length cs) 0 in
          let b : at (cs ++ ps) i ≡ at ps (i - length cs) = ap (at (cs ++ ps)) e ∙ a in
          let c = g.words (i - length cs) in
          omega arith

  blocks-written : blocks (written cs ps) ≡ blocks_for need
  blocks-written = let e = length-written cs ps in omega arith

  word-inside : (i : ℕ) → i < 126 * blocks_for need → word (written cs ps) i ≡ at (stream_of cs ps) i
  unfolding written
  word-inside i h = word-is (at (stream_of cs ps)) (blocks_for need) i h (small i)

  word-written : (i : ℕ) → i < need → word (written cs ps) i ≡ at (stream_of cs ps) i
  word-written i h = word-inside i (omega arith)

  block_written : (k : ℕ) → k < blocks_for need → block_wrong (written cs ps) k ≡ false
  unfolding written
  block_written k h = let f = g.fits in block-right (at (stream_of cs ps)) (blocks_for need) k h (omega arith)

  list_count-written : list_count (written cs ps) ≡ length cs
  list_count-written = let h = g.lists-some in word-written 1 (omega arith)

  count-written : (i : ℕ) → i < length cs → count (written cs ps) i ≡ at cs i
  count-written i h = word-written (entry i) (omega arith) ∙ stream-count cs ps i h

  sum-written : (i : ℕ) → i ≤ length cs → sum_to (count (written cs ps)) i ≡ sum_to (at cs) i
  sum-written i h = sum_ext (count (written cs ps)) (at cs) i (λ j l. count-written j (omega arith))

  start-written : (i : ℕ) → i ≤ length cs → start (written cs ps) i ≡ lead (length cs) + sum_to (at cs) i
  start-written i h = let a = list_count-written in let b = sum-written i h in omega arith

  extent-written : extent (written cs ps) ≡ need
  extent-written = start-written (list_count (written cs ps)) (let a = list_count-written in omega arith) ∙ ap (λ (n : ℕ). extent_of (length cs) n) (ap (sum_to (at cs)) list_count-written ∙ g.sum_is)

  postings-written : (i : ℕ) → i < length cs → postings_of (written cs ps) i ≡ given_list cs ps i
  postings-written i h =
      ap₂ (λ (k m : ℕ). run (word (written cs ps)) k m) (start-written i (omega arith)) (count-written i h)
      ∙ run_ext (word (written cs ps)) (at ps) (lead (length cs) + sum_to (at cs) i) (sum_to (at cs) i) (at cs i) word-here
    where
      word-here : (j : ℕ) → j < at cs i → word (written cs ps) (lead (length cs) + sum_to (at cs) i + j) ≡ at ps (sum_to (at cs) i + j)
      word-here j l =
          let e : lead (length cs) + sum_to (at cs) i + j ≡ lead (length cs) + (sum_to (at cs) i + j) = omega arith in
          let b = sum-up i h in
          word-written (lead (length cs) + sum_to (at cs) i + j) (omega arith) ∙ ap (at (stream_of cs ps)) e ∙ stream_posting cs ps (sum_to (at cs) i + j)

  -- the volume of counts and postings holds the given lists
  pub written-lists : lists_of (written cs ps) ≡ given_lists cs ps
  unfolding lists_of given_lists
  written-lists =
      ap (λ (n : ℕ). run (postings_of (written cs ps)) 0 n) list_count-written
      ∙ run_ext (postings_of (written cs ps)) (given_list cs ps) 0 0 (length cs) (λ j h. postings-written (0 + j) (omega arith))

  -- and is accepted
  pub written-good : Good (written cs ps)
  written-good = record {
    whole = let a = length-written cs ps in let b = blocks-written in omega arith;
    blocks-some = let b = blocks-written in omega arith;
    blocks-most = let b = blocks-written in let f = g.fits in omega arith;
    blocks-right = λ k h. block_written k (let b = blocks-written in omega arith);
    version-is = word-written 0 (omega arith);
    lists-some = let a = list_count-written in let b = g.lists-some in omega arith;
    lists-most = let a = list_count-written in let b = g.lists-most in omega arith;
    blocks_are = ap blocks_for extent-written ∙ sym blocks-written;
    fits = let a = extent-written in let b = blocks-written in omega arith;
    lists-rise = λ i h. let l : i < length cs = (let a = list_count-written in omega arith) in ap rises (postings-written i l) ∙ g.lists-rise i l;
    lists-within = list-within (written cs ps);
    zeros = zero-at;
  }
    where
      zero-at : (i : ℕ) → extent (written cs ps) ≤ i → i < 126 * blocks (written cs ps) → word (written cs ps) i ≡ 0
      zero-at i l h = let a = extent-written in let b = blocks-written in word-inside i (omega arith) ∙ stream-zero cs ps i (omega arith)

-- the counts and the postings of an accepted volume
module _ (v : List ℕ) where
  lengths-of : map length (lists_of v) ≡ run (count v) 0 (list_count v)
  unfolding lists_of
  lengths-of =
      map-run length (postings_of v) 0 (list_count v)
      ∙ run_ext (λ i. length (postings_of v i)) (count v) 0 0 (list_count v) (λ j h. length_run (word v) (start v (0 + j)) (count v (0 + j)))

  pub join-of : joined (lists_of v) ≡ run (word v) (lead (list_count v)) (posting_count v)
  unfolding lists_of
  join-of = joined_runs (word v) (lead (list_count v)) (count v) (list_count v)

  pub length-lists_of : length (lists_of v) ≡ list_count v
  unfolding lists_of
  length-lists_of = length_run (postings_of v) 0 (list_count v)

  pub list-of : (i : ℕ) → i < list_count v → get_or (lists_of v) i [] ≡ postings_of v i
  unfolding lists_of
  list-of i h = get_or-run (postings_of v) 0 (list_count v) i [] h ∙ ap (postings_of v) (zero-add i)

  -- the stream, by the counts and the postings
  stream-of : Good v → (j : ℕ) → j < 126 * blocks v → at (stream_of (run (count v) 0 (list_count v)) (run (word v) (lead (list_count v)) (posting_count v))) j ≡ word v j
  stream-of g zero h = sym g.version-is
  stream-of g (suc zero) h = length_run (count v) 0 (list_count v)
  stream-of g (suc (suc i)) h = ⊎_elim front (λ l. ⊎_elim (middle l) behind (below_or i (list_count v + posting_count v))) (below_or i (list_count v))
    where
      cs : List ℕ
      cs = run (count v) 0 (list_count v)

      ps : List ℕ
      ps = run (word v) (lead (list_count v)) (posting_count v)

      lc : length cs ≡ list_count v
      lc = length_run (count v) 0 (list_count v)

      lp : length ps ≡ posting_count v
      lp = length_run (word v) (lead (list_count v)) (posting_count v)

      front : i < list_count v → at (cs ++ ps) i ≡ word v (suc (suc i))
      front l =
          let e : 2 + (0 + i) ≡ suc (suc i) = omega arith in
          get_or-append cs ps 0 i (let a = lc in omega arith) ∙ get_or-run (count v) 0 (list_count v) i 0 l ∙ ap (word v) e

      middle : list_count v ≤ i → i < list_count v + posting_count v → at (cs ++ ps) i ≡ word v (suc (suc i))
      middle l m =
          let e : i ≡ length cs + (i - list_count v) = (let a = lc in omega arith) in
          let f : lead (list_count v) + (i - list_count v) ≡ suc (suc i) = omega arith in
          ap (at (cs ++ ps)) e ∙ get_or-append-add cs ps (i - list_count v) 0 ∙ get_or-run (word v) (lead (list_count v)) (posting_count v) (i - list_count v) 0 (omega arith) ∙ ap (word v) f

      behind : list_count v + posting_count v ≤ i → at (cs ++ ps) i ≡ word v (suc (suc i))
      behind l =
          let m : length (cs ++ ps) ≤ i = (let a = lc in let b = lp in let c = length-append cs ps in omega arith) in
          get_or-eq_default (cs ++ ps) 0 m ∙ sym (g.zeros (suc (suc i)) (omega arith) h)

  -- an accepted volume is the volume of its lists
  pub read_back : IsBytes v → Good v → v ≡ volume_of (lists_of v)
  unfolding volume_of written
  read_back bytes g =
      let n : blocks_for (extent_of (length (run (count v) 0 (list_count v))) (length (run (word v) (lead (list_count v)) (posting_count v)))) ≡ blocks v
      = ap₂ (λ (a b : ℕ). blocks_for (extent_of a b)) (length_run (count v) 0 (list_count v)) (length_run (word v) (lead (list_count v)) (posting_count v)) ∙ g.blocks_are in
      rebuild v bytes (blocks v) g.whole g.blocks-right
      ∙ blocks_from_ext (word v) (at (stream_of (run (count v) 0 (list_count v)) (run (word v) (lead (list_count v)) (posting_count v)))) 0 (blocks v) (λ j a h. sym (stream-of g j (omega arith)))
      ∙ ap (blocks_from (at (stream_of (run (count v) 0 (list_count v)) (run (word v) (lead (list_count v)) (posting_count v)))) 0) (sym n)
      ∙ ap₂ written (sym lengths-of) (sym join-of)
