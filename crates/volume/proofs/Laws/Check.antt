-- The laws of `specs/Check.antt`: the rungs of the verdict, from the tests to the answer. No contract cites this file.
--     stream-version .. stream-answer     stream_verdict by its first test that fails
--     verdict-length .. verdict_stream    verdict by its first test that fails
--     length_wrong_decides .. padding_wrong_decides    what each test decides
--     RightLength, length_right           what a length that is not wrong is
--     Right, right, right-passes          what a block that is not wrong holds, and back
--     blocks-clear .. tail-found          the tests of several places
--     Good, good, accepted                what acceptance gives, and back
-- Assumes nothing.
use Prim.Native.Nat.{ℕ, ◌+◌, ◌-◌, ◌*◌, ◌%◌, ◌<◌, ◌≤◌}
use native.Mathlib.Omega.{arith}
use mathlib.Core.Path.{◌≡◌, refl, sym, ◌∙◌}
use mathlib.Core.Bool.{Bool, true, false, not, cond, ◌&&◌}
use mathlib.Core.Logic.{◌⊎◌, inl, inr, ⊎_elim, ◌≢◌}
use mathlib.Core.List.{List}
use lib.ListN.{length}
use lib.Dec.{eqb, leb}
use borrow.Author.Tests.{lt-ltb, le-ltb, not-false}
use Rattle.seq.specs.Lists.{rises, NotRising}
use Rattle.seq.specs.Numbers.{first_from}
use Rattle.seq.proofs.Laws.Numbers.{first-none, first_ge, search-found, search-clear, sum-within}
use Rattle.seq.proofs.Laws.Refusals.{not-both, past}
use Rattle.seq.specs.Refusals.{Said, refused, answered}
use Rattle.volume.specs.Answers.{Sizes}
use Rattle.block.specs.Checksum.{check_a, check_b}
use Rattle.volume.specs.Layout.{blocks, block_number, covered, stored_a, stored_b, word, version, list_count, count, extent, blocks_for, start, postings_of}
use Rattle.volume.specs.Check.{length_wrong, number_wrong, checksum_wrong, block_wrong, bad_block, blocks_wrong, version_wrong, list_count_wrong, extent_wrong, order_wrong, bad_list, lists_wrong, padding_wrong, bad_word, tail_wrong, sizes, stream_verdict, verdict, Accepted}
use Rattle.volume.specs.Refusals.{LeastBlocks}
use Rattle.seq.proofs.Laws.Tests.{neither}
use Rattle.seq.proofs.Laws.Decides.{Decides, stable, fails, not_decides, eqb_decides, leb_decides, ltb_decides, or_decides, nand_decides, same_decides}
use Rattle.seq.proofs.Laws.Rising.{falls_decides}
use Rattle.seq.proofs.Laws.Runs.{first_past}

-- the tests of several places, by the place at which the search for them ends
module _ (v : List ℕ) where
  pub blocks_wrong-true : bad_block v < blocks v → blocks_wrong v ≡ true
  unfolding blocks_wrong
  blocks_wrong-true h = lt-ltb (bad_block v) (blocks v) h

  pub blocks_wrong-false : blocks v ≤ bad_block v → blocks_wrong v ≡ false
  unfolding blocks_wrong
  blocks_wrong-false h = le-ltb (bad_block v) (blocks v) h

  pub lists_wrong-true : bad_list v < list_count v → lists_wrong v ≡ true
  unfolding lists_wrong
  lists_wrong-true h = lt-ltb (bad_list v) (list_count v) h

  pub lists_wrong-false : list_count v ≤ bad_list v → lists_wrong v ≡ false
  unfolding lists_wrong
  lists_wrong-false h = le-ltb (bad_list v) (list_count v) h

  pub tail_wrong-true : bad_word v < 126 * blocks v → tail_wrong v ≡ true
  unfolding tail_wrong
  tail_wrong-true h = lt-ltb (bad_word v) (126 * blocks v) h

  pub tail_wrong-false : 126 * blocks v ≤ bad_word v → tail_wrong v ≡ false
  unfolding tail_wrong
  tail_wrong-false h = le-ltb (bad_word v) (126 * blocks v) h

-- the stream's verdict, from the first rung down
module _ (v : List ℕ) where
  pub stream-version : version_wrong v ≡ true → stream_verdict v ≡ refused 4 0
  unfolding stream_verdict
  stream-version e4 = rw e4

  pub stream-list_count : version_wrong v ≡ false → list_count_wrong v ≡ true → stream_verdict v ≡ refused 5 0
  unfolding stream_verdict
  stream-list_count e4 e5 = rw (e4, e5)

  pub stream-extent : version_wrong v ≡ false → list_count_wrong v ≡ false → extent_wrong v ≡ true → stream_verdict v ≡ refused 6 0
  unfolding stream_verdict
  stream-extent e4 e5 e6 = rw (e4, e5, e6)

  pub stream-order : version_wrong v ≡ false → list_count_wrong v ≡ false → extent_wrong v ≡ false → lists_wrong v ≡ true → stream_verdict v ≡ refused 7 (bad_list v)
  unfolding stream_verdict
  stream-order e4 e5 e6 e7 = rw (e4, e5, e6, e7)

  pub stream_padding : version_wrong v ≡ false → list_count_wrong v ≡ false → extent_wrong v ≡ false → lists_wrong v ≡ false → tail_wrong v ≡ true → stream_verdict v ≡ refused 8 (bad_word v)
  unfolding stream_verdict
  stream_padding e4 e5 e6 e7 e8 = rw (e4, e5, e6, e7, e8)

  pub stream-answer : version_wrong v ≡ false → list_count_wrong v ≡ false → extent_wrong v ≡ false → lists_wrong v ≡ false → tail_wrong v ≡ false → stream_verdict v ≡ answered (sizes v)
  unfolding stream_verdict
  stream-answer e4 e5 e6 e7 e8 = rw (e4, e5, e6, e7, e8)

-- the volume's verdict
module _ (v : List ℕ) where
  pub verdict-length : length_wrong v ≡ true → verdict v ≡ refused 1 0
  unfolding verdict
  verdict-length e1 = rw e1

  pub verdict-number : length_wrong v ≡ false → blocks_wrong v ≡ true → number_wrong v (bad_block v) ≡ true → verdict v ≡ refused 2 (bad_block v)
  unfolding verdict
  verdict-number e1 b e2 = rw (e1, b, e2)

  pub verdict_checksum : length_wrong v ≡ false → blocks_wrong v ≡ true → number_wrong v (bad_block v) ≡ false → verdict v ≡ refused 3 (bad_block v)
  unfolding verdict
  verdict_checksum e1 b e2 = rw (e1, b, e2)

  pub verdict_stream : length_wrong v ≡ false → blocks_wrong v ≡ false → verdict v ≡ stream_verdict v
  unfolding verdict
  verdict_stream e1 b = rw (e1, b)

-- a number of lists or of counts outside 1 to 1,024
pub range_decides : (n : ℕ) → Decides (not (leb 1 n && leb n 1024)) ((n < 1) ⊎ (1024 < n))
range_decides n = same_decides (nand_decides (leb_decides 1 n) (leb_decides n 1024)) out back
  where
    out : ((1 ≤ n → ⊥) ⊎ (n ≤ 1024 → ⊥)) → (n < 1) ⊎ (1024 < n)
    out w = ⊎_elim (λ (h : 1 ≤ n → ⊥). inl (omega arith)) (λ (h : n ≤ 1024 → ⊥). inr (omega arith)) w

    back : (n < 1) ⊎ (1024 < n) → (1 ≤ n → ⊥) ⊎ (n ≤ 1024 → ⊥)
    back w = ⊎_elim (λ (h : n < 1). inl (omega arith)) (λ (h : 1024 < n). inr (omega arith)) w

pub least-blocks_for : (w : ℕ) → LeastBlocks w (blocks_for w)
least-blocks_for w = record { enough = omega arith; least = λ m h. omega arith }

-- there is one least number of blocks
pub blocks_for-least : (w n : ℕ) → LeastBlocks w n → blocks_for w ≡ n
blocks_for-least w n l = let a = l.least (blocks_for w) (least-blocks_for w).enough in let b = l.enough in omega arith

least_decides : (w n : ℕ) → Decides (eqb (blocks_for w) n) (LeastBlocks w n)
least_decides w n = same_decides (eqb_decides (blocks_for w) n) (λ (e : blocks_for w ≡ n). rw e at (least-blocks_for w)) (blocks_for-least w n)

-- what each test decides
module _ (v : List ℕ) where
  pub length_wrong_decides : Decides (length_wrong v) ((length v ≡ 0) ⊎ ((length v % 512 ≢ 0) ⊎ (8192 < blocks v)))
  unfolding length_wrong
  length_wrong_decides = or_decides (eqb_decides (length v) 0) (or_decides (not_decides (eqb_decides (length v % 512) 0)) (ltb_decides 8192 (blocks v)))

  pub number_wrong_decides : (k : ℕ) → Decides (number_wrong v k) (block_number v k ≢ k)
  unfolding number_wrong
  number_wrong_decides k = not_decides (eqb_decides (block_number v k) k)

  pub checksum_wrong_decides : (k : ℕ) → Decides (checksum_wrong v k) ((stored_a v k ≢ check_a (covered v k)) ⊎ (stored_b v k ≢ check_b (covered v k)))
  unfolding checksum_wrong
  checksum_wrong_decides k = nand_decides (eqb_decides (stored_a v k) (check_a (covered v k))) (eqb_decides (stored_b v k) (check_b (covered v k)))

  pub version_wrong_decides : Decides (version_wrong v) (version v ≢ 1)
  unfolding version_wrong
  version_wrong_decides = not_decides (eqb_decides (version v) 1)

  pub list_count_wrong_decides : Decides (list_count_wrong v) ((list_count v < 1) ⊎ (1024 < list_count v))
  unfolding list_count_wrong
  list_count_wrong_decides = range_decides (list_count v)

  pub extent_wrong_decides : Decides (extent_wrong v) (LeastBlocks (extent v) (blocks v) → ⊥)
  unfolding extent_wrong
  extent_wrong_decides = not_decides (least_decides (extent v) (blocks v))

  pub order_wrong_decides : (i : ℕ) → Decides (order_wrong v i) (NotRising (postings_of v i))
  unfolding order_wrong
  order_wrong_decides i = falls_decides (postings_of v i)

  pub padding_wrong_decides : (i : ℕ) → Decides (padding_wrong v i) (word v i ≢ 0)
  unfolding padding_wrong
  padding_wrong_decides i = not_decides (eqb_decides (word v i) 0)

-- what a length that is not wrong is
pub record RightLength (v : List ℕ) : Type 0 where
  pub whole : length v ≡ 512 * blocks v
  pub some : 1 ≤ blocks v
  pub most : blocks v ≤ 8192

pub length_right : (v : List ℕ) → length_wrong v ≡ false → RightLength v
length_right v e = record { whole = let m = rest in omega arith; some = let m = rest in let z = some in omega arith; most = most }
  where
    none : (length v ≡ 0) ⊎ ((length v % 512 ≢ 0) ⊎ (8192 < blocks v)) → ⊥
    none = (length_wrong_decides v).no e

    some : length v ≢ 0
    some q = none (inl q)

    rest : length v % 512 ≡ 0
    rest = stable (eqb_decides (length v % 512) 0) (λ n. none (inr (inl n)))

    most : blocks v ≤ 8192
    most = let n : 8192 < blocks v → ⊥ = λ h. none (inr (inr h)) in omega arith

-- what a block that is not wrong holds
pub record Right (v : List ℕ) (k : ℕ) : Type 0 where
  pub number-right : block_number v k ≡ k
  pub check_a-right : stored_a v k ≡ check_a (covered v k)
  pub check_b-right : stored_b v k ≡ check_b (covered v k)

module _ (v : List ℕ) (k : ℕ) where
  pub right : block_wrong v k ≡ false → Right v k
  unfolding block_wrong
  right e = record {
    number-right = stable (eqb_decides (block_number v k) k) ((number_wrong_decides v k).no w.0);
    check_a-right = stable (eqb_decides (stored_a v k) (check_a (covered v k))) (λ n. (checksum_wrong_decides v k).no w.1 (inl n));
    check_b-right = stable (eqb_decides (stored_b v k) (check_b (covered v k))) (λ n. (checksum_wrong_decides v k).no w.1 (inr n));
  }
    where
      w : (number_wrong v k ≡ false) × (checksum_wrong v k ≡ false)
      w = neither (number_wrong v k) (checksum_wrong v k) e

  pub right-passes : Right v k → block_wrong v k ≡ false
  unfolding block_wrong
  right-passes r =
      let a = fails (number_wrong_decides v k) (λ n. n r.number-right) in
      let b = fails (checksum_wrong_decides v k) (⊎_elim (λ n. n r.check_a-right) (λ n. n r.check_b-right)) in
      rw (a, b)

-- no test of the verdict is met
pub record Passed (v : List ℕ) : Type 0 where
  pub length-passed : length_wrong v ≡ false
  pub blocks-passed : blocks_wrong v ≡ false
  pub version-passed : version_wrong v ≡ false
  pub list_count-passed : list_count_wrong v ≡ false
  pub extent-passed : extent_wrong v ≡ false
  pub lists-passed : lists_wrong v ≡ false
  pub tail-passed : tail_wrong v ≡ false

module _ (v : List ℕ) where
  past-blocks : (s : Sizes) → cond (blocks_wrong v) (cond (number_wrong v (bad_block v)) (refused 2 (bad_block v)) (refused 3 (bad_block v))) (stream_verdict v) ≡ answered s → (blocks_wrong v ≡ false) × (stream_verdict v ≡ answered s)
  past-blocks s e = go (blocks_wrong v) (number_wrong v (bad_block v)) (bad_block v) (stream_verdict v) e
    where
      go : (b t : Bool) (k : ℕ) (rest : Said Sizes) → cond b (cond t (refused 2 k) (refused 3 k)) rest ≡ answered s → (b ≡ false) × (rest ≡ answered s)
      go true true k rest q = absurd (not-both (refused 2 k) s 2 k q refl)
      go true false k rest q = absurd (not-both (refused 3 k) s 3 k q refl)
      go false t k rest q = (refl, q)

  passed_by : (s : Sizes) → verdict v ≡ answered s → Passed v
  unfolding verdict stream_verdict
  passed_by s e =
      let e1 = past (length_wrong v) 1 0 _ s e in
      let e2 = past-blocks s e1.1 in
      let e4 = past (version_wrong v) 4 0 _ s e2.1 in
      let e5 = past (list_count_wrong v) 5 0 _ s e4.1 in
      let e6 = past (extent_wrong v) 6 0 _ s e5.1 in
      let e7 = past (lists_wrong v) 7 (bad_list v) _ s e6.1 in
      let e8 = past (tail_wrong v) 8 (bad_word v) _ s e7.1 in
      record { length-passed = e1.0; blocks-passed = e2.0; version-passed = e4.0; list_count-passed = e5.0; extent-passed = e6.0; lists-passed = e7.0; tail-passed = e8.0 }

  pub passed : Accepted v → Passed v
  passed e = passed_by (sizes v) e

  passed-accepted : Passed v → Accepted v
  passed-accepted p = verdict_stream v p.length-passed p.blocks-passed ∙ stream-answer v p.version-passed p.list_count-passed p.extent-passed p.lists-passed p.tail-passed

-- whatever sizes are told are those of the volume
module _ (v : List ℕ) (s : Sizes) (e : verdict v ≡ answered s) where
  pub accepted_by : Accepted v
  accepted_by = passed-accepted v (passed_by v s e)

  pub sizes_are : s ≡ sizes v
  sizes_are = let q : answered s ≡ answered (sizes v) = sym e ∙ accepted_by in cc

-- what acceptance gives
pub record Good (v : List ℕ) : Type 0 where
  -- whole blocks, 1 to 8,192
  pub whole : length v ≡ 512 * blocks v
  pub blocks-some : 1 ≤ blocks v
  pub blocks-most : blocks v ≤ 8192
  -- each block has its number and its checksum
  pub blocks-right : (k : ℕ) → k < blocks v → block_wrong v k ≡ false
  pub version-is : version v ≡ 1
  pub lists-some : 1 ≤ list_count v
  pub lists-most : list_count v ≤ 1024
  -- the blocks are as many as the counts and the lists need
  pub blocks_are : blocks_for (extent v) ≡ blocks v
  pub fits : extent v ≤ 126 * blocks v
  -- each list rises, lies in front of the extent, and behind it stand zeros
  pub lists-rise : (i : ℕ) → i < list_count v → rises (postings_of v i) ≡ true
  pub lists-within : (i : ℕ) → i < list_count v → start v i + count v i ≤ extent v
  pub zeros : (i : ℕ) → extent v ≤ i → i < 126 * blocks v → word v i ≡ 0

module _ (v : List ℕ) where
  -- list i ends in front of the extent, in any byte list
  pub list-within : (i : ℕ) → i < list_count v → start v i + count v i ≤ extent v
  list-within i h = let w = sum-within (count v) i (list_count v) h in omega arith

  -- where the test of several places fails no place is wrong; where it holds the place that is told is
  pub blocks-clear : blocks_wrong v ≡ false → (k : ℕ) → k < blocks v → block_wrong v k ≡ false
  unfolding blocks_wrong
  blocks-clear e k h = search-clear (block_wrong v) 0 (blocks v) (blocks v) e k (omega arith) h

  pub blocks-found : blocks_wrong v ≡ true → (bad_block v < blocks v) × (block_wrong v (bad_block v) ≡ true)
  unfolding blocks_wrong
  blocks-found e = search-found (block_wrong v) 0 (blocks v) (blocks v) (omega arith) e

  pub lists-clear : lists_wrong v ≡ false → (i : ℕ) → i < list_count v → order_wrong v i ≡ false
  unfolding lists_wrong
  lists-clear e i h = search-clear (order_wrong v) 0 (list_count v) (list_count v) e i (omega arith) h

  pub lists-found : lists_wrong v ≡ true → (bad_list v < list_count v) × (order_wrong v (bad_list v) ≡ true)
  unfolding lists_wrong
  lists-found e = search-found (order_wrong v) 0 (list_count v) (list_count v) (omega arith) e

  pub tail-clear : tail_wrong v ≡ false → (i : ℕ) → extent v ≤ i → i < 126 * blocks v → padding_wrong v i ≡ false
  unfolding tail_wrong
  tail-clear e i l h = search-clear (padding_wrong v) (extent v) (126 * blocks v - extent v) (126 * blocks v) e i l h

  pub tail-found : tail_wrong v ≡ true → (extent v ≤ bad_word v) × (bad_word v < 126 * blocks v) × (padding_wrong v (bad_word v) ≡ true)
  unfolding tail_wrong
  tail-found e =
      let f = search-found (padding_wrong v) (extent v) (126 * blocks v - extent v) (126 * blocks v) (omega arith) e in
      (first_ge (padding_wrong v) (extent v) (126 * blocks v - extent v), f.0, f.1)

  pub good : Accepted v → Good v
  unfolding order_wrong
  good e = record {
    whole = len.whole;
    blocks-some = len.some;
    blocks-most = len.most;
    blocks-right = blocks-clear p.blocks-passed;
    version-is = stable (eqb_decides (version v) 1) ((version_wrong_decides v).no p.version-passed);
    lists-some = at_least (λ h. range (inl h));
    lists-most = not-lt (λ h. range (inr h));
    blocks_are = blocks_for-least (extent v) (blocks v) least;
    fits = least.enough;
    lists-rise = λ i h. not-false (rises (postings_of v i)) (lists-clear p.lists-passed i h);
    lists-within = list-within;
    zeros = λ i l h. stable (eqb_decides (word v i) 0) ((padding_wrong_decides v i).no (tail-clear p.tail-passed i l h));
  }
    where
      p : Passed v
      p = passed v e

      not-lt : {a b : ℕ} → (a < b → ⊥) → b ≤ a
      not-lt h = omega arith

      at_least : {a : ℕ} → (a < 1 → ⊥) → 1 ≤ a
      at_least h = omega arith

      len : RightLength v
      len = length_right v p.length-passed

      range : (list_count v < 1) ⊎ (1024 < list_count v) → ⊥
      range = (list_count_wrong_decides v).no p.list_count-passed

      least : LeastBlocks (extent v) (blocks v)
      least = stable (least_decides (extent v) (blocks v)) ((extent_wrong_decides v).no p.extent-passed)

  good-passed : Good v → Passed v
  unfolding order_wrong
  good-passed g = record {
    length-passed = fails (length_wrong_decides v) len;
    blocks-passed = blocks_wrong-false v (first_past (block_wrong v) (blocks v) g.blocks-right);
    version-passed = fails (version_wrong_decides v) (λ n. n g.version-is);
    list_count-passed = fails (list_count_wrong_decides v) range;
    extent-passed = fails (extent_wrong_decides v) (λ n. n (rw g.blocks_are at (least-blocks_for (extent v))));
    lists-passed = lists_wrong-false v (first_past (order_wrong v) (list_count v) (λ j h. rw (g.lists-rise j h)));
    tail-passed = tail_wrong-false v (tail (le-first (padding_wrong v) (extent v) (126 * blocks v - extent v) (λ j a b. fails (padding_wrong_decides v j) (λ n. n (zero-at j a b)))));
  }
    where
      len : (length v ≡ 0) ⊎ ((length v % 512 ≢ 0) ⊎ (8192 < blocks v)) → ⊥
      len w = let a = g.whole in let b = g.blocks-some in let c = g.blocks-most in
          ⊎_elim (λ (q : length v ≡ 0). omega arith) (⊎_elim (λ (q : length v % 512 ≢ 0). omega arith) (λ (q : 8192 < blocks v). omega arith)) w

      range : (list_count v < 1) ⊎ (1024 < list_count v) → ⊥
      range w = let a = g.lists-some in let b = g.lists-most in ⊎_elim (λ (q : list_count v < 1). omega arith) (λ (q : 1024 < list_count v). omega arith) w

      le-first : (test : ℕ → Bool) (k m : ℕ) → ((j : ℕ) → k ≤ j → j < k + m → test j ≡ false) → k + m ≤ first_from test k m
      le-first test k m none = let e = first-none test k m none in omega arith

      zero-at : (j : ℕ) → extent v ≤ j → j < extent v + (126 * blocks v - extent v) → word v j ≡ 0
      zero-at j a b = let f = g.fits in g.zeros j a (omega arith)

      tail : extent v + (126 * blocks v - extent v) ≤ bad_word v → 126 * blocks v ≤ bad_word v
      tail h = omega arith

  pub accepted : Good v → Accepted v
  accepted g = passed-accepted v (good-passed g)
