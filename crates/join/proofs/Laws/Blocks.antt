-- The blocks of the joined stream: the counts of a block, its postings and its zeros, one behind the other. No contract cites this file.
--     stands-first     the merge in front of the first block
--     block-next       the merge behind a block
--     block_made       the words of a block
-- Assumes nothing.
use Prim.Native.Nat.{ℕ, ◌+◌, ◌*◌, ◌-◌, ◌<◌, ◌≤◌, min, max}
use native.Mathlib.Nat.{sub-zero}
use native.Mathlib.Omega.{arith}
use mathlib.Core.Path.{◌≡◌, sym, ap, ◌∙◌}
use mathlib.Core.Logic.{⊎_elim}
use mathlib.Core.List.{List}
use lib.ListN.{length}
use Rattle.seq.specs.Numbers.{run}
use Rattle.seq.proofs.Laws.Tests.{below_or}
use Rattle.volume.specs.Layout.{list_count, lead, extent}
use Rattle.volume.proofs.Laws.Starts.{start_first}
use Rattle.join.specs.declared.reading.Merge.{Merge}
use Rattle.join.specs.Refusals.{extent_of_both}
use Rattle.join.specs.Inner.Reading.{joined_word, head_word, Joinable, made, read_of, front_of, index_of, StandsBefore, Turned}
use Rattle.join.proofs.Laws.Stream.{word_head, word-zero}
use Rattle.join.proofs.Laws.Made.{made_none, made_then, made_ext, made_all}
use Rattle.join.proofs.Laws.Reading.{bounds}

-- sums of a block's first index k, the index l of the first posting, that of the end e, and what is read in front of the block and behind it
read_is : (l k e c : ℕ) → k < e → l ≤ c → c - l ≡ max l (min k e) → c ≡ l + max l k
read_is l k e c h low i = omega arith

head-is : (l k head : ℕ) → head ≡ min 126 (l - k) → head + k ≡ max k (min (k + 126) l)
head-is l k head i = omega arith

behind-is : (a c r head : ℕ) → head ≤ 126 → r ≡ min (c + (126 - head)) a → r + head ≡ min (c + 126) (a + head)
behind-is a c r head h i = omega arith

next-is : (l k e c r head : ℕ) → l ≤ e → k < e → c ≡ l + max l k → head + k ≡ max k (min (k + 126) l) → r + head ≡ min (c + 126) (e + l + head)
    → r - l ≡ max l (min (k + 126) e)
next-is l k e c r head low h x y z = let q : r ≡ l + max l (min (k + 126) e) = omega arith in rw q (sub-front l (max l (min (k + 126) e)))
  where
    sub-front : (a b : ℕ) → a + b - a ≡ b
    sub-front a b = omega arith

end_is : (l k e c r head to : ℕ) → l ≤ e → k < e → c ≡ l + max l k → head + k ≡ max k (min (k + 126) l) → r + head ≡ min (c + 126) (e + l + head)
    → to + c ≡ head + r → to < 126 → e ≤ k + to
end_is l k e c r head to low h x y z n m = omega arith

index_is : (l k c head : ℕ) → c ≡ l + max l k → head + k ≡ max k (min (k + 126) l) → head < 126 → c - l ≡ k + head
index_is l k c head x y n = omega arith

made-is : (c r head to : ℕ) → c ≤ r → to ≡ head + (r - c) → to + c ≡ head + r
made-is c r head to h e = omega arith

module _ (lift : ℕ) (v w : List ℕ) (j : Joinable v w) where
  -- in front of all postings
  pub stands-first : (c : Merge) (lists : ℕ) → c ≡ front_of lists → lists ≡ list_count v → StandsBefore v w c 0
  stands-first c lists e same =
      let p = start_first v in
      let q = start_first w in
      let s = j.same in
      rw (e, same) (record {
        stands = record {
          lists = omega arith;
          first-end = sym p;
          first-low = omega arith;
          first-high = omega arith;
          second-end = omega arith;
          second-low = omega arith;
          second-high = omega arith;
          waits = λ l. absurd (omega arith);
        };
        index = omega arith;
      })

  -- the merge behind block k: its counts, its postings and its zeros are made one behind the other
  pub block-next : (c r : Merge) (k head : ℕ) (before after : List ℕ) → StandsBefore v w c k → 126 * k < extent_of_both v w
      → head ≡ min 126 (lead (list_count v) - 126 * k) → Turned lift v w c head before r after
      → read_of r ≡ min (read_of c + (126 - head)) (extent v + extent w) → StandsBefore v w r (k + 1)
  block-next c r k head before after s h e t read =
      let same = j.same in
      let b = bounds v w j c s.stands in
      let l = lead (list_count v) in
      let end = extent_of_both v w in
      let all : extent v + extent w ≡ end + l = omega arith in
      let x = read_is l (126 * k) end (read_of c) h (omega arith) s.index in
      let y = head-is l (126 * k) head e in
      let z = behind-is (end + l) (read_of c) (read_of r) head (omega arith) (read ∙ rw all) in
      let q = next-is l (126 * k) end (read_of c) (read_of r) head (omega arith) h x y z in
      let more : 126 * k + 126 ≡ 126 * (k + 1) = omega arith in
      record { stands = t.stands; index = q ∙ ap (λ (n : ℕ). max l (min n end)) more }

  -- the words of block k
  pub block_made : (c r : Merge) (k head to : ℕ) (words a b d : List ℕ) → StandsBefore v w c k → 126 * k < extent_of_both v w → length words ≡ 126
      → head ≡ min 126 (lead (list_count v) - 126 * k) → a ≡ made (head_word v w) (126 * k) 0 head words
      → Turned lift v w c head a r b → read_of r ≡ min (read_of c + (126 - head)) (extent v + extent w)
      → to ≡ head + (read_of r - read_of c) → d ≡ made (λ i. 0) 0 to 126 b → d ≡ run (joined_word lift v w) (126 * k) 126
  block_made c r k head to words a b d s h l e p t read q z =
      let x = t.onward in
      let y = t.inside in
      z
      ∙ made_ext (λ i. 0) f 0 (126 * k + to) to 126 b (λ m n. sym (word-zero lift v w j (126 * k + to + m) (zeros m n)))
      ∙ ap (λ (ws : List ℕ). made f (126 * k + to) to 126 ws) front
      ∙ made_then f (126 * k) 0 words (126 * k + to) to 126 (rw (sub-zero to)) (omega arith) (omega arith) (omega arith)
      ∙ made_all f (126 * k) words l
    where
      f : ℕ → ℕ
      f = joined_word lift v w

      behind-counts : lead (list_count v) ≤ read_of c
      behind-counts = let g = bounds v w j c s.stands in omega arith

      here : read_of c ≡ lead (list_count v) + max (lead (list_count v)) (126 * k)
      here = read_is (lead (list_count v)) (126 * k) (extent_of_both v w) (read_of c) h behind-counts s.index

      counts : head + 126 * k ≡ max (126 * k) (min (126 * k + 126) (lead (list_count v)))
      counts = head-is (lead (list_count v)) (126 * k) head e

      zeros : (m : ℕ) → m < 126 - to → extent_of_both v w ≤ 126 * k + to + m
      zeros m n =
          let same = j.same in
          let start = lead (list_count v) in
          let end = extent_of_both v w in
          let room : to < 126 = omega arith in
          let all : extent v + extent w ≡ end + start = omega arith in
          let low : start ≤ end = omega arith in
          let there = behind-is (end + start) (read_of c) (read_of r) head (omega arith) (read ∙ rw all) in
          let sum = made-is (read_of c) (read_of r) head to t.onward q in
          let most = end_is start (126 * k) end (read_of c) (read_of r) head to low h here counts there sum room in
          omega arith

      -- the counts
      counts-made : a ≡ made f (126 * k) 0 head words
      counts-made = p ∙ made_ext (head_word v w) f (126 * k) (126 * k) 0 head words (λ m n. sym (word_head lift v w j (126 * k + m) (omega arith)))

      -- in front of the zeros
      front : b ≡ made f (126 * k) 0 to words
      front = ⊎_elim some_left none_left (below_or head 126)
        where
          some_left : head < 126 → b ≡ made f (126 * k) 0 to words
          some_left n =
              let x = t.onward in
              let index = index_is (lead (list_count v)) (126 * k) (read_of c) head here counts n in
              t.words-made ∙ rw (index, ← q, counts-made) (made_then f (126 * k) 0 words (126 * k + head) head to (rw (sub-zero head)) (omega arith) (omega arith) (omega arith))

          none_left : 126 ≤ head → b ≡ made f (126 * k) 0 to words
          none_left n =
              let y = t.inside in
              let same : to ≡ head = omega arith in
              t.words-made ∙ rw (← q, same) (made_none f (index_of v c) head a ∙ counts-made)
