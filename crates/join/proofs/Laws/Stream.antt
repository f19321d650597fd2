-- The words of the joined stream, by where they come from. No contract cites this file.
--     word_head, head-count                    in front of the postings: the counts add up
--     word_first, word-second                  where a merge stands: the rest of a list of the first volume, then of the second
--     word-zero                                behind the postings stand zeros
-- Assumes nothing.
use Prim.Native.Nat.{ℕ, zero, suc, ◌+◌, ◌-◌, ◌<◌, ◌≤◌}
use native.Mathlib.Nat.{zero-add}
use native.Mathlib.Omega.{arith}
use mathlib.Core.Path.{◌≡◌, refl, sym, ap, ◌∙◌}
use mathlib.Core.List.{List, ◌++◌, map}
use lib.ListN.{length, length-map, get_or-append}
use lib.Seq.{get_or-append-add}
use Rattle.seq.specs.Lists.{at, joined}
use Rattle.seq.specs.Numbers.{run, sum_to}
use Rattle.seq.proofs.Laws.Numbers.{length_run, get_or-run}
use Rattle.volume.specs.Layout.{word, list_count, entry, lead, count, start, postings_of}
use Rattle.volume.proofs.Laws.Starts.{start-next}
use Rattle.volume.proofs.Laws.Write.{stream_posting, stream-zero}
use Rattle.join.specs.declared.reading.Merge.{Merge}
use Rattle.join.specs.Refusals.{extent_of_both}
use Rattle.join.specs.Inner.Reading.{lifted_lists, joined_word, head_word, Joinable, StandsAt, index_of}
use Rattle.join.proofs.Laws.Joined.{length-lists, lengths, list-is, length_both, element-is}

head-behind : (v w : List ℕ) (i k : ℕ) → i ≡ suc (suc k) → head_word v w i ≡ at (run (λ n. count v n + count w n) 0 (list_count v)) k
head-behind v w i k e = rw e

pub head-count : (v w : List ℕ) (i : ℕ) → i < list_count v → head_word v w (entry i) ≡ count v i + count w i
head-count v w i h =
    head-behind v w (entry i) i (omega arith)
    ∙ get_or-run (λ k. count v k + count w k) 0 (list_count v) i 0 h
    ∙ ap (λ (k : ℕ). count v k + count w k) (zero-add i)

module _ (lift : ℕ) (v w : List ℕ) (j : Joinable v w) where
  abbrev raise : ℕ → ℕ
  raise p = p + lift

  counts-length : length (map length (lifted_lists lift v w)) ≡ list_count v
  counts-length = length-map (lifted_lists lift v w) length ∙ length-lists raise v w j.same

  pub word_head : (i : ℕ) → i < lead (list_count v) → joined_word lift v w i ≡ head_word v w i
  unfolding joined_word
  word_head zero h = refl
  word_head (suc zero) h = counts-length
  word_head (suc (suc i)) h =
      let n = counts-length in
      get_or-append (map length (lifted_lists lift v w)) (joined (lifted_lists lift v w)) 0 i (omega arith)
      ∙ ap (λ (cs : List ℕ). at cs i) (lengths raise v w j.same)

  pub word-zero : (i : ℕ) → extent_of_both v w ≤ i → joined_word lift v w i ≡ 0
  unfolding joined_word
  word-zero i h =
      let n = counts-length in
      let m = length_both raise v w j.same in
      stream-zero (map length (lifted_lists lift v w)) (joined (lifted_lists lift v w)) i (i - lead (list_count v)) (omega arith) (omega arith)

  -- posting k of list i: its number, and the stream index where it stands
  abbrev number : ℕ → ℕ → ℕ
  number i k = sum_to (count v) i + sum_to (count w) i + k

  abbrev index : ℕ → ℕ → ℕ
  index i k = lead (list_count v) + number i k

  word_at : (i k : ℕ) → i < list_count v → k < count v i + count w i
      → joined_word lift v w (index i k) ≡ at (postings_of v i ++ run (λ n. raise (word w n)) (start w i) (count w i)) k
  unfolding joined_word
  word_at i k h l =
      let n = counts-length in
      stream_posting (map length (lifted_lists lift v w)) (joined (lifted_lists lift v w)) (index i k) (number i k) (omega arith)
      ∙ element-is raise v w j.same i k h l
      ∙ ap (λ (xs : List ℕ). at xs k) (list-is raise v w j.same i h)

  -- posting k of the first's list i, and of the second's
  at_first : (i k : ℕ) → i < list_count v → k < count v i → joined_word lift v w (index i k) ≡ word v (start v i + k)
  at_first i k h l =
      let n = length_run (word v) (start v i) (count v i) in
      word_at i k h (omega arith)
      ∙ get_or-append (postings_of v i) _ 0 k (omega arith)
      ∙ get_or-run (word v) (start v i) (count v i) k 0 l

  at_second : (i k : ℕ) → i < list_count v → k < count w i → joined_word lift v w (index i (count v i + k)) ≡ word w (start w i + k) + lift
  at_second i k h l =
      let n = length_run (word v) (start v i) (count v i) in
      word_at i (count v i + k) h (omega arith)
      ∙ ap (λ (m : ℕ). at (postings_of v i ++ run (λ n. raise (word w n)) (start w i) (count w i)) (m + k)) (sym n)
      ∙ get_or-append-add (postings_of v i) _ k 0
      ∙ get_or-run (λ n. raise (word w n)) (start w i) (count w i) k 0 l

  -- where postings of a list are left, a list has been entered
  entered : (u : List ℕ) (n p : ℕ) → start u (n - 1) ≤ p → p < start u n → n ≡ n - 1 + 1
  entered u zero p low high = absurd (let z : ⊥ = omega arith in z)
  entered u (suc n) p low high = omega arith

  pub word_first : (c : Merge) → StandsAt v w c → (k : ℕ) → c.first + k < c.stop
      → joined_word lift v w (index_of v c + k) ≡ word v (c.first + k)
  word_first c s k h =
      let i = c.lists - 1 in
      let stop = s.first-end in
      let low = s.first-low in
      let e = entered v c.lists c.first low (omega arith) in
      let list = stop ∙ ap (start v) e ∙ start-next v i in
      let wait = s.waits (omega arith) in
      let most = s.lists in
      let same = j.same in
      let m = c.first - start v i + k in
      let q : index_of v c + k ≡ index i m = omega arith in
      let z : start v i + m ≡ c.first + k = omega arith in
      ap (joined_word lift v w) q ∙ at_first i m (omega arith) (omega arith) ∙ ap (word v) z

  pub word-second : (c : Merge) → StandsAt v w c → c.first ≡ c.stop → (k : ℕ) → c.second + k < c.end
      → joined_word lift v w (index_of v c + k) ≡ word w (c.second + k) + lift
  word-second c s full k h =
      let i = c.lists - 1 in
      let end = s.second-end in
      let low = s.second-low in
      let e = entered w c.lists c.second low (omega arith) in
      let list = end ∙ ap (start w) e ∙ start-next w i in
      let read = full ∙ s.first-end ∙ ap (start v) e ∙ start-next v i in
      let most = s.lists in
      let same = j.same in
      let m = c.second - start w i + k in
      let q : index_of v c + k ≡ index i (count v i + m) = omega arith in
      let z : start w i + m ≡ c.second + k = omega arith in
      ap (joined_word lift v w) q ∙ at_second i m (omega arith) (omega arith) ∙ ap (λ (n : ℕ). word w n + lift) z
