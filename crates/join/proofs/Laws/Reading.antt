-- How the joined stream is made, run by run: the laws of `specs/Inner/Reading.antt`. No contract cites this file.
--     start-most                            no list starts behind the extent
--     Bounds, bounds                        where a merge stands
--     more-lists                            a list is left where not all is read
--     second-lifts                          what can be added to a run of postings of the second volume
--     moved-first, moved-second, entered    a merge moved on still stands
--     turned-entered, turned_none           a list entered, and no step
--     turned_then                           two steps, one behind the other
--     turned-first, turned-second           a run of postings of one volume
-- Assumes nothing.
use Prim.Native.Nat.{ℕ, ◌+◌, ◌-◌, ◌<◌, ◌≤◌}
use native.Mathlib.Nat.{add-zero}
use native.Mathlib.Omega.{arith}
use mathlib.Core.Path.{◌≡◌, refl, sym, ◌∙◌}
use mathlib.Core.Logic.{⊎_elim}
use mathlib.Core.List.{List}
use lib.ListN.{length}
use Rattle.seq.proofs.Laws.Tests.{below_or}
use Rattle.seq.proofs.Laws.Numbers.{sum_mono}
use Rattle.volume.specs.Layout.{stream_length, word, list_count, lead, count, extent, start}
use Rattle.volume.proofs.Laws.Check.{good}
use Rattle.volume.proofs.Laws.Starts.{start-next}
use Rattle.join.specs.declared.reading.Merge.{Merge}
use Rattle.join.specs.Inner.Reading.{joined_word, Liftable, Lifts, Joinable, made, read_of, StandsAt, index_of, Turned}
use Rattle.join.proofs.Laws.Stream.{word_first, word-second}
use Rattle.join.proofs.Laws.Made.{made_none, made_then, made_ext}

-- no list starts behind the extent
start-most : (v : List ℕ) (i : ℕ) → i ≤ list_count v → start v i ≤ extent v
start-most v i h = let m = sum_mono (count v) i (list_count v) h in omega arith

-- where a merge stands: behind the counts, and within both volumes
pub record Bounds (v w : List ℕ) (c : Merge) : Type 0 where
  pub first-least : lead (list_count v) ≤ c.first
  pub first-most : c.first ≤ extent v
  pub stop-most : c.stop ≤ extent v
  pub first_fits : extent v ≤ stream_length v
  pub first_small : extent v ≤ 1032192
  pub second-least : lead (list_count v) ≤ c.second
  pub second-most : c.second ≤ extent w
  pub end-most : c.end ≤ extent w
  pub second_fits : extent w ≤ stream_length w
  pub second-small : extent w ≤ 1032192

-- n postings further in the first volume
abbrev first_on : Merge → ℕ → Merge
first_on c n = record { lists = c.lists; first = c.first + n; stop = c.stop; second = c.second; end = c.end }

-- n postings further in the second
abbrev second_on : Merge → ℕ → Merge
second_on c n = record { lists = c.lists; first = c.first; stop = c.stop; second = c.second + n; end = c.end }

-- in the next list, of m and n postings
abbrev next_of : Merge → ℕ → ℕ → Merge
next_of c m n = record { lists = c.lists + 1; first = c.first; stop = c.stop + m; second = c.second; end = c.end + n }

module _ (v w : List ℕ) (j : Joinable v w) where
  pub bounds : (c : Merge) → StandsAt v w c → Bounds v w c
  bounds c s =
      let same = j.same in
      let first = start-most v c.lists s.lists in
      let second = start-most w c.lists (let h = s.lists in omega arith) in
      let g = good v j.first in
      let h = good w j.second in
      record {
        first-least = let l = s.first-low in omega arith;
        first-most = let e = s.first-end in let l = s.first-high in omega arith;
        stop-most = let e = s.first-end in omega arith;
        first_fits = g.fits;
        first_small = let n = g.blocks-most in let f = g.fits in omega arith;
        second-least = let l = s.second-low in omega arith;
        second-most = let e = s.second-end in let l = s.second-high in omega arith;
        end-most = let e = s.second-end in omega arith;
        second_fits = h.fits;
        second-small = let n = h.blocks-most in let f = h.fits in omega arith;
      }

  -- a list is left where not all is read
  pub more-lists : (c : Merge) → StandsAt v w c → c.first ≡ c.stop → c.second ≡ c.end → read_of c < extent v + extent w → c.lists < list_count v
  more-lists c s a b h =
      ⊎_elim
      (λ (l : c.lists < list_count v). l)
      (λ (l : list_count v ≤ c.lists).
      let here : c.lists ≡ list_count v = omega (arith, s.lists) in
      let same = j.same in
      let p : c.stop ≡ start v (list_count v) = rw here at s.first-end in
      let q : c.end ≡ start w (list_count w) = rw (here, ← same) at s.second-end in
      absurd (omega arith))
      (below_or c.lists (list_count v))

  -- a posting of the second can be lifted
  pub second-lifts : (lift : ℕ) (c : Merge) (n : ℕ) → Lifts lift w → StandsAt v w c → c.second + n ≤ c.end → Liftable lift w c.second n
  second-lifts lift c n k s h =
      let b = bounds c s in
      let same = j.same in
      record { each = λ i l. k.each (c.second + i) (omega arith) (omega arith) }

  moved-first : (c : Merge) (n : ℕ) → StandsAt v w c → c.first + n ≤ c.stop → StandsAt v w (first_on c n)
  moved-first c n s h = record {
    lists = s.lists;
    first-end = s.first-end;
    first-low = let l = s.first-low in omega arith;
    first-high = h;
    second-end = s.second-end;
    second-low = s.second-low;
    second-high = s.second-high;
    waits = λ l. s.waits (omega arith);
  }

  moved-second : (c : Merge) (n : ℕ) → StandsAt v w c → c.first ≡ c.stop → c.second + n ≤ c.end → StandsAt v w (second_on c n)
  moved-second c n s e h = record {
    lists = s.lists;
    first-end = s.first-end;
    first-low = s.first-low;
    first-high = s.first-high;
    second-end = s.second-end;
    second-low = let l = s.second-low in omega arith;
    second-high = h;
    waits = λ l. absurd (omega arith);
  }

  pub entered : (c : Merge) (m n : ℕ) → StandsAt v w c → c.first ≡ c.stop → c.second ≡ c.end → c.lists < list_count v
      → m ≡ count v c.lists → n ≡ count w c.lists → StandsAt v w (next_of c m n)
  entered c m n s p q h x y =
      let a = s.first-end in
      let b = s.second-end in
      let one : c.lists + 1 - 1 ≡ c.lists = omega arith in
      record {
        lists = omega arith;
        first-end = let e = start-next v c.lists in omega arith;
        first-low = rw one (omega arith);
        first-high = omega arith;
        second-end = let e = start-next w c.lists in omega arith;
        second-low = rw one (omega arith);
        second-high = omega arith;
        waits = λ l. rw one (q ∙ b);
      }

module _ (lift : ℕ) (v w : List ℕ) (j : Joinable v w) where
  -- a list entered
  pub turned-entered : (c r : Merge) (to : ℕ) (words : List ℕ) → StandsAt v w r → read_of r ≡ read_of c → to ≤ 126 → Turned lift v w c to words r words
  turned-entered c r to words s e h =
      let none : to + (read_of r - read_of c) ≡ to = omega arith in
      record {
        stands = s;
        onward = omega arith;
        inside = omega arith;
        words-made = rw none (sym (made_none (joined_word lift v w) (index_of v c) to words));
      }

  -- no step
  pub turned_none : (c : Merge) (to : ℕ) (words : List ℕ) → StandsAt v w c → to ≤ 126 → Turned lift v w c to words c words
  turned_none c to words s h = turned-entered c c to words s refl h

  -- two steps
  pub turned_then : (c r e : Merge) (to next : ℕ) (words mid after : List ℕ) → StandsAt v w c → length words ≡ 126 → next ≡ to + (read_of r - read_of c)
      → Turned lift v w c to words r mid → Turned lift v w r next mid e after → Turned lift v w c to words e after
  turned_then c r e to next words mid after s l n t u =
      let b = bounds v w j c s in
      let x = t.onward in
      let y = u.onward in
      let z = u.inside in
      let here : index_of v r ≡ index_of v c + (to + (read_of r - read_of c) - to) = omega arith in
      let end : next + (read_of e - read_of r) ≡ to + (read_of e - read_of c) = omega arith in
      record {
        stands = u.stands;
        onward = omega arith;
        inside = omega arith;
        words-made = u.words-made ∙ rw (t.words-made, end, n)
            (made_then (joined_word lift v w) (index_of v c) to words (index_of v r) (to + (read_of r - read_of c)) (to + (read_of e - read_of c))
            here (omega arith) (omega arith) (omega arith));
      }

  -- a run of postings of the first volume
  pub turned-first : (c : Merge) (n to : ℕ) (words after : List ℕ) → StandsAt v w c → c.first + n ≤ c.stop → to + n ≤ 126
      → after ≡ made (λ i. word v i + 0) c.first to (to + n) words → Turned lift v w c to words (first_on c n) after
  turned-first c n to words after s h room e =
      let more : read_of (first_on c n) - read_of c ≡ n = omega arith in
      record {
        stands = moved-first v w j c n s h;
        onward = omega arith;
        inside = omega arith;
        words-made = e
            ∙ made_ext (λ i. word v i + 0) (joined_word lift v w) c.first (index_of v c) to (to + n) words
            (λ k l. add-zero (word v (c.first + k)) ∙ sym (word_first lift v w j c s k (omega arith)))
            ∙ rw more;
      }

  -- and of the second
  pub turned-second : (c : Merge) (n to : ℕ) (words after : List ℕ) → StandsAt v w c → c.first ≡ c.stop → c.second + n ≤ c.end → to + n ≤ 126
      → after ≡ made (λ i. word w i + lift) c.second to (to + n) words → Turned lift v w c to words (second_on c n) after
  turned-second c n to words after s p h room e =
      let more : read_of (second_on c n) - read_of c ≡ n = omega arith in
      record {
        stands = moved-second v w j c n s p h;
        onward = omega arith;
        inside = omega arith;
        words-made = e
            ∙ made_ext (λ i. word w i + lift) (joined_word lift v w) c.second (index_of v c) to (to + n) words
            (λ k l. sym (word-second lift v w j c s p k (omega arith)))
            ∙ rw more;
      }
