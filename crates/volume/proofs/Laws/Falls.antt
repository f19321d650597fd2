-- The laws of `specs/Inner/Falls.antt`: what has no falls rises. No contract cites this file.
--     rise-run                                   a run without falls rises
--     falls_again, falls-done                    a run rises exactly if no fall is counted in it
--     fall_in_block, fall-last, falls-more       the falls of the stream, one by one
--     ListsSoFar, lists-first, lists-none, lists-some, lists-done
--                                                the falls at the last postings of the lists, list by list
--     lists-rise                                 with no more falls than are allowed every list rises
-- Assumes nothing.
use Prim.Native.Nat.{ℕ, zero, suc, ◌+◌, ◌*◌, ◌-◌, ◌<◌, ◌≤◌}
use native.Mathlib.Nat.{add-zero, sub-zero}
use native.Mathlib.Numerals.{add-one}
use native.Mathlib.Omega.{arith}
use mathlib.Core.Path.{◌≡◌, refl, sym, ap, ◌∙◌, subst}
use mathlib.Core.Logic.{⊎_elim}
use mathlib.Core.Bool.{Bool, true, false, not, cond, ◌&&◌, and-true, and-false}
use mathlib.Core.List.{List, ◌∷◌}
use lib.ListN.{length}
use lib.Dec.{ltb, eqb}
use borrow.Author.Tests.{le-ltb, ne_eqb}
use Rattle.seq.specs.Lists.{above, rises}
use Rattle.seq.specs.Numbers.{first_from, run, sum_to}
use Rattle.seq.proofs.Laws.Tests.{below_or}
use Rattle.seq.proofs.Laws.Numbers.{run_step, run_end, sum-le, sum_step, first_miss, first-end}
use Rattle.seq.proofs.Laws.Rising.{rises-none, rises-suc}
use Rattle.block.specs.Bytes.{le32}
use Rattle.volume.specs.Layout.{lead, word, count, list_count, start, extent}
use Rattle.volume.specs.Check.{order_wrong, bad_list}
use Rattle.volume.specs.Inner.Falls.{fall_of, fall, falls_before, ListFalls}
use Rattle.volume.proofs.Laws.Stream.{word_in_block_lem, word-behind}

-- no fall: the next is above
no-fall : (x y : ℕ) → fall_of x y ≡ 0 → ltb x y ≡ true
no-fall x y e = go (ltb x y) e
  where
    go : (t : Bool) → ◌≡◌ {A = ℕ} (cond t 0 1) 0 → t ≡ true
    go true q = refl
    go false q = absurd (omega arith)

-- f from k on, suc m of them, rises above each other where there are no falls at k, .., k + m − 1
rise-run : (f : ℕ → ℕ) (k m : ℕ) → sum_to (fall f) (k + m) ≡ sum_to (fall f) k → above (f k) (run f (suc k) m) ≡ true
unfolding above run
rise-run f k zero e = refl
rise-run f k (suc m) e =
    let here = sum_step (fall f) k in
    let rest : sum_to (fall f) (k + 1) ≤ sum_to (fall f) (k + 1 + m) = sum-le (fall f) (k + 1) m in
    let same : k + suc m ≡ k + 1 + m = omega arith in
    let e' : sum_to (fall f) (k + 1 + m) ≡ sum_to (fall f) k = rw same at e in
    let none : fall f k ≡ 0 = omega arith in
    let up : ltb (f k) (f (suc k)) ≡ true = first-up none in
    let next : sum_to (fall f) (suc k + m) ≡ sum_to (fall f) (suc k) = rw (add-one k) at (trans' e' here none) in
    rw up (rise-run f (suc k) m next)
  where
    first-up : fall f k ≡ 0 → ltb (f k) (f (suc k)) ≡ true
    first-up z = rw (add-one k) at (no-fall (f k) (f (k + 1)) (unfold fall in z))

    trans' : sum_to (fall f) (k + 1 + m) ≡ sum_to (fall f) k → sum_to (fall f) (k + 1) ≡ sum_to (fall f) k + fall f k → fall f k ≡ 0 → sum_to (fall f) (k + 1 + m) ≡ sum_to (fall f) (k + 1)
    trans' a b c = omega arith

-- one fall more, or none: d falls so far in front of a
falls-here : (d a b : ℕ) (xs : List ℕ) → (eqb d 0 && rises (a ∷ b ∷ xs)) ≡ (eqb (d + fall_of a b) 0 && rises (b ∷ xs))
unfolding rises above
falls-here d a b xs = go (ltb a b)
  where
    go : (t : Bool) → (eqb d 0 && (t && above b xs)) ≡ (eqb (d + cond t 0 1) 0 && above b xs)
    go true = rw add-zero
    go false = rw (and-false, ne_eqb (d + 1) 0 (λ (e : d + 1 ≡ 0). omega arith))

-- d falls so far, in a run that is at i and ends at n
module _ (f : ℕ → ℕ) (d i n : ℕ) where
  pub falls_again : i + 1 < n → (eqb d 0 && rises (run f i (n - i))) ≡ (eqb (d + fall_of (f i) (f (i + 1))) 0 && rises (run f (i + 1) (n - (i + 1))))
  falls_again h = rw (run_step f i n (omega arith), run_step f (i + 1) n h) (falls-here d (f i) (f (i + 1)) _)

  pub falls-done : n ≤ i + 1 → (eqb d 0 && rises (run f i (n - i))) ≡ eqb d 0
  unfolding rises above
  falls-done h = ⊎_elim
      (λ (l : i < n). rw (run_step f i n l, run_end f (i + 1) n h, and-true))
      (λ (l : n ≤ i). rw (run_end f i n l, and-true))
      (below_or i n)

-- a fall between two words of one block
pub fall_in_block : (v : List ℕ) (k i : ℕ) → i < 125 → fall (word v) (126 * k + i) ≡ fall_of (le32 v (512 * k + 4 + 4 * i)) (le32 v (512 * k + 4 + 4 * i + 4))
unfolding fall
fall_in_block v k i h =
    let next : 126 * k + i + 1 ≡ 126 * k + (i + 1) = omega arith in
    let at : 512 * k + 4 + 4 * (i + 1) ≡ 512 * k + 4 + 4 * i + 4 = omega arith in
    ap (λ (n : ℕ). fall_of n (word v (126 * k + i + 1))) (word_in_block_lem v k i (omega arith))
    ∙ ap (fall_of (le32 v (512 * k + 4 + 4 * i))) (ap (word v) next ∙ word_in_block_lem v k (i + 1) (omega arith) ∙ ap (le32 v) at)

-- one more fall counted
pub falls-more : (f : ℕ → ℕ) (from i n r : ℕ) → sum_to f from + n ≡ sum_to f (from + i) → r ≡ f (from + i) → sum_to f from + (n + r) ≡ sum_to f (from + (i + 1))
falls-more f from i n r e q =
    let step : sum_to f (from + i + 1) ≡ sum_to f (from + i) + f (from + i) = sum_step f (from + i) in
    let same : from + (i + 1) ≡ from + i + 1 = omega arith in
    rw same (omega arith)

-- the last word counts as a fall
pub fall-last : (v : List ℕ) (n i : ℕ) → length v ≡ 512 * n → i + 1 ≡ 126 * n → fall (word v) i ≡ 1
unfolding fall
fall-last v n i l e =
    let z : word v (i + 1) ≡ 0 = word-behind v n (i + 1) l (omega arith) in
    rw z (rw (le-ltb (word v i) 0 (omega arith)))

-- list i rises where there are no falls at its postings but the last
order-right : (v : List ℕ) (i m : ℕ) → count v i ≡ suc m → falls_before v (start v i + m) ≡ falls_before v (start v i) → order_wrong v i ≡ false
unfolding order_wrong
order-right v i m c e =
    ap (λ (n : ℕ). not (rises (run (word v) (start v i) n))) c ∙ ap not (rises-suc (word v) (start v i) m ∙ rise-run (word v) (start v i) m e)

order-empty : (v : List ℕ) (i : ℕ) → count v i ≡ 0 → order_wrong v i ≡ false
unfolding order_wrong
order-empty v i c = ap (λ (n : ℕ). not (rises (run (word v) (start v i) n))) c ∙ ap not (rises-none (word v) (start v i))

-- n falls at the last postings of the first i lists, which end in front of s
pub record ListsSoFar (v : List ℕ) (n s i : ℕ) : Type 0 where
  pub reached : i ≤ list_count v
  pub few : n ≤ i
  pub here : s ≡ start v i
  pub within : falls_before v (lead (list_count v)) + n ≤ falls_before v s
  pub exact : falls_before v (lead (list_count v)) + n ≡ falls_before v s → first_from (order_wrong v) i (list_count v - i) ≡ bad_list v

pub lists-first : (v : List ℕ) → ListsSoFar v 0 (lead (list_count v)) 0
unfolding sum_to
lists-first v = record { reached = omega arith; few = omega arith; here = omega arith; within = omega arith; exact = λ e. ap (first_from (order_wrong v) 0) (sub-zero (list_count v)) }

-- the next list is empty
lists-empty : (v : List ℕ) (n s i : ℕ) → ListsSoFar v n s i → i < list_count v → count v i ≡ 0 → ListsSoFar v n (s + 0) (i + 1)
lists-empty v n s i l h c =
    let step : sum_to (count v) (i + 1) ≡ sum_to (count v) i + count v i = sum_step (count v) i in
    let at = l.here in
    rw add-zero (record {
      reached = omega arith;
      few = let f = l.few in omega arith;
      here = omega arith;
      within = l.within;
      exact = λ e. sym (first_miss (order_wrong v) i (list_count v) h (order-empty v i c)) ∙ l.exact e;
    })

-- the next list has m + 1 postings, and r tells of a fall at the last
lists-more : (v : List ℕ) (n s i m r : ℕ) → ListsSoFar v n s i → i < list_count v → count v i ≡ suc m → r ≤ 1 → r ≡ fall (word v) (s + m) → ListsSoFar v (n + r) (s + suc m) (i + 1)
lists-more v n s i m r l h c small e =
    let step : sum_to (count v) (i + 1) ≡ sum_to (count v) i + count v i = sum_step (count v) i in
    let at = l.here in
    let f = l.few in
    let w = l.within in
    let last : falls_before v (s + m + 1) ≡ falls_before v (s + m) + fall (word v) (s + m) = sum_step (fall (word v)) (s + m) in
    let up : falls_before v s ≤ falls_before v (s + m) = sum-le (fall (word v)) s m in
    let same : s + suc m ≡ s + m + 1 = omega arith in
    record {
      reached = omega arith;
      few = omega arith;
      here = omega arith;
      within = rw same (omega arith);
      exact = λ q. rest (rw same at q) last up w;
    }
  where
    rest :
        falls_before v (lead (list_count v)) + (n + r) ≡ falls_before v (s + m + 1) → falls_before v (s + m + 1) ≡ falls_before v (s + m) + fall (word v) (s + m)
        → falls_before v s ≤ falls_before v (s + m) → falls_before v (lead (list_count v)) + n ≤ falls_before v s
        → first_from (order_wrong v) (i + 1) (list_count v - (i + 1)) ≡ bad_list v
    rest q last up w =
        let none : falls_before v (s + m) ≡ falls_before v s = omega arith in
        let all : falls_before v (lead (list_count v)) + n ≡ falls_before v s = omega arith in
        sym (first_miss (order_wrong v) i (list_count v) h (order-right v i m c (rw l.here at none))) ∙ l.exact all

pub lists-done : (v : List ℕ) (n s i : ℕ) → ListsSoFar v n s i → list_count v ≡ i → list_count v ≤ 1024 → ListFalls v n
lists-done v n s i l e h =
    let at = l.here in
    let end : s ≡ extent v = at ∙ ap (λ (k : ℕ). lead (list_count v) + sum_to (count v) k) (sym e) in
    let f = l.few in
    record {
      few = omega arith;
      within = rw end at l.within;
      exact = λ q. sym (l.exact (rw end q)) ∙ first-end (order_wrong v) i (list_count v) (omega arith) ∙ sym e;
    }

-- as many falls as are allowed: every list rises
pub lists-rise : (v : List ℕ) (n head tail all : ℕ) → ListFalls v n → falls_before v 0 + head ≡ falls_before v (lead (list_count v)) → falls_before v (extent v) + tail ≡ all → head + n + tail ≡ all → bad_list v ≡ list_count v
unfolding sum_to
lists-rise v n head tail all l h t e = let w = l.within in l.exact (omega arith)

-- the next list has so many postings, as the code tells them apart
pub lists-none : (v : List ℕ) (n s i size : ℕ) → ListsSoFar v n s i → i < list_count v → size ≡ count v i → size ≤ 0 → ListsSoFar v n (s + size) (i + 1)
lists-none v n s i size l h c z =
    let e : size ≡ 0 = omega arith in
    let d : count v i ≡ 0 = omega arith in
    rw e (lists-empty v n s i l h d)

pub lists-some : (v : List ℕ) (n s i size r : ℕ) → ListsSoFar v n s i → i < list_count v → size ≡ count v i → 0 < size → r ≤ 1 → r ≡ fall (word v) (s + size - 1) → ListsSoFar v (n + r) (s + size) (i + 1)
lists-some v n s i size r l h c z small e =
    let back : size ≡ suc (size - 1) = omega arith in
    let at : s + size - 1 ≡ s + (size - 1) = omega arith in
    ap-to (lists-more v n s i (size - 1) r l h (sym c ∙ back) small (e ∙ ap (fall (word v)) at)) back
  where
    ap-to : ListsSoFar v (n + r) (s + suc (size - 1)) (i + 1) → size ≡ suc (size - 1) → ListsSoFar v (n + r) (s + size) (i + 1)
    ap-to x q = subst (λ (k : ℕ). ListsSoFar v (n + r) (s + k) (i + 1)) (sym q) x
