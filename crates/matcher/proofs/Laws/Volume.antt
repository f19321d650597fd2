-- The lists of an accepted volume as stretches of its stream. No contract cites this file.
--     list-is            list l of the volume's lists is the run of its postings
--     list-stretch       its words lie in the stream and rise
--     span_small         its span ends in the stream of a volume with the most blocks
--     held, holds_at     a position that a list holds stands at an index of its stretch, and the converse
-- Assumes nothing.
use Prim.Native.Nat.{ℕ, zero, suc, ◌+◌, ◌-◌, ◌*◌, ◌<◌, ◌≤◌}
use native.Mathlib.Nat.{zero-add}
use native.Mathlib.Omega.{arith}
use mathlib.Core.Path.{◌≡◌, sym, ap, ◌∙◌}
use mathlib.Core.List.{List, []}
use mathlib.Core.Logic.{⊎_elim}
use lib.ListN.{length, get_or}
use Rattle.seq.specs.Lists.{Rising}
use Rattle.seq.proofs.Laws.Numbers.{length_run, get_or-run}
use Rattle.seq.proofs.Laws.Rising.{rises-rising}
use Rattle.seq.proofs.Laws.Tests.{below_or}
use Rattle.volume.specs.declared.layout.ListSpan.{ListSpan}
use Rattle.volume.specs.Layout.{stream_length, word, list_count, count, start, postings_of, lists_of}
use Rattle.volume.specs.Inner.Places.{list_span_of}
use Rattle.volume.specs.Check.{Accepted}
use Rattle.volume.proofs.Laws.Check.{Good, good}
use Rattle.fulltext.specs.Positions.{limit, list_of}
use Rattle.fulltext.specs.Calculus.{Holds}
use Rattle.matcher.specs.Inner.Cursors.{Stretch, list_end}

-- where neighbours rise any two do
rising-apart : (xs : List ℕ) → Rising xs → (i j : ℕ) → i < j → j < length xs → get_or xs i 0 < get_or xs j 0
rising-apart xs r i zero h l = absurd (let z : ⊥ = omega arith in z)
rising-apart xs r i (suc j) h l = ⊎_elim (λ (k : i < j). far (rising-apart xs r i j k (omega arith))) near (below_or i j)
  where
    e : j + 1 ≡ suc j
    e = omega arith

    next : get_or xs j 0 < get_or xs (suc j) 0
    next = rw (← e) (r j (omega arith))

    near : j ≤ i → get_or xs i 0 < get_or xs (suc j) 0
    near k = let q : i ≡ j = omega arith in rw q next

    far : get_or xs i 0 < get_or xs j 0 → get_or xs i 0 < get_or xs (suc j) 0
    far a = let b = next in omega arith

module _ (v : List ℕ) (ok : Accepted v) (l : ℕ) (h : l < list_count v) where
  pub list-is : list_of (lists_of v) l ≡ postings_of v l
  unfolding lists_of
  list-is = get_or-run (postings_of v) 0 (list_count v) l [] h ∙ ap (postings_of v) (zero-add l)

  pub list-stretch : Stretch v (start v l) (list_end v l)
  list-stretch = record { order = omega arith; within = within; rising = rising }
    where
      g : Good v
      g = good v ok

      within : list_end v l ≤ stream_length v
      within = let a = g.lists-within l h in let b = g.fits in omega arith

      at : (j : ℕ) → j < count v l → get_or (postings_of v l) j 0 ≡ word v (start v l + j)
      at j k = get_or-run (word v) (start v l) (count v l) j 0 k

      rising : (j k : ℕ) → start v l ≤ j → j < k → k < list_end v l → word v j < word v k
      rising j k a b c =
          let n = length_run (word v) (start v l) (count v l) in
          let r = rising-apart (postings_of v l) (rises-rising (postings_of v l) (g.lists-rise l h)) (j - start v l) (k - start v l) (omega arith) (omega arith) in
          let x = at (j - start v l) (omega arith) in
          let y = at (k - start v l) (omega arith) in
          let ej : start v l + (j - start v l) ≡ j = omega arith in
          let ek : start v l + (k - start v l) ≡ k = omega arith in
          let x' = ap (word v) ej in
          let y' = ap (word v) ek in
          omega arith

  pub span_small : (s : ListSpan) → s ≡ list_span_of v l → s.start + s.count ≤ 1032192
  span_small s e = rw e (let w = list-stretch.within in let m = (good v ok).blocks-most in omega arith)

  -- a position that the list holds stands at an index
  pub held : (d p : ℕ) → Holds d p (list_of (lists_of v) l) → (p < limit) × ((j : ℕ) × ((start v l ≤ j) × ((j < list_end v l) × (word v j ≡ d * 65536 + p))))
  held d p (small, (i, inside, same)) = (small, (start v l + i, (omega arith, (room, value))))
    where
      size : length (list_of (lists_of v) l) ≡ count v l
      size = ap length list-is ∙ length_run (word v) (start v l) (count v l)

      room : start v l + i < list_end v l
      room = let s = size in omega arith

      value : word v (start v l + i) ≡ d * 65536 + p
      value = sym (get_or-run (word v) (start v l) (count v l) i 0 (let s = size in omega arith)) ∙ ap (λ (xs : List ℕ). get_or xs i 0) (sym list-is) ∙ same

  pub holds_at : (d p j : ℕ) → p < limit → start v l ≤ j → j < list_end v l → word v j ≡ d * 65536 + p → Holds d p (list_of (lists_of v) l)
  holds_at d p j small a b e = (small, (j - start v l, inside, value))
    where
      inside : j - start v l < length (list_of (lists_of v) l)
      inside = let s = ap length list-is ∙ length_run (word v) (start v l) (count v l) in omega arith

      back : start v l + (j - start v l) ≡ j
      back = omega arith

      value : get_or (list_of (lists_of v) l) (j - start v l) 0 ≡ d * 65536 + p
      value = ap (λ (xs : List ℕ). get_or xs (j - start v l) 0) list-is ∙ get_or-run (word v) (start v l) (count v l) (j - start v l) 0 (omega arith) ∙ ap (word v) back ∙ e
