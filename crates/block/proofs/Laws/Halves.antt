-- The halves of a block as `src/checksum.rt` sums them. No contract cites this file.
--     slices-sums              two parts of a slice are the bytes in front of a block's checksum
--     last-tot, last-weigh     the last four bytes of a half
--     first_done, second-done  the sums of a half, from its rows
-- Assumes nothing.
use Prim.Native.Nat.{ℕ, ◌+◌, ◌*◌, ◌-◌, ◌≤◌}
use native.Mathlib.Nat.{add-zero}
use native.Mathlib.Omega.{arith}
use mathlib.Core.Path.{◌≡◌, ap, ap₂, ◌∙◌}
use mathlib.Core.List.{List, [], ◌∷◌}
use lib.ListN.{length, get_or, take, drop, length-drop, drop_of_length-le}
use lib.Seq.{drop-drop}
use Rattle.seq.specs.Numbers.{run, sum_to}
use Rattle.seq.specs.Lists.{total}
use Rattle.seq.proofs.Laws.Slices.{length_slice, take_slice}
use Rattle.block.specs.declared.rows.Row.{Row}
use Rattle.block.specs.declared.rows.RowSums.{RowSums}
use Rattle.block.specs.Parts.{weighed, part_of, first_half, sums_of, checksum_of}
use Rattle.block.specs.Inner.Sums.{tot, weigh, row_at, columns, tilted, slope, Eights, plain_of, weighted_of}
use Rattle.block.proofs.Laws.Bytes.{drop-four}
use Rattle.block.proofs.Laws.Parts.{weighed-weigh, second-first}

-- of the block at o: its bytes from 256 on and those in front of them, as parts of a slice are made
pub slices-sums : (s : List ℕ) (o : ℕ) → o + 508 ≤ length s
    → sums_of (part_of 256 (take (o + 508 - (o + 256)) (drop (o + 256) s)) ∷ part_of 0 (take (o + 256 - o) (drop o s)) ∷ []) ≡ checksum_of (take 508 (drop o s))
slices-sums s o h =
    let a : o + 256 - o ≡ 256 = omega arith in
    let b : o + 508 - (o + 256) ≡ 252 = omega arith in
    let m : length (take 256 (drop o s)) ≡ 256 = length_slice s o 256 (omega arith) in
    let n : length (take 252 (drop (o + 256) s)) ≡ 252 = length_slice s (o + 256) 252 (omega arith) in
    rw (a, b)
    (rw m at (second-first (take 256 (drop o s)) (take 252 (drop (o + 256) s)) (omega arith))
    ∙ ap checksum_of (rw (drop-drop 256 o s) at (take_slice (drop o s) 256 252 508 (omega arith))))

-- the bytes from o on are the last four
module _ (s : List ℕ) (o : ℕ) {row : Row} (row_is : row ≡ row_at 4 s o) (l : length s ≡ o + 4) where
  last-four : drop o s ≡ get_or s o 0 ∷ get_or s (o + 1) 0 ∷ get_or s (o + 2) 0 ∷ get_or s (o + 3) 0 ∷ []
  last-four =
      let e : drop (o + 4) s ≡ [] = drop_of_length-le s {i = o + 4} (omega arith) in
      rw e at (drop-four s o (omega arith))

  last-tot : tot (drop o s) ≡ columns row
  unfolding columns total run sum_to
  last-tot = rw (last-four, row_is, add-zero o) (omega arith)

  last-weigh : weigh (drop o s) ≡ slope row
  unfolding columns tilted weigh run sum_to
  last-weigh = rw (last-four, row_is, add-zero o) (omega arith)

-- four bytes and the 31 rows behind them, as `half_sums` adds them up
module _ {s : List ℕ} {row : Row} {t : RowSums} {p w : ℕ}
    (row_is : row ≡ row_at 4 s 0) (d : Eights s 4 3 t)
    (p-is : p ≡ plain_of row t) (w-is : w ≡ weighted_of row t) where
  front-tot : 252 ≤ length s → tot s ≡ p + tot (drop 252 s)
  unfolding columns total run sum_to
  front-tot h = omega (arith, rw row_is at p-is, ap tot (drop-four s 0 (omega arith)), d.tot-is)

  front-weigh : length s ≡ 252 → weigh s ≡ w + weigh (drop 252 s)
  unfolding columns tilted weigh run sum_to
  front-weigh l = omega (arith, rw row_is at w-is, rw (length-drop 4 s, l) at (ap weigh (drop-four s 0 (omega arith))), rw l at d.weigh-is)

  -- with four bytes behind them
  front-weigh-four : length s ≡ 256 → weigh s ≡ w + 4 * p + weigh (drop 252 s)
  unfolding columns tilted weigh run sum_to
  front-weigh-four l = omega (arith, rw row_is at p-is, rw row_is at w-is, rw (length-drop 4 s, l) at (ap weigh (drop-four s 0 (omega arith))), rw l at d.weigh-is)

  -- the first half of a block: its last four bytes stand behind them
  pub first_done : {last : Row} → last ≡ row_at 4 s 252 → length s ≡ 256
      → record { plain = p + columns last; weighted = 256 * p + w + 252 * columns last + slope last } ≡ first_half s
  first_done last-is l =
      let plain = front-tot (omega arith) in
      let weighted = front-weigh-four l in
      let last-plain = last-tot s 252 last-is l in
      let last-weighted = last-weigh s 252 last-is l in
      let behind : weighed 0 s ≡ weigh s + 252 * tot s = weighed-weigh 0 252 s (omega arith) in
      ap₂ (λ (a b : ℕ). record { plain = a; weighted = b }) (omega (arith, plain, last-plain)) (omega (arith, plain, weighted, last-plain, last-weighted, behind))

  -- the second half without the checksum: nothing stands behind them
  pub second-done : length s ≡ 252 → record { plain = p; weighted = w } ≡ part_of 256 s
  unfolding total weigh
  second-done l =
      let e : drop 252 s ≡ [] = drop_of_length-le s {i = 252} (omega arith) in
      let plain = rw e at (front-tot (omega arith)) in
      let weighted = rw e at (front-weigh l) in
      let behind : weighed 256 s ≡ weigh s + 0 * tot s = weighed-weigh 256 0 s (omega arith) in
      ap₂ (λ (a b : ℕ). record { plain = a; weighted = b }) (omega (arith, plain)) (omega (arith, weighted, behind))
