-- One changed byte of an accepted volume is found, in its block. No contract cites this file.
--     damage          2 or 3 at the block of the byte
-- Assumes nothing.
use Prim.Native.Nat.{ℕ, ◌+◌, ◌*◌, ◌/◌, ◌%◌, ◌<◌, ◌≤◌}
use native.Mathlib.Omega.{arith}
use mathlib.Core.Path.{◌≡◌, refl, sym, ap, ◌∙◌}
use mathlib.Core.Bool.{true, false}
use mathlib.Core.Logic.{◌⊎◌, inl, inr, ⊎_elim, ◌≢◌}
use mathlib.Core.List.{List}
use lib.ListN.{length, get_or, take, drop, length-take, length-drop, get_or-eq_default}
use lib.Seq.{ext_get_or, get_or-take, get_or-drop}
use Rattle.seq.specs.Lists.{total}
use Rattle.seq.specs.Refusals.{refused}
use Rattle.seq.proofs.Laws.Tests.{below_or, true_or}
use Rattle.block.specs.Bytes.{IsBytes, le16, le32}
use Rattle.block.specs.Checksum.{check_a, check_b}
use Rattle.volume.specs.Layout.{blocks, covered}
use Rattle.volume.specs.Check.{length_wrong, number_wrong, block_wrong, bad_block, blocks_wrong, verdict, Accepted}
use Rattle.block.proofs.Laws.Checksum.{check_a-late}
use Rattle.volume.proofs.Laws.Check.{Right, right, right-passes, verdict-number, verdict_checksum, blocks_wrong-true, passed, good, Good}
use Rattle.seq.proofs.Laws.Runs.{first-is, total_differs}

-- the test of the length reads nothing else
length_wrong-same : (w v : List ℕ) → length w ≡ length v → length_wrong w ≡ length_wrong v
unfolding length_wrong
length_wrong-same w v e = rw e

-- a covered part has 508 bytes, those of its block
length-covered : (v : List ℕ) (k : ℕ) → 512 * k + 512 ≤ length v → length (covered v k) ≡ 508
length-covered v k h = simp (length-take, length-drop) (omega arith)

covered-at : (v : List ℕ) (k i : ℕ) → i < 508 → get_or (covered v k) i 0 ≡ get_or v (512 * k + i) 0
covered-at v k i h = get_or-take 508 (drop (512 * k) v) i 0 h ∙ get_or-drop (512 * k) v i 0

-- sums that differ by less than 256 differ in A
differ_mod : (s t a b : ℕ) → a < 256 → b < 256 → b ≢ a → s + a ≡ t + b → (1 + s) % 65535 ≡ (1 + t) % 65535 → ⊥
differ_mod s t a b ha hb n e q = omega arith

module _ (v w : List ℕ) (bv : IsBytes v) (bw : IsBytes w) (len : length w ≡ length v) (o : ℕ) (differ : get_or w o 0 ≢ get_or v o 0) (same : (i : ℕ) → i ≢ o → get_or w i 0 ≡ get_or v i 0) where
  -- the byte lies in the volume
  inside : o < length v
  inside = ⊎_elim (λ h. h) (λ h. absurd (differ (get_or-eq_default w 0 (rw len h) ∙ sym (get_or-eq_default v 0 h)))) (below_or o (length v))

  -- a part that does not hold the byte is the same
  part_same : (a n : ℕ) → ((j : ℕ) → j < n → a + j ≢ o) → take n (drop a w) ≡ take n (drop a v)
  part_same a n h = ext_get_or 0 (take n (drop a w)) (take n (drop a v)) (simp (length-take, length-drop, len)) (λ j l. at j (let m = length-take n (drop a w) in omega arith))
    where
      at : (j : ℕ) → j < n → get_or (take n (drop a w)) j 0 ≡ get_or (take n (drop a v)) j 0
      at j l = get_or-take n (drop a w) j 0 l ∙ get_or-drop a w j 0 ∙ same (a + j) (h j l) ∙ sym (get_or-drop a v j 0) ∙ sym (get_or-take n (drop a v) j 0 l)

  -- a number that does not hold the byte is the same
  le16-same : (p : ℕ) → p ≢ o → p + 1 ≢ o → le16 w p ≡ le16 v p
  le16-same p h0 h1 = let e0 = same p h0 in let e1 = same (p + 1) h1 in omega arith

  le32-same : (p : ℕ) → p ≢ o → p + 1 ≢ o → p + 2 ≢ o → p + 3 ≢ o → le32 w p ≡ le32 v p
  le32-same p h0 h1 h2 h3 = let e0 = same p h0 in let e1 = same (p + 1) h1 in let e2 = same (p + 2) h2 in let e3 = same (p + 3) h3 in omega arith

  -- a 16-bit number that holds the byte differs
  le16_differs : (p : ℕ) → (p ≡ o) ⊎ (p + 1 ≡ o) → le16 w p ≢ le16 v p
  le16_differs p (inl e) q = let d : get_or w p 0 ≢ get_or v p 0 = rw e differ in let s = same (p + 1) (omega arith) in omega arith
  le16_differs p (inr e) q = let d : get_or w (p + 1) 0 ≢ get_or v (p + 1) 0 = rw e differ in let s = same p (omega arith) in omega arith

  -- every other block is as it was
  other-right : (k : ℕ) → k ≢ o / 512 → Right v k → Right w k
  other-right k h r = record {
    number-right = le32-same (512 * k) (omega arith) (omega arith) (omega arith) (omega arith) ∙ r.number-right;
    check_a-right = le16-same (512 * k + 508) (omega arith) (omega arith) ∙ r.check_a-right ∙ ap check_a (sym (covered_same k h));
    check_b-right = le16-same (512 * k + 510) (omega arith) (omega arith) ∙ r.check_b-right ∙ ap check_b (sym (covered_same k h));
  }
    where
      covered_same : (k : ℕ) → k ≢ o / 512 → covered w k ≡ covered v k
      covered_same k h = part_same (512 * k) 508 (λ j l. omega arith)

  -- the sums A of the two covered parts differ
  check_a_differs : (k r : ℕ) → 512 * k + 512 ≤ length v → r < 508 → 512 * k + r ≡ o → check_a (covered w k) ≢ check_a (covered v k)
  check_a_differs k r h l e q =
      let lw = length-covered w k (omega arith) in
      let lv = length-covered v k h in
      let t = total_differs (covered w k) (covered v k) r (lw ∙ sym lv) (omega arith)
      (λ i m n. let i508 : i < 508 = omega arith in covered-at w k i i508 ∙ same (512 * k + i) (omega arith) ∙ sym (covered-at v k i i508)) in
      let xw : get_or (covered w k) r 0 ≡ get_or w o 0 = covered-at w k r l ∙ ap (λ (p : ℕ). get_or w p 0) e in
      let xv : get_or (covered v k) r 0 ≡ get_or v o 0 = covered-at v k r l ∙ ap (λ (p : ℕ). get_or v p 0) e in
      differ_mod (total (λ x. x) (covered w k)) (total (λ x. x) (covered v k)) (get_or v o 0) (get_or w o 0) (bv o) (bw o) differ
      (rw (xw, xv) at t)
      (sym (check_a-late (covered w k)) ∙ q ∙ check_a-late (covered v k))

  -- the block of the byte does not hold its checksum
  here-wrong : (k : ℕ) → 512 * k + 512 ≤ length v → k ≡ o / 512 → Right v k → Right w k → ⊥
  here-wrong k h e a b = ⊎_elim covers (λ l. ⊎_elim (stores_a l) stores_b (below_or (o % 512) 510)) (below_or (o % 512) 508)
    where
      at : 512 * k + o % 512 ≡ o
      at = omega arith

      covers : o % 512 < 508 → ⊥
      covers l = check_a_differs k (o % 512) h l at (sym b.check_a-right ∙ le16-same (512 * k + 508) (let x = at in omega arith) (let x = at in omega arith) ∙ a.check_a-right)

      stores_a : 508 ≤ o % 512 → o % 512 < 510 → ⊥
      stores_a l m =
          le16_differs (512 * k + 508) (⊎_elim (λ (x : o % 512 < 509). inl (let y = at in omega arith)) (λ (x : 509 ≤ o % 512). inr (let y = at in omega arith)) (below_or (o % 512) 509))
          (b.check_a-right ∙ ap check_a (part_same (512 * k) 508 (λ j n. let x = at in omega arith)) ∙ sym a.check_a-right)

      stores_b : 510 ≤ o % 512 → ⊥
      stores_b l =
          le16_differs (512 * k + 510) (⊎_elim (λ (x : o % 512 < 511). inl (let y = at in omega arith)) (λ (x : 511 ≤ o % 512). inr (let y = at in omega arith)) (below_or (o % 512) 511))
          (b.check_b-right ∙ ap check_b (part_same (512 * k) 508 (λ j n. let x = at in omega arith)) ∙ sym a.check_b-right)

  -- 2 or 3 at the block of the byte
  pub damage : Accepted v → (verdict w ≡ refused 2 (o / 512)) ⊎ (verdict w ≡ refused 3 (o / 512))
  damage acc =
      ⊎_elim (λ e. inl (verdict-number w lengths some e ∙ ap (refused 2) first)) (λ e. inr (verdict_checksum w lengths some e ∙ ap (refused 3) first))
      (true_or (number_wrong w (bad_block w)))
    where
      g : Good v
      g = good v acc

      here : o / 512 < blocks v
      here = let a = g.whole in let b = inside in omega arith

      full : 512 * (o / 512) + 512 ≤ length v
      full = let a = g.whole in let b = here in omega arith

      wrong : block_wrong w (o / 512) ≡ true
      wrong = ⊎_elim (λ e. e) (λ e. absurd (here-wrong (o / 512) full refl (right v (o / 512) (g.blocks-right (o / 512) here)) (right w (o / 512) e))) (true_or (block_wrong w (o / 512)))

      before : (j : ℕ) → j < o / 512 → block_wrong w j ≡ false
      before j h = right-passes w j (other-right j (omega arith) (right v j (g.blocks-right j (let a = here in omega arith))))

      same_blocks : blocks w ≡ blocks v
      same_blocks = ap (λ (n : ℕ). n / 512) len

      first : bad_block w ≡ o / 512
      first = first-is (block_wrong w) (blocks w) (o / 512) (let a = same_blocks in let b = here in omega arith) wrong before

      some : blocks_wrong w ≡ true
      some = blocks_wrong-true w (let a = first in let b = same_blocks in let c = here in omega arith)

      lengths : length_wrong w ≡ false
      lengths = length_wrong-same w v len ∙ (passed v acc).length-passed
