-- The laws of `specs/Inner/Blocks.antt`. No contract cites this file.
--     narrowed                   the last of five words of a block that is below a bound
--     block-rises                the words of a block that has starts alone rise
--     across_seek                the sought index, by two words of a block beside each other
--     blocks-whole               the blocks that a cursor has before it lie between it and its end
-- Assumes nothing.
use Prim.Native.Nat.{ℕ, ◌+◌, ◌*◌, ◌<◌, ◌≤◌}
use native.Mathlib.Omega.{arith}
use mathlib.Core.Path.{◌≡◌, refl, ◌∙◌}
use mathlib.Core.Logic.{⊎_elim}
use mathlib.Core.List.{List}
use borrow.Author.Tests.{lt-ltb, le-ltb}
use Rattle.seq.proofs.Laws.Tests.{below_or}
use Rattle.volume.specs.Layout.{word}
use Rattle.volume.specs.Inner.Below.{below_of}
use Rattle.matcher.specs.declared.cursor.Cursor.{Cursor}
use Rattle.matcher.specs.Inner.Cursors.{seek_from, Stretch}
use Rattle.matcher.specs.Inner.Blocks.{RisingBlock, Across, Whole, blocks_of}
use Rattle.matcher.proofs.Laws.Cursors.{seek-between, stretch-within}

below-yes : (x y : ℕ) → x < y → below_of x y ≡ 1
below-yes x y h = rw (lt-ltb x y h) refl

below-no : (x y : ℕ) → y ≤ x → below_of x y ≡ 0
below-no x y h = rw (le-ltb x y h) refl

module _ (v : List ℕ) (block bound k step : ℕ) (rises : RisingBlock v block) (room : k + 5 * step < 126) (some : 1 ≤ step)
    (ends : Across v block bound k (5 * step)) where
  -- the words of the block, and those that are looked at
  abbrev w : ℕ → ℕ
  w j = word v (126 * block + j)

  up : (i j : ℕ) → i < j → j < 126 → w i < w j
  up i j h l = rises.rising (126 * block + i) (126 * block + j) (omega arith) (omega arith) (omega arith)

  -- n of them are below the bound
  abbrev Told : ℕ → Type 0
  Told s = Across v block bound (k + step * s) step × (k + step * s ≤ k + 4 * step)

  told : (n s : ℕ) → s ≡ n → n ≤ 4 → (i : ℕ) → i ≡ k + step * n → i ≤ k + 4 * step → w i < bound → (j : ℕ) → j ≡ i + step → bound ≤ w j → Told s
  told n s e small i at most low j next high = rw e (rw (← at) (
    record {
      below = low;
      above = let q : 126 * block + j ≡ 126 * block + i + step = omega arith in rw q at high;
    },
    most,
  ))

  pub narrowed : (a b c d : ℕ)
      → a ≡ below_of (w (k + step)) bound → b ≡ below_of (w (k + 2 * step)) bound → c ≡ below_of (w (k + 3 * step)) bound → d ≡ below_of (w (k + 4 * step)) bound
      → Told (a + b + c + d)
  narrowed a b c d ea eb ec ed =
      ⊎_elim
      (λ (h : w (k + step) < bound).
      let fa = ea ∙ below-yes (w (k + step)) bound h in
      ⊎_elim
      (λ (h : w (k + 2 * step) < bound).
      let fb = eb ∙ below-yes (w (k + 2 * step)) bound h in
      ⊎_elim
      (λ (h : w (k + 3 * step) < bound).
      let fc = ec ∙ below-yes (w (k + 3 * step)) bound h in
      ⊎_elim
      (λ (h : w (k + 4 * step) < bound).
      let fd = ed ∙ below-yes (w (k + 4 * step)) bound h in
      told 4 (a + b + c + d) (omega arith) (omega arith) (k + 4 * step) (omega arith) (omega arith) h (k + 5 * step) (omega arith) top)
      (λ (g : bound ≤ w (k + 4 * step)).
      let fd = ed ∙ below-no (w (k + 4 * step)) bound g in
      told 3 (a + b + c + d) (omega arith) (omega arith) (k + 3 * step) (omega arith) (omega arith) h (k + 4 * step) (omega arith) g)
      (below_or (w (k + 4 * step)) bound))
      (λ (g : bound ≤ w (k + 3 * step)).
      let fc = ec ∙ below-no (w (k + 3 * step)) bound g in
      let u = up (k + 3 * step) (k + 4 * step) (omega arith) (omega arith) in
      let fd = ed ∙ below-no (w (k + 4 * step)) bound (omega arith) in
      told 2 (a + b + c + d) (omega arith) (omega arith) (k + 2 * step) (omega arith) (omega arith) h (k + 3 * step) (omega arith) g)
      (below_or (w (k + 3 * step)) bound))
      (λ (g : bound ≤ w (k + 2 * step)).
      let fb = eb ∙ below-no (w (k + 2 * step)) bound g in
      let u = up (k + 2 * step) (k + 3 * step) (omega arith) (omega arith) in
      let fc = ec ∙ below-no (w (k + 3 * step)) bound (omega arith) in
      let t = up (k + 3 * step) (k + 4 * step) (omega arith) (omega arith) in
      let fd = ed ∙ below-no (w (k + 4 * step)) bound (omega arith) in
      told 1 (a + b + c + d) (omega arith) (omega arith) (k + step) (omega arith) (omega arith) h (k + 2 * step) (omega arith) g)
      (below_or (w (k + 2 * step)) bound))
      (λ (g : bound ≤ w (k + step)).
      let fa = ea ∙ below-no (w (k + step)) bound g in
      let s = up (k + step) (k + 2 * step) (omega arith) (omega arith) in
      let fb = eb ∙ below-no (w (k + 2 * step)) bound (omega arith) in
      let u = up (k + 2 * step) (k + 3 * step) (omega arith) (omega arith) in
      let fc = ec ∙ below-no (w (k + 3 * step)) bound (omega arith) in
      let t = up (k + 3 * step) (k + 4 * step) (omega arith) (omega arith) in
      let fd = ed ∙ below-no (w (k + 4 * step)) bound (omega arith) in
      told 0 (a + b + c + d) (omega arith) (omega arith) k (omega arith) (omega arith) ends.below (k + step) (omega arith) g)
      (below_or (w (k + step)) bound)
    where
      top : bound ≤ w (k + 5 * step)
      top = let q : 126 * block + k + 5 * step ≡ 126 * block + (k + 5 * step) = omega arith in rw q at ends.above

-- a block between a cursor and its end
module _ {v : List ℕ} {i e : ℕ} (s : Stretch v i e) (block : ℕ) (from : i ≤ 126 * block) (to : 126 * block + 126 ≤ e) where
  pub block-rises : RisingBlock v block
  block-rises = stretch-within v i e (126 * block) (126 * block + 126) s from (omega arith) to

  pub across_seek : {bound k : ℕ} → k ≤ 124 → Across v block bound k 1 → seek_from v bound i e ≡ 126 * block + k + 1
  across_seek {bound} {k} small a = seek-between v bound i e s (126 * block + k) (omega arith) (omega arith) a.below a.above

pub blocks-whole : (c : Cursor) → Whole c (blocks_of c)
blocks-whole c = record {
  from = λ b h. omega arith;
  to = λ b h. ⊎_elim (none b h) (some b h) (below_or c.end 252);
}
  where
    none : (b : ℕ) → b < (blocks_of c).last → c.end < 252 → 126 * b + 252 ≤ c.end
    none b h l = let g = rw (lt-ltb c.end 252 l) at h in absurd (let z : ⊥ = omega arith in z)

    some : (b : ℕ) → b < (blocks_of c).last → 252 ≤ c.end → 126 * b + 252 ≤ c.end
    some b h l = let g = rw (le-ltb c.end 252 l) at h in omega arith
