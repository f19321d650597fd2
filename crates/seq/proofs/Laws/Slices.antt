-- Slices of a list, as takes and drops and as runs of its values. No contract cites this file.
--     slice-run       a slice is the run of the list's values there
--     length_slice    its length
--     get_or_slice    its values
--     take_slice      what stands in front of a slice, and the slice
--     joined-takes    pieces that each lengthen the front of a list are that front
--     all-run         a test that passes at each index passes for all of a run
--     run-parts       a run in two parts, by the index between them
-- Assumes nothing.
use Prim.Native.Nat.{ℕ, zero, suc, ◌+◌, ◌-◌, ◌<◌, ◌≤◌}
use native.Mathlib.Nat.{zero-add}
use native.Mathlib.Numerals.{add-one}
use native.Mathlib.Omega.{arith}
use mathlib.Core.Path.{◌≡◌, refl, sym, ap, ap₂, ◌∙◌}
use mathlib.Core.Bool.{Bool, true}
use mathlib.Core.List.{List, [], ◌∷◌, ◌++◌, append-nil}
use lib.ListN.{length, get_or, take, drop, length-drop}
use lib.Seq.{length-take-le, get_or-take, get_or-drop, take-add, ext_get_or}
use Rattle.seq.specs.Lists.{all, joined}
use Rattle.seq.specs.Numbers.{run}
use Rattle.seq.proofs.Laws.Lists.{joined_append}
use Rattle.seq.proofs.Laws.Numbers.{length_run, get_or-run, run_append, run-snoc}

module _ {A : Type 0} where
  pub length_slice : (xs : List A) (a m : ℕ) → a + m ≤ length xs → length (take m (drop a xs)) ≡ m
  length_slice xs a m h = let e = length-drop a xs in length-take-le m (drop a xs) (omega arith)

  pub get_or_slice : (xs : List A) (a m j : ℕ) (d : A) → j < m → get_or (take m (drop a xs)) j d ≡ get_or xs (a + j) d
  get_or_slice xs a m j d h = get_or-take m (drop a xs) j d h ∙ get_or-drop a xs j d

  pub slice-run : (d : A) (xs : List A) (a m : ℕ) → a + m ≤ length xs → take m (drop a xs) ≡ run (λ i. get_or xs i d) a m
  slice-run d xs a m h =
      let e = length_slice xs a m h in
      ext_get_or d (take m (drop a xs)) (run (λ i. get_or xs i d) a m) (e ∙ sym (length_run (λ i. get_or xs i d) a m))
      (λ j l. get_or_slice xs a m j d (omega arith) ∙ sym (get_or-run (λ i. get_or xs i d) a m j d (omega arith)))

  pub take_slice : (xs : List A) (a m b : ℕ) → a + m ≡ b → take a xs ++ take m (drop a xs) ≡ take b xs
  take_slice xs a m b e = sym (take-add a m xs) ∙ ap (λ (n : ℕ). take n xs) e

  -- pieces g 0, g 1, .., each of which lengthens the front of a list from s k to s (k + 1)
  pub joined-takes : (xs : List A) (s : ℕ → ℕ) (g : ℕ → List A) (n : ℕ) → s 0 ≡ 0 → ((k : ℕ) → k < n → take (s k) xs ++ g k ≡ take (s (k + 1)) xs) → joined (run g 0 n) ≡ take (s n) xs
  unfolding joined run
  joined-takes xs s g zero z more = ap (λ (m : ℕ). take m xs) (sym z)
  joined-takes xs s g (suc n) z more =
      ap (λ (m : ℕ). joined (run g 0 m)) (sym (add-one n))
      ∙ ap joined (run-snoc g 0 n)
      ∙ joined_append (run g 0 n) (g (0 + n) ∷ [])
      ∙ ap₂ (λ (u v : List A). u ++ v) (joined-takes xs s g n z (λ k h. more k (omega arith))) (append-nil (g (0 + n)) ∙ ap g (zero-add n))
      ∙ more n (omega arith)
      ∙ ap (λ (m : ℕ). take (s m) xs) (add-one n)

  pub all-run : (test : A → Bool) (f : ℕ → A) (k m : ℕ) → ((j : ℕ) → k ≤ j → j < k + m → test (f j) ≡ true) → all test (run f k m) ≡ true
  unfolding all run
  all-run test f k zero e = refl
  all-run test f k (suc m) e = rw (e k (omega arith) (omega arith)) (all-run test f (suc k) m (λ j a b. e j (omega arith) (omega arith)))

  pub run-parts : (f : ℕ → A) (a b c : ℕ) → a ≤ b → b ≤ c → run f a (c - a) ≡ run f a (b - a) ++ run f b (c - b)
  run-parts f a b c h l =
      let e : c - a ≡ (b - a) + (c - b) = omega arith in
      let d : a + (b - a) ≡ b = omega arith in
      ap (run f a) e ∙ run_append f a (b - a) (c - b) ∙ ap (λ (k : ℕ). run f a (b - a) ++ run f k (c - b)) d
