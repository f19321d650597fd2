-- The start of a position's paragraph. No contract cites this file.
--     ParaAt, para-told, para-is        the greatest start not above p, or 65,536 where there is none: `para_start` is so, and nothing else is
--     para-none                         where it is 65,536, no start is up to p
--     para-begun                        where a start is not above p, it is a start, and the greatest of those
--     start-unparted, unparted-start    two positions have the same start exactly if each start is not above both or above both
--     para-starts                       what it is, beside any starts
-- Assumes nothing.
use Prim.Native.Nat.{ℕ, ◌<◌, ◌≤◌, max}
use native.Mathlib.Omega.{arith}
use mathlib.Core.Path.{◌≡◌, refl, sym, ◌∙◌}
use mathlib.Core.Bool.{Bool, true, false}
use mathlib.Core.Logic.{◌⊎◌, inl, inr, ⊎_elim, ◌↔◌}
use mathlib.Core.List.{List, [], ◌∷◌}
use lib.Dec.{leb}
use borrow.Author.Tests.{leb-true, le-leb}
use Rattle.seq.specs.Lists.{cons_if, keep}
use Rattle.seq.proofs.Laws.Tests.{below_or, contrary}
use Rattle.fulltext.specs.Positions.{limit, largest}
use Rattle.fulltext.specs.Calculus.{In}
use Rattle.fulltext.specs.Paragraphs.{greatest, para_start}
use Rattle.fulltext.specs.Demands.{ParaStarts}
use Rattle.fulltext.proofs.Laws.Positions.{in-none, in-here, in-later, in_cons, at-largest}

-- the elements that pass a test are elements, and pass it
keep_in : (test : ℕ → Bool) (xs : List ℕ) (n : ℕ) → In n (keep test xs) → In n xs × (test n ≡ true)
unfolding keep
keep_in test [] n h = absurd (in-none n h)
keep_in test (x ∷ xs) n h = go (test x) refl h (keep_in test xs n)
  where
    go : (t : Bool) → test x ≡ t → In n (cons_if t x (keep test xs)) → (In n (keep test xs) → In n xs × (test n ≡ true)) → In n (x ∷ xs) × (test n ≡ true)
    go true e k rest = ⊎_elim (λ (q : x ≡ n). (in-here n x xs q, rw (← q) e)) (λ q. let w = rest q in (in-later n x xs w.0, w.1)) (in_cons n x (keep test xs) k)
    go false e k rest = let w = rest k in (in-later n x xs w.0, w.1)

in-keep : (test : ℕ → Bool) (xs : List ℕ) (n : ℕ) → In n xs → test n ≡ true → In n (keep test xs)
unfolding keep
in-keep test [] n h e = absurd (in-none n h)
in-keep test (x ∷ xs) n h e = go (test x) refl (in_cons n x xs h) (λ k. in-keep test xs n k e)
  where
    go : (t : Bool) → test x ≡ t → (x ≡ n) ⊎ In n xs → (In n xs → In n (keep test xs)) → In n (cons_if t x (keep test xs))
    go true q w rest = ⊎_elim (λ (k : x ≡ n). in-here n x (keep test xs) k) (λ k. in-later n x (keep test xs) (rest k)) w
    go false q w rest = ⊎_elim (λ (k : x ≡ n). absurd (contrary e (rw (← k) q))) rest w

-- the largest is an element
largest_in : (x : ℕ) (xs : List ℕ) → In (largest (x ∷ xs)) (x ∷ xs)
largest_in x [] = in-here (max x 0) x [] (omega arith)
largest_in x (y ∷ ys) =
    ⊎_elim
    (λ (h : x < largest (y ∷ ys)). let e : max x (largest (y ∷ ys)) ≡ largest (y ∷ ys) = omega arith in rw e (in-later (largest (y ∷ ys)) x (y ∷ ys) (largest_in y ys)))
    (λ (h : largest (y ∷ ys) ≤ x). in-here (max x (largest (y ∷ ys))) x (y ∷ ys) (omega arith))
    (below_or x (largest (y ∷ ys)))

-- r is the greatest of some starts not above p, or 65,536 where there is none
abbrev pub ParaAt : List ℕ → ℕ → ℕ → Type 0
ParaAt ss p r = ((r ≡ limit) × ((s : ℕ) → In s ss → s ≤ p → ⊥)) ⊎ (In r ss × ((r ≤ p) × ((s : ℕ) → In s ss → s ≤ p → s ≤ r)))

module _ (ss : List ℕ) (p : ℕ) where
  pub para-told : ParaAt ss p (para_start ss p)
  unfolding para_start
  para-told = go (keep (λ s. leb s p) ss) (keep_in (λ s. leb s p) ss) (λ s i h. in-keep (λ t. leb t p) ss s i (le-leb s p h))
    where
      go : (xs : List ℕ) → ((s : ℕ) → In s xs → In s ss × (leb s p ≡ true)) → ((s : ℕ) → In s ss → s ≤ p → In s xs) → ParaAt ss p (greatest xs)
      go [] out back = inl (refl, λ s i h. in-none s (back s i h))
      go (x ∷ xs) out back =
          let w = out (largest (x ∷ xs)) (largest_in x xs) in
          inr (w.0, (leb-true (largest (x ∷ xs)) p w.1, λ s i h. let k = back s i h in let l = at-largest (x ∷ xs) k.0 in omega (arith, k.2)))

  -- there is one such number
  pub para-is : (r : ℕ) → ParaAt ss p r → r ≡ para_start ss p
  para-is r a =
      ⊎_elim
      (λ x. ⊎_elim (λ y. x.0 ∙ sym y.0) (λ y. absurd (x.1 (para_start ss p) y.0 y.1.0)) para-told)
      (λ x. ⊎_elim (λ y. absurd (y.1 r x.0 x.1.0)) (λ y. let h = x.1.1 (para_start ss p) y.0 y.1.0 in let k = y.1.1 r x.0 x.1.0 in omega arith) para-told)
      a

  -- where it is 65,536, no start is up to a position p
  pub para-none : p < limit → para_start ss p ≡ limit → (s : ℕ) → In s ss → s ≤ p → ⊥
  para-none small e = ⊎_elim (λ x. x.1) (λ x. absurd (let h : para_start ss p ≤ p = x.1.0 in let z : ⊥ = omega arith in z)) para-told

  -- where a start is not above p, it is a start, and the greatest of those that are not above p
  pub para-begun : (s : ℕ) → In s ss → s ≤ p → In (para_start ss p) ss × ((para_start ss p ≤ p) × (s ≤ para_start ss p))
  para-begun s i h = ⊎_elim (λ x. absurd (x.1 s i h)) (λ x. (x.0, (x.1.0, x.1.1 s i h))) para-told

module _ (ss : List ℕ) (p q : ℕ) (a : (s : ℕ) × In s ss × (s ≤ p)) (b : (s : ℕ) × In s ss × (s ≤ q)) where
  pub start-unparted : para_start ss p ≡ para_start ss q → (s : ℕ) → In s ss → (s ≤ p) ↔ (s ≤ q)
  start-unparted e s i = (
    λ h. let x = (para-begun ss p s i h).1.1 in let y = (para-begun ss q b.0 b.1 b.2).1.0 in omega arith,
    λ h. let x = (para-begun ss q s i h).1.1 in let y = (para-begun ss p a.0 a.1 a.2).1.0 in omega arith,
  )

  pub unparted-start : ((s : ℕ) → In s ss → (s ≤ p) ↔ (s ≤ q)) → para_start ss p ≡ para_start ss q
  unparted-start h =
      let x = para-begun ss p a.0 a.1 a.2 in
      let y = para-begun ss q b.0 b.1 b.2 in
      let u = (para-begun ss q (para_start ss p) x.0 ((h (para_start ss p) x.0).0 x.1.0)).1.1 in
      let w = (para-begun ss p (para_start ss q) y.0 ((h (para_start ss q) y.0).1 y.1.0)).1.1 in
      omega arith

pub para-starts : (ss : List ℕ) (p : ℕ) → ParaStarts ss p
para-starts ss p = record {
  none = λ before. ⊎_elim (λ x. x.0) (λ x. absurd (let h : para_start ss p ≤ p = x.1.0 in let b = before (para_start ss p) x.0 in let z : ⊥ = omega arith in z)) (para-told ss p);
  greatest = para-begun ss p;
  other = λ below e s i. ⊎_elim (λ h. h) (λ (h : s ≤ p). let x = para-begun ss p s i h in let l = below (para_start ss p) x.0 in absurd (let z : ⊥ = omega arith in z)) (below_or p s);
}
