-- The first start, and the start that SAME TITLE needs, over plain starts. No contract cites this file.
--     FirstAt, first-told, first-is     the least start, or 65,536 where there is none: `first_start` is so, and nothing else is
--     first-most, first_in, first-least     it is at most 65,536, it is a start where it is below that, and no start is in front of it
--     needed-bare, needed_para          `needed_start` is the first start where p stands in no paragraph, else that of its paragraph
--     Needed, needed-told               where it is not above p it is a start, and none follows up to p; else no start is in front of it
-- Assumes nothing.
use Prim.Native.Nat.{ℕ, ◌<◌, ◌≤◌, min}
use native.Mathlib.Omega.{arith}
use mathlib.Core.Path.{◌≡◌, refl, sym, ◌∙◌}
use mathlib.Core.Logic.{◌⊎◌, inl, inr, ⊎_elim, ◌≢◌}
use mathlib.Core.List.{List, [], ◌∷◌}
use Rattle.seq.proofs.Laws.Tests.{below_or}
use Rattle.seq.proofs.Laws.Decides as decides
use Rattle.seq.proofs.Laws.Decides.{eqb_decides}
use Rattle.fulltext.specs.Calculus.{In}
use Rattle.fulltext.specs.Positions.{limit, smallest_of}
use Rattle.fulltext.specs.Paragraphs.{para_start}
use Rattle.fulltext.specs.Inner.Paragraphs.{first_start, needed_start}
use Rattle.fulltext.proofs.Laws.Positions.{in-none, in-here, in-later, smallest-at}
use Rattle.fulltext.proofs.Laws.Paragraphs.{para-told}

-- r is the least of some starts, or 65,536 where there is none
abbrev FirstAt : List ℕ → ℕ → Type 0
FirstAt ss r = ((r ≡ limit) × ((s : ℕ) → In s ss → ⊥)) ⊎ (In r ss × ((s : ℕ) → In s ss → r ≤ s))

-- the smallest is an element
smallest_in : (x : ℕ) (xs : List ℕ) → In (smallest_of x xs) (x ∷ xs)
smallest_in x [] = in-here x x [] refl
smallest_in x (y ∷ ys) =
    ⊎_elim
    (λ (h : smallest_of y ys < x). let e : min x (smallest_of y ys) ≡ smallest_of y ys = omega arith in rw e (in-later (smallest_of y ys) x (y ∷ ys) (smallest_in y ys)))
    (λ (h : x ≤ smallest_of y ys). in-here (min x (smallest_of y ys)) x (y ∷ ys) (omega arith))
    (below_or (smallest_of y ys) x)

module _ (ss : List ℕ) where
  first-told : FirstAt ss (first_start ss)
  unfolding first_start
  first-told = go ss
    where
      go : (xs : List ℕ) → FirstAt xs (first_start xs)
      go [] = inl (refl, λ s i. in-none s i)
      go (x ∷ xs) = inr (smallest_in x xs, λ s i. let l = smallest-at x xs i.0 i.1 in omega (arith, i.2))

  pub first-is : (r : ℕ) → FirstAt ss r → r ≡ first_start ss
  first-is r a =
      ⊎_elim
      (λ x. ⊎_elim (λ y. x.0 ∙ sym y.0) (λ y. absurd (x.1 (first_start ss) y.0)) first-told)
      (λ x. ⊎_elim (λ y. absurd (y.1 r x.0)) (λ y. let h = x.1 (first_start ss) y.0 in let k = y.1 r x.0 in omega arith) first-told)
      a

  -- where starts are positions it is at most 65,536
  first-most : ((s : ℕ) → In s ss → s < limit) → first_start ss ≤ limit
  first-most below = ⊎_elim (λ x. let e : first_start ss ≡ limit = x.0 in omega arith) (λ x. let l = below (first_start ss) x.0 in omega arith) first-told

  -- below that it is a start
  first_in : first_start ss < limit → In (first_start ss) ss
  first_in h = ⊎_elim (λ x. let e : first_start ss ≡ limit = x.0 in absurd (let z : ⊥ = omega arith in z)) (λ x. x.0) first-told

  -- no start is in front of it
  first-least : (s : ℕ) → In s ss → first_start ss ≤ s
  first-least s i = ⊎_elim (λ x. absurd (x.1 s i)) (λ x. x.1 s i) first-told

-- what is needed beside p, which is r: where r is not above p, it is a start and none follows up to p; else no start is in front of r
pub record Needed (ss : List ℕ) (p r : ℕ) : Type 0 where
  pub most : r ≤ limit
  pub start : r ≤ p → In r ss
  pub last : (s : ℕ) → In s ss → s ≤ p → s ≤ r
  pub none_before : p < r → (s : ℕ) → In s ss → r ≤ s

module _ (ss : List ℕ) (p : ℕ) where
  pub needed-bare : para_start ss p ≡ limit → first_start ss ≡ needed_start ss p
  unfolding needed_start
  needed-bare e = rw e refl

  pub needed_para : para_start ss p ≢ limit → para_start ss p ≡ needed_start ss p
  unfolding needed_start
  needed_para n = rw (decides.fails (eqb_decides (para_start ss p) limit) n) refl

  pub needed-told : ((s : ℕ) → In s ss → s < limit) → p < limit → Needed ss p (needed_start ss p)
  needed-told below small = ⊎_elim bare there (para-told ss p)
    where
      first : ((s : ℕ) → In s ss → s ≤ p → ⊥) → Needed ss p (first_start ss)
      first none = record {
        most = first-most ss below;
        start = λ h. first_in ss (omega arith);
        last = λ s i h. absurd (none s i h);
        none_before = λ h. first-least ss;
      }

      bare : (para_start ss p ≡ limit) × ((s : ℕ) → In s ss → s ≤ p → ⊥) → Needed ss p (needed_start ss p)
      bare x = rw (← needed-bare x.0) (first x.1)

      there : In (para_start ss p) ss × ((para_start ss p ≤ p) × ((s : ℕ) → In s ss → s ≤ p → s ≤ para_start ss p)) → Needed ss p (needed_start ss p)
      there x = let h : para_start ss p ≤ p = x.1.0 in rw (← needed_para (λ e. omega arith)) (record {
        most = omega arith;
        start = λ k. x.0;
        last = x.1.1;
        none_before = λ k s i. absurd (let z : ⊥ = omega arith in z);
      })
