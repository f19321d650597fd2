-- The order of tuples, two or three at a time. No contract cites this file.
--     cons_decides, cons-less, cons-more, cons_same, cons-not      what it says of two tuples, by their first positions
--     precedes-none                    nothing comes before the tuple of none
--     irreflexive, transitive, total   it is strict, and total among tuples with as many positions; `ordering` has all three
--     not_after                        of two tuples not both come before the other
--     not_earlier, earlier             a tuple before a bound and one that is not: which of the two comes first
--     above-not                        a tuple that is in each variable at or behind another does not come before it
-- Bounds are a tuple with zeros behind variable k. An attempt at them looks for the least tuple at or behind them, with their positions in front of k.
--     SameFront, ZerosBehind           two tuples with one front; zeros behind a variable
--     hit-not                          where it finds one, no tuple from the bounds on comes before that one
--     miss-before                      where it finds none and k is 0, every tuple comes before the bounds
--     miss-same                        where it finds none, the next bounds are one more at variable k − 1 and zeros behind it
--     step_same                        behind a tuple come those from one more at its last variable on
-- Assumes nothing.
use Prim.Native.Nat.{ℕ, zero, suc, ◌+◌, ◌<◌, ◌≤◌}
use native.Mathlib.Omega.{arith}
use mathlib.Core.Path.{◌≡◌, refl, sym, ap, ap₂, ◌∙◌}
use mathlib.Core.Bool.{true, false, not}
use mathlib.Core.Logic.{◌⊎◌, inl, inr, ⊎_elim}
use mathlib.Core.List.{List, [], ◌∷◌}
use lib.ListN.{length}
use Rattle.seq.proofs.Laws.Tests.{true_or, contrary, below_or}
use Rattle.seq.proofs.Laws.Decides as decides
use Rattle.seq.proofs.Laws.Decides.{Decides, ltb_decides, eqb_decides, and_decides, or_decides, iff_decides}
use Rattle.fulltext.specs.Calculus.{at}
use Rattle.fulltext.specs.Matches.{◌⊑◌}
use Rattle.fulltext.specs.Order.{precedes}
use Rattle.fulltext.specs.Demands.{Ordering}

-- of two numbers the first is smaller, or they are one, or it is larger
compare : {C : Type 0} (p q : ℕ) → (p < q → C) → (p ≡ q → C) → (q < p → C) → C
compare p q less same more =
    ⊎_elim (λ (h : p < q). less h) (λ (h : q ≤ p). ⊎_elim (λ (k : q < p). more k) (λ (k : p ≤ q). same (omega arith)) (below_or q p)) (below_or p q)

module _ (p : ℕ) (ps : List ℕ) (q : ℕ) (qs : List ℕ) where
  cons_decides : Decides (precedes (p ∷ ps) (q ∷ qs)) ((p < q) ⊎ ((p ≡ q) × (precedes ps qs ≡ true)))
  unfolding precedes
  cons_decides = or_decides (ltb_decides p q) (and_decides (eqb_decides p q) (iff_decides (λ e. e, λ e. e)))

  pub cons-less : p < q → precedes (p ∷ ps) (q ∷ qs) ≡ true
  cons-less h = decides.holds cons_decides (inl h)

  cons-more : q < p → precedes (p ∷ ps) (q ∷ qs) ≡ false
  cons-more h = decides.fails cons_decides (⊎_elim (λ (k : p < q). omega arith) (λ k. omega (arith, k.0)))

  pub cons_same : p ≡ q → precedes (p ∷ ps) (q ∷ qs) ≡ precedes ps qs
  cons_same e =
      ⊎_elim (λ (t : precedes ps qs ≡ true). decides.holds cons_decides (inr (e, t)) ∙ sym t)
      (λ (t : precedes ps qs ≡ false). decides.fails cons_decides (⊎_elim (λ (k : p < q). omega arith) (λ k. contrary k.1 t)) ∙ sym t)
      (true_or (precedes ps qs))

  cons-not : precedes (p ∷ ps) (q ∷ qs) ≡ false → (q < p) ⊎ ((p ≡ q) × (precedes ps qs ≡ false))
  cons-not f = compare p q (λ h. absurd (contrary (cons-less h) f)) (λ e. inr (e, sym (cons_same e) ∙ f)) (λ h. inl h)

precedes-none : (ps : List ℕ) → precedes ps [] ≡ false
unfolding precedes
precedes-none [] = refl
precedes-none (p ∷ ps) = refl

none-precedes : (qs : List ℕ) → precedes [] qs ≡ false
unfolding precedes
none-precedes qs = refl

-- one position more in front, in each variable at or behind
cons-above : (p : ℕ) (ps : List ℕ) (q : ℕ) (qs : List ℕ) → p ≤ q → ps ⊑ qs → (p ∷ ps) ⊑ (q ∷ qs)
cons-above p ps q qs h w zero = h
cons-above p ps q qs h w (suc x) = w x

pub above-not : (ps qs : List ℕ) → ps ⊑ qs → precedes qs ps ≡ false
above-not ps [] h = none-precedes ps
above-not [] (q ∷ qs) h = precedes-none (q ∷ qs)
above-not (p ∷ ps) (q ∷ qs) h =
    compare q p (λ k. absurd (let z : ⊥ = omega (arith, h 0) in z)) (λ e. cons_same q qs p ps e ∙ above-not ps qs (λ x. h (suc x))) (λ k. cons-more q qs p ps k)

pub irreflexive : (ps : List ℕ) → precedes ps ps ≡ false
irreflexive ps = above-not ps ps (λ x. omega arith)

pub transitive : (ps qs rs : List ℕ) → precedes ps qs ≡ true → precedes qs rs ≡ true → precedes ps rs ≡ true
transitive [] qs rs a b = absurd (contrary a (none-precedes qs))
transitive (p ∷ ps) [] rs a b = absurd (contrary a (precedes-none (p ∷ ps)))
transitive (p ∷ ps) (q ∷ qs) [] a b = absurd (contrary b (precedes-none (q ∷ qs)))
transitive (p ∷ ps) (q ∷ qs) (r ∷ rs) a b = go (transitive ps qs rs) ((cons_decides p ps q qs).yes a) ((cons_decides q qs r rs).yes b)
  where
    go : (precedes ps qs ≡ true → precedes qs rs ≡ true → precedes ps rs ≡ true)
        → (p < q) ⊎ ((p ≡ q) × (precedes ps qs ≡ true)) → (q < r) ⊎ ((q ≡ r) × (precedes qs rs ≡ true)) → precedes (p ∷ ps) (r ∷ rs) ≡ true
    go rest (inl h) (inl k) = cons-less p ps r rs (omega arith)
    go rest (inl h) (inr k) = cons-less p ps r rs (omega (arith, k.0))
    go rest (inr h) (inl k) = cons-less p ps r rs (omega (arith, h.0))
    go rest (inr h) (inr k) = cons_same p ps r rs (h.0 ∙ k.0) ∙ rest h.1 k.1

pub total : (ps qs : List ℕ) → length ps ≡ length qs → (precedes ps qs ≡ true) ⊎ ((ps ≡ qs) ⊎ (precedes qs ps ≡ true))
total [] [] n = inr (inl refl)
total [] (q ∷ qs) n = absurd (omega arith)
total (p ∷ ps) [] n = absurd (omega arith)
total (p ∷ ps) (q ∷ qs) n =
    compare p q (λ h. inl (cons-less p ps q qs h)) (λ e. same e (total ps qs (omega arith))) (λ h. inr (inr (cons-less q qs p ps h)))
  where
    same : p ≡ q → (precedes ps qs ≡ true) ⊎ ((ps ≡ qs) ⊎ (precedes qs ps ≡ true))
        → (precedes (p ∷ ps) (q ∷ qs) ≡ true) ⊎ (((p ∷ ps) ≡ (q ∷ qs)) ⊎ (precedes (q ∷ qs) (p ∷ ps) ≡ true))
    same e (inl a) = inl (cons_same p ps q qs e ∙ a)
    same e (inr (inl s)) = inr (inl (ap₂ (λ (x : ℕ) (xs : List ℕ). x ∷ xs) e s))
    same e (inr (inr a)) = inr (inr (cons_same q qs p ps (sym e) ∙ a))

pub ordering : Ordering
ordering = record { irreflexive = irreflexive; transitive = transitive; total = total }

pub not_after : (ps qs : List ℕ) → precedes ps qs ≡ true → precedes qs ps ≡ false
not_after ps qs a = ⊎_elim (λ (b : precedes qs ps ≡ true). absurd (contrary (transitive ps qs ps a b) (irreflexive ps))) (λ b. b) (true_or (precedes qs ps))

-- ps is not before a bound, so neither is what comes behind ps
pub not_earlier : (bs ps qs : List ℕ) → precedes ps bs ≡ false → precedes ps qs ≡ true → precedes qs bs ≡ false
not_earlier bs ps qs f a = ⊎_elim (λ (b : precedes qs bs ≡ true). absurd (contrary (transitive ps qs bs a b) f)) (λ b. b) (true_or (precedes qs bs))

-- ps comes before a bound and ts does not, so ps comes before ts, if ts has a position for each of ps
pub earlier : (bs ps ts : List ℕ) → length ps ≤ length ts → precedes ps bs ≡ true → precedes ts bs ≡ false → precedes ps ts ≡ true
earlier bs [] ts n a f = absurd (contrary a (none-precedes bs))
earlier [] (p ∷ ps) ts n a f = absurd (contrary a (precedes-none (p ∷ ps)))
earlier (b ∷ bs) (p ∷ ps) [] n a f = absurd (omega arith)
earlier (b ∷ bs) (p ∷ ps) (t ∷ ts) n a f = go (earlier bs ps ts (omega arith)) ((cons_decides p ps b bs).yes a) (cons-not t ts b bs f)
  where
    go : (precedes ps bs ≡ true → precedes ts bs ≡ false → precedes ps ts ≡ true)
        → (p < b) ⊎ ((p ≡ b) × (precedes ps bs ≡ true)) → (b < t) ⊎ ((t ≡ b) × (precedes ts bs ≡ false)) → precedes (p ∷ ps) (t ∷ ts) ≡ true
    go rest (inl h) (inl k) = cons-less p ps t ts (omega arith)
    go rest (inl h) (inr k) = cons-less p ps t ts (omega (arith, k.0))
    go rest (inr h) (inl k) = cons-less p ps t ts (omega (arith, h.0))
    go rest (inr h) (inr k) = cons_same p ps t ts (h.0 ∙ sym k.0) ∙ rest h.1 k.1

-- ps has the positions of qs in front of variable k
abbrev pub SameFront : ℕ → List ℕ → List ℕ → Type 0
SameFront k ps qs = (x : ℕ) → x < k → at ps x ≡ at qs x

-- zeros behind variable k
abbrev pub ZerosBehind : ℕ → List ℕ → Type 0
ZerosBehind k ps = (x : ℕ) → k < x → at ps x ≡ 0

-- one position more in front
cons-front : (k p : ℕ) (ps : List ℕ) (q : ℕ) (qs : List ℕ) → p ≡ q → SameFront k ps qs → SameFront (suc k) (p ∷ ps) (q ∷ qs)
cons-front k p ps q qs e s zero h = e
cons-front k p ps q qs e s (suc x) h = s x (omega arith)

-- with zeros behind the first number, what does not come before the bounds is at or behind them
zeros-above : (ls qs : List ℕ) → length qs ≡ length ls → ZerosBehind 0 ls → precedes qs ls ≡ false → ls ⊑ qs
zeros-above [] qs n z f = λ x. omega arith
zeros-above (l ∷ ls) [] n z f = absurd (omega arith)
zeros-above (l ∷ ls) (q ∷ qs) n z f =
    cons-above l ls q qs (⊎_elim (λ (h : l < q). omega arith) (λ h. omega (arith, h.0)) (cons-not q qs l ls f)) (λ x. omega (arith, z (suc x) (omega arith)))

-- the tuple ps has the bounds' front and is in each variable at or in front of every tuple at or behind them
pub hit-not : (k : ℕ) (ls ps qs : List ℕ) → length qs ≡ length ls → ZerosBehind k ls → SameFront k ps ls → (ls ⊑ qs → ps ⊑ qs)
    → precedes qs ls ≡ false → precedes qs ps ≡ false
hit-not zero ls ps qs n z s le f = above-not ps qs (le (zeros-above ls qs n z f))
hit-not (suc k) ls ps [] n z s le f = none-precedes ps
hit-not (suc k) ls [] (q ∷ qs) n z s le f = precedes-none (q ∷ qs)
hit-not (suc k) [] (p ∷ ps) (q ∷ qs) n z s le f = absurd (omega arith)
hit-not (suc k) (l ∷ ls) (p ∷ ps) (q ∷ qs) n z s le f =
    go (hit-not k ls ps qs (omega arith) (λ x m. z (suc x) (omega arith)) (λ x m. s (suc x) (omega arith))) (s 0 (omega arith)) (cons-not q qs l ls f)
  where
    go : ((ls ⊑ qs → ps ⊑ qs) → precedes qs ls ≡ false → precedes qs ps ≡ false)
        → p ≡ l → (l < q) ⊎ ((q ≡ l) × (precedes qs ls ≡ false)) → precedes (q ∷ qs) (p ∷ ps) ≡ false
    go rest e (inl h) = cons-more q qs p ps (omega arith)
    go rest e (inr h) = cons_same q qs p ps (h.0 ∙ sym e) ∙ rest (λ m x. le (cons-above l ls q qs (omega (arith, h.0)) m) (suc x)) h.1

pub miss-before : (ls qs : List ℕ) → length qs ≡ length ls → ZerosBehind 0 ls → (ls ⊑ qs → ⊥) → precedes qs ls ≡ true
miss-before ls qs n z miss = ⊎_elim (λ t. t) (λ f. absurd (miss (zeros-above ls qs n z f))) (true_or (precedes qs ls))

-- cs has one more than ls at variable j and zeros behind it: they come behind the same tuples, but for those at or behind ls with its positions
-- up to j
pub miss-same : (j : ℕ) (ls cs qs : List ℕ) → j < length ls → length qs ≡ length ls → length cs ≡ length ls → ZerosBehind (j + 1) ls
    → SameFront j cs ls → at cs j ≡ at ls j + 1 → ZerosBehind j cs → (SameFront (j + 1) qs ls → ls ⊑ qs → ⊥) → precedes qs ls ≡ precedes qs cs
miss-same j [] cs qs i n m z s o y miss = absurd (omega arith)
miss-same j (l ∷ ls) [] qs i n m z s o y miss = absurd (omega arith)
miss-same j (l ∷ ls) (c ∷ cs) [] i n m z s o y miss = absurd (omega arith)
miss-same zero (l ∷ ls) (c ∷ cs) (q ∷ qs) i n m z s o y miss =
    compare q l
    (λ h. cons-less q qs l ls h ∙ sym (cons-less q qs c cs (omega arith)))
    (λ e. cons_same q qs l ls e ∙ miss-before ls qs (omega arith) (λ x h. z (suc x) (omega arith)) (missed e) ∙ sym (cons-less q qs c cs (omega arith)))
    (λ h. cons-more q qs l ls h ∙ sym (above-not (c ∷ cs) (q ∷ qs) (cons-above c cs q qs (omega arith) (λ x. omega (arith, y (suc x) (omega arith))))))
  where
    missed : q ≡ l → ls ⊑ qs → ⊥
    missed e w = miss (cons-front 0 q qs l ls e (λ x h. absurd (omega arith))) (cons-above l ls q qs (omega arith) w)
miss-same (suc j) (l ∷ ls) (c ∷ cs) (q ∷ qs) i n m z s o y miss =
    let e : c ≡ l = s 0 (omega arith) in
    let rest = miss-same j ls cs qs (omega arith) (omega arith) (omega arith) (λ x h. z (suc x) (omega arith)) (λ x h. s (suc x) (omega arith)) o (λ x h. y (suc x) (omega arith)) in
    compare q l
    (λ h. cons-less q qs l ls h ∙ sym (cons-less q qs c cs (omega arith)))
    (λ g. cons_same q qs l ls g ∙ rest (missed g) ∙ sym (cons_same q qs c cs (g ∙ sym e)))
    (λ h. cons-more q qs l ls h ∙ sym (cons-more q qs c cs (omega arith)))
  where
    missed : q ≡ l → SameFront (j + 1) qs ls → ls ⊑ qs → ⊥
    missed g a w = miss (λ x h. cons-front (j + 1) q qs l ls g a x (omega arith)) (cons-above l ls q qs (omega arith) w)

-- cs is ps with one more at its last variable j
pub step_same : (j : ℕ) (ps cs qs : List ℕ) → length ps ≡ j + 1 → length qs ≡ length ps → length cs ≡ length ps → SameFront j cs ps → at cs j ≡ at ps j + 1
    → not (precedes qs cs) ≡ precedes ps qs
step_same j [] cs qs i n m s o = absurd (omega arith)
step_same j (p ∷ ps) [] qs i n m s o = absurd (omega arith)
step_same j (p ∷ ps) (c ∷ cs) [] i n m s o = absurd (omega arith)
step_same zero (p ∷ ps) (c ∷ cs) (q ∷ qs) i n m s o =
    ⊎_elim (λ (h : p < q). ap not (above-not (c ∷ cs) (q ∷ qs) (cons-above c cs q qs (omega arith) (alone cs qs (omega arith)))) ∙ sym (cons-less p ps q qs h))
    (λ (h : q ≤ p). ap not (cons-less q qs c cs (omega arith)) ∙ sym (above-not (q ∷ qs) (p ∷ ps) (cons-above q qs p ps h (alone qs ps (omega arith)))))
    (below_or p q)
  where
    alone : (rs ts : List ℕ) → length rs ≡ 0 → rs ⊑ ts
    alone [] ts e x = omega arith
    alone (r ∷ rs) ts e x = absurd (omega arith)
step_same (suc j) (p ∷ ps) (c ∷ cs) (q ∷ qs) i n m s o =
    let e : c ≡ p = s 0 (omega arith) in
    let rest = step_same j ps cs qs (omega arith) (omega arith) (omega arith) (λ x h. s (suc x) (omega arith)) o in
    compare q p
    (λ h. ap not (cons-less q qs c cs (omega arith)) ∙ sym (cons-more p ps q qs h))
    (λ g. ap not (cons_same q qs c cs (g ∙ sym e)) ∙ rest ∙ sym (cons_same p ps q qs (sym g)))
    (λ h. ap not (cons-more q qs c cs (omega arith)) ∙ sym (cons-less p ps q qs h))
