-- Lists and runs that rise: as a test, as a fact on neighbours, and step by step. No contract cites this file.
--     rises_decides, falls_decides            `rises` decides Rising, and its negation NotRising
--     above-le, rises-tail                    a list that rises from above b rises from above each a ≤ b; what is left of one that rises
--     above-elem                              each element is above
--     rising_append                           two lists that rise, one behind the other
--     rises-none, rises-suc, rises-start      the first value of a run
--     above-next, above_stop, above-done      the next value, in a walk that is at i and ends at e
-- Assumes nothing.
use Prim.Native.Nat.{ℕ, zero, suc, ◌+◌, ◌-◌, ◌<◌, ◌≤◌}
use native.Mathlib.Nat.{suc-add}
use native.Mathlib.Numerals.{add-one}
use native.Mathlib.Omega.{arith}
use mathlib.Core.Path.{◌≡◌, refl, ap, ◌∙◌}
use mathlib.Core.Bool.{Bool, true, false, not, ◌&&◌}
use mathlib.Core.Logic.{⊎_elim}
use mathlib.Core.List.{List, [], ◌∷◌, ◌++◌}
use lib.ListN.{length, get_or, length-append, get_or-append}
use lib.Seq.{get_or-append-add}
use lib.Dec.{ltb}
use borrow.Author.Tests.{ltb-true, ltb-false, lt-ltb, not-true, not-false}
use Rattle.seq.specs.Lists.{above, rises, Rising, NotRising}
use Rattle.seq.specs.Numbers.{run}
use Rattle.seq.proofs.Laws.Tests.{both, both_true, below_or}
use Rattle.seq.proofs.Laws.Decides.{Decides}
use Rattle.seq.proofs.Laws.Lists.{above-here, above-fall}
use Rattle.seq.proofs.Laws.Numbers.{run_end, run_step}

-- one more in front of a list that rises
rising_cons : (a x : ℕ) (xs : List ℕ) → a < x → Rising (x ∷ xs) → Rising (a ∷ x ∷ xs)
rising_cons a x xs h r zero l = h
rising_cons a x xs h r (suc j) l = rw (suc-add j 1) (r j (omega arith))

above-rising : (a : ℕ) (xs : List ℕ) → above a xs ≡ true → Rising (a ∷ xs)
unfolding above
above-rising a [] e = λ j l. absurd (omega arith)
above-rising a (x ∷ xs) e = let w = both (ltb a x) (above x xs) e in rising_cons a x xs (ltb-true a x w.0) (above-rising x xs w.1)

above-falls : (a : ℕ) (xs : List ℕ) → above a xs ≡ false → NotRising (a ∷ xs)
unfolding above
above-falls a [] e = absurd (mathlib.Core.Bool.true≢false e)
above-falls a (x ∷ xs) e = go (ltb a x) refl (above-falls x xs) e
  where
    later : NotRising (x ∷ xs) → NotRising (a ∷ x ∷ xs)
    later n = (suc n.0, let h : n.0 + 1 < suc (length xs) = n.1 in omega arith, rw (suc-add n.0 1) n.2)

    go : (t : Bool) → ltb a x ≡ t → (above x xs ≡ false → NotRising (x ∷ xs)) → (ltb a x && above x xs) ≡ false → NotRising (a ∷ x ∷ xs)
    go true q rest f = later (rest (rw q at f))
    go false q rest f = (0, omega arith, ltb-false a x q)

pub rises-rising : (xs : List ℕ) → rises xs ≡ true → Rising xs
unfolding rises
rises-rising [] e = λ j l. absurd (omega arith)
rises-rising (x ∷ xs) e = above-rising x xs e

rises-falls : (xs : List ℕ) → rises xs ≡ false → NotRising xs
unfolding rises
rises-falls [] e = absurd (mathlib.Core.Bool.true≢false e)
rises-falls (x ∷ xs) e = above-falls x xs e

-- a list does not both rise and not rise
not-both_ways : (xs : List ℕ) → Rising xs → NotRising xs → ⊥
not-both_ways xs r n = let h : get_or xs n.0 0 < get_or xs (n.0 + 1) 0 = r n.0 n.1 in omega (arith, n.2)

pub rises_decides : (xs : List ℕ) → Decides (rises xs) (Rising xs)
rises_decides xs = record { yes = rises-rising xs; no = λ e r. not-both_ways xs r (rises-falls xs e) }

pub falls_decides : (xs : List ℕ) → Decides (not (rises xs)) (NotRising xs)
falls_decides xs = record {
  yes = λ e. rises-falls xs (not-true (rises xs) e);
  no = λ e. not-both_ways xs (rises-rising xs (not-false (rises xs) e));
}

pub above-le : (a b : ℕ) (xs : List ℕ) → a ≤ b → above b xs ≡ true → above a xs ≡ true
unfolding above
above-le a b [] h e = refl
above-le a b (x ∷ xs) h e =
    let w = both (ltb b x) (above x xs) e in
    let l : b < x = ltb-true b x w.0 in
    both_true (ltb a x) (above x xs) (lt-ltb a x (omega arith)) w.1

pub rises-tail : (x : ℕ) (xs : List ℕ) → rises (x ∷ xs) ≡ true → rises xs ≡ true
unfolding rises above
rises-tail x [] e = refl
rises-tail x (y ∷ xs) e = (both (ltb x y) (above y xs) e).1

-- each element of a list that rises from above a is above a
pub above-elem : (a : ℕ) (xs : List ℕ) → above a xs ≡ true → (i : ℕ) → i < length xs → a < get_or xs i 0
unfolding above
above-elem a [] e i l = absurd (omega arith)
above-elem a (x ∷ xs) e zero l = ltb-true a x (both (ltb a x) (above x xs) e).0
above-elem a (x ∷ xs) e (suc i) l =
    let w = both (ltb a x) (above x xs) e in
    let h : a < x = ltb-true a x w.0 in
    let k : x < get_or xs i 0 = above-elem x xs w.1 i (omega arith) in
    omega arith

module _ (f : ℕ → ℕ) where
  pub rises-none : (k : ℕ) → rises (run f k 0) ≡ true
  unfolding rises run
  rises-none k = refl

  pub rises-suc : (k m : ℕ) → rises (run f k (suc m)) ≡ above (f k) (run f (suc k) m)
  unfolding rises run
  rises-suc k m = refl

  pub rises-start : (k n : ℕ) → 0 < n → rises (run f k n) ≡ above (f k) (run f (k + 1) (k + n - (k + 1)))
  rises-start k n h =
      let e : n ≡ suc (k + n - (k + 1)) = omega arith in
      ap (λ (m : ℕ). rises (run f k m)) e ∙ rises-suc k (k + n - (k + 1)) ∙ rw (add-one k)

  pub above-next : (a i e : ℕ) → i < e → a < f i → above a (run f i (e - i)) ≡ above (f i) (run f (i + 1) (e - (i + 1)))
  above-next a i e h u = rw (run_step f i e h) (above-here a (f i) (run f (i + 1) (e - (i + 1))) u)

  pub above_stop : (a i e : ℕ) → i < e → f i ≤ a → above a (run f i (e - i)) ≡ false
  above_stop a i e h u = rw (run_step f i e h) (above-fall a (f i) (run f (i + 1) (e - (i + 1))) u)

  pub above-done : (a i e : ℕ) → e ≤ i → above a (run f i (e - i)) ≡ true
  unfolding above
  above-done a i e h = rw (run_end f i e h)

-- two lists that rise, each element of the first below each of the second
pub rising_append : (xs ys : List ℕ) → Rising xs → Rising ys → ((i j : ℕ) → i < length xs → j < length ys → get_or xs i 0 < get_or ys j 0) → Rising (xs ++ ys)
rising_append xs ys rx ry low j k = ⊎_elim front (λ l. ⊎_elim edge behind (below_or j (length xs))) (below_or (j + 1) (length xs))
  where
    n : length (xs ++ ys) ≡ length xs + length ys
    n = length-append xs ys

    at-behind : (i : ℕ) → length xs ≤ i → get_or (xs ++ ys) i 0 ≡ get_or ys (i - length xs) 0
    at-behind i l = let e : i ≡ length xs + (i - length xs) = omega arith in ap (λ (m : ℕ). get_or (xs ++ ys) m 0) e ∙ get_or-append-add xs ys (i - length xs) 0

    front : j + 1 < length xs → get_or (xs ++ ys) j 0 < get_or (xs ++ ys) (j + 1) 0
    front l =
        let q : j < length xs = omega arith in
        rw (get_or-append xs ys 0 j q, get_or-append xs ys 0 (j + 1) l) (rx j l)

    edge : j < length xs → get_or (xs ++ ys) j 0 < get_or (xs ++ ys) (j + 1) 0
    edge l =
        ⊎_elim front
        (λ (m : length xs ≤ j + 1). let z = n in rw (get_or-append xs ys 0 j l, at-behind (j + 1) m) (low j (j + 1 - length xs) l (omega arith)))
        (below_or (j + 1) (length xs))

    behind : length xs ≤ j → get_or (xs ++ ys) j 0 < get_or (xs ++ ys) (j + 1) 0
    behind l =
        let e : j + 1 - length xs ≡ j - length xs + 1 = omega arith in
        let z = n in
        rw (at-behind j l, at-behind (j + 1) (omega arith), e) (ry (j - length xs) (omega arith))
