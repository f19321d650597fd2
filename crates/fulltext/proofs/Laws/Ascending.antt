-- Lists of tuples in order. No contract cites this file.
--     Ascending                            each tuple comes before those behind it
--     ascending_append, ascending-map, ascending-keep      lists in two parts, with one position in front of each tuple, and of those that pass a test
--     ascending-index                      by index
--     tuples-ascend, matches-ascend        the tuples of lists that rise are in order, and so are the matches
--     first-is                             the first that passes a test
--     not_before-next                       the first that is not before a bound, and those behind it
--     not_before_on                         from one of them on they are the ones from its place on
--     before-parts                         those before a bound, in two parts
-- Assumes nothing.
use Prim.Native.Nat.{ℕ, zero, suc, ◌<◌, ◌≤◌}
use native.Mathlib.Omega.{arith}
use mathlib.Core.Path.{◌≡◌, refl, sym, ap, ◌∙◌}
use mathlib.Core.Bool.{Bool, true, false, not}
use mathlib.Core.Logic.{⊎_elim, inl, inr}
use mathlib.Core.List.{List, [], ◌∷◌, ◌++◌, map}
use mathlib.Core.Option.{some}
use lib.ListN.{length, get_or, take, drop}
use lib.Dec.{ltb}
use borrow.Author.Tests.{ltb-true}
use Rattle.seq.specs.Lists.{cons_if, keep, above, rises, first}
use Rattle.seq.proofs.Laws.Tests.{both, true_or, contrary}
use Rattle.seq.proofs.Laws.Rising.{above-le, rises-tail}
use Rattle.seq.proofs.Laws.Keep.{keep_pass, keep_fail}
use Rattle.seq.proofs.Laws.Members.{Has, Every, has_every, every_append, every_as, every_any, every_map, every-index, every-keep, has-keep, first_has, keep-whole}
use Rattle.plan.specs.declared.row.Predicate.{Predicate}
use Rattle.fulltext.specs.Matches.{all_hold, with_each, tuples, matches}
use Rattle.fulltext.specs.Order.{precedes, before, not_before}
use Rattle.fulltext.proofs.Laws.Least.{Rise}
use Rattle.fulltext.proofs.Laws.Order.{cons-less, cons_same, irreflexive, not_after, not_earlier, earlier}

-- every one of several tuples comes behind x
abbrev Behind : List ℕ → List (List ℕ) → Type 0
Behind x ys = Every (λ y. precedes x y ≡ true) ys

-- each tuple comes before those behind it
abbrev pub Ascending : List (List ℕ) → Type 0
Ascending [] = Unit
Ascending (x ∷ xs) = Behind x xs × Ascending xs

ascending_append : (xs ys : List (List ℕ)) → Ascending xs → Ascending ys → Every (λ x. Behind x ys) xs → Ascending (xs ++ ys)
ascending_append [] ys a b c = b
ascending_append (x ∷ xs) ys a b c = (every_append (λ y. precedes x y ≡ true) xs ys a.0 c.0, ascending_append xs ys a.1 b c.1)

ascending-map : (p : ℕ) (xs : List (List ℕ)) → Ascending xs → Ascending (map (λ r. p ∷ r) xs)
ascending-map p [] a = a
ascending-map p (x ∷ xs) a = (
  every_map (λ r. p ∷ r) (λ y. precedes (p ∷ x) y ≡ true) xs
      (every_as (λ y. precedes x y ≡ true) (λ r. precedes (p ∷ x) (p ∷ r) ≡ true) (λ r h. cons_same p x p r refl ∙ h) xs a.0),
  ascending-map p xs a.1,
)

pub ascending-keep : (test : List ℕ → Bool) (xs : List (List ℕ)) → Ascending xs → Ascending (keep test xs)
unfolding keep
ascending-keep test [] a = a
ascending-keep test (x ∷ xs) a = go (test x) (ascending-keep test xs a.1)
  where
    go : (t : Bool) → Ascending (keep test xs) → Ascending (cons_if t x (keep test xs))
    go true b = (every-keep (λ y. precedes x y ≡ true) test xs a.0, b)
    go false b = b

pub ascending-index : (xs : List (List ℕ)) → Ascending xs → (i j : ℕ) → i < j → j < length xs → precedes (get_or xs i []) (get_or xs j []) ≡ true
ascending-index [] a i j h l = absurd (omega arith)
ascending-index (x ∷ xs) a i zero h l = absurd (omega arith)
ascending-index (x ∷ xs) a zero (suc j) h l = every-index (λ y. precedes x y ≡ true) [] xs a.0 j (omega arith)
ascending-index (x ∷ xs) a (suc i) (suc j) h l = ascending-index xs a.1 i j (omega arith) (omega arith)

-- a tuple whose first position is behind a
abbrev Later : ℕ → List ℕ → Type 0
Later a [] = ⊥
Later a (q ∷ qs) = a < q

later-behind : (p : ℕ) (r qs : List ℕ) → Later p qs → precedes (p ∷ r) qs ≡ true
later-behind p r [] h = absurd h
later-behind p r (q ∷ qs) h = cons-less p r q qs h

with_each-later : (a : ℕ) (l : List ℕ) (rest : List (List ℕ)) → above a l ≡ true → Every (Later a) (with_each l rest)
unfolding with_each above
with_each-later a [] rest e = tt
with_each-later a (q ∷ l) rest e =
    let w = both (ltb a q) (above q l) e in
    let h : a < q = ltb-true a q w.0 in
    every_append (Later a) (map (λ r. q ∷ r) rest) (with_each l rest) (every_map (λ r. q ∷ r) (Later a) rest (every_any (λ r. Later a (q ∷ r)) (λ r. h) rest))
    (with_each-later a l rest (above-le a q l (omega arith) w.1))

with_each_ascends : (l : List ℕ) (rest : List (List ℕ)) → rises l ≡ true → Ascending rest → Ascending (with_each l rest)
unfolding with_each rises
with_each_ascends [] rest e a = tt
with_each_ascends (p ∷ l) rest e a =
    ascending_append (map (λ r. p ∷ r) rest) (with_each l rest) (ascending-map p rest a) (with_each_ascends l rest (rises-tail p l e) a)
    (every_map (λ r. p ∷ r) (λ x. Behind x (with_each l rest)) rest
    (every_any (λ r. Behind (p ∷ r) (with_each l rest)) (λ r. every_as (Later p) (λ y. precedes (p ∷ r) y ≡ true) (later-behind p r) (with_each l rest) (with_each-later p l rest e)) rest))

tuples-ascend : (vs : List (List ℕ)) → Rise vs → Ascending (tuples vs)
unfolding tuples
tuples-ascend [] up = (tt, tt)
tuples-ascend (l ∷ vs) up = with_each_ascends l (tuples vs) (up 0) (tuples-ascend vs (λ x. up (suc x)))

pub matches-ascend : (ss : List ℕ) (vs : List (List ℕ)) (cs : List Predicate) → Rise vs → Ascending (matches ss vs cs)
unfolding matches
matches-ascend ss vs cs up = ascending-keep (λ ps. all_hold ss cs ps) (tuples vs) (tuples-ascend vs up)

-- the tuple that passes a test, and before which none comes that passes, is the first of those that pass
module _ (test : List ℕ → Bool) (x : List ℕ) (t : test x ≡ true) where
  pub first-is : (xs : List (List ℕ)) → Ascending xs → Has x xs → ((y : List ℕ) → Has y xs → test y ≡ true → precedes y x ≡ false) → first (keep test xs) ≡ some x
  first-is [] a h low = absurd h
  first-is (y ∷ ys) a h low = ⊎_elim here (λ e. later e (first-is ys a.1 (rest e) (λ z k. low z (inr k)))) (true_or (test y))
    where
      rest : test y ≡ false → Has x ys
      rest e = ⊎_elim (λ (q : y ≡ x). absurd (contrary (ap test q ∙ t) e)) (λ (k : Has x ys). k) h

      here : test y ≡ true → first (keep test (y ∷ ys)) ≡ some x
      here e =
          ap first (keep_pass test y ys e)
          ∙ ap some (⊎_elim (λ (q : y ≡ x). q) (λ (k : Has x ys). absurd (contrary (has_every (λ z. precedes y z ≡ true) x ys a.0 k) (low y (inl refl) e))) h)

      later : test y ≡ false → first (keep test ys) ≡ some x → first (keep test (y ∷ ys)) ≡ some x
      later e r = ap first (keep_fail test y ys e) ∙ r

-- one tuple in front
module _ (bs x : List ℕ) (xs : List (List ℕ)) where
  not_before_pass : precedes x bs ≡ false → not_before bs (x ∷ xs) ≡ x ∷ not_before bs xs
  unfolding not_before
  not_before_pass f = keep_pass (λ y. not (precedes y bs)) x xs (ap not f)

  not_before_fail : precedes x bs ≡ true → not_before bs (x ∷ xs) ≡ not_before bs xs
  unfolding not_before
  not_before_fail t = keep_fail (λ y. not (precedes y bs)) x xs (ap not t)

  -- x is not before the bound, so none that comes behind x is
  not_before-whole : precedes x bs ≡ false → Behind x xs → not_before bs xs ≡ xs
  unfolding not_before
  not_before-whole f a = keep-whole (λ y. not (precedes y bs)) xs (every_as (λ y. precedes x y ≡ true) (λ y. not (precedes y bs) ≡ true) (λ y h. ap not (not_earlier bs x y f h)) xs a)

-- the first that is not before a bound, and those that come behind it
pub not_before-next : (bs : List ℕ) (xs : List (List ℕ)) → Ascending xs → (x : List ℕ) → first (not_before bs xs) ≡ some x → not_before bs xs ≡ x ∷ keep (λ y. precedes x y) xs
unfolding not_before
not_before-next bs [] a x e = absurd (first_has x (keep (λ y. not (precedes y bs)) []) e)
not_before-next bs (y ∷ ys) a x e = ⊎_elim (λ t. later t (not_before-next bs ys a.1 x)) here (true_or (precedes y bs))
  where
    here : precedes y bs ≡ false → not_before bs (y ∷ ys) ≡ x ∷ keep (λ z. precedes x z) (y ∷ ys)
    here f =
        not_before_pass bs y ys f
        ∙ ap (λ (l : List (List ℕ)). y ∷ l)
        (not_before-whole bs y ys f a.0 ∙ sym (keep-whole (λ z. precedes y z) ys a.0) ∙ sym (keep_fail (λ z. precedes y z) y ys (irreflexive y)))
        ∙ ap (λ (r : List ℕ). r ∷ keep (λ z. precedes r z) (y ∷ ys)) (front (sym (ap first (not_before_pass bs y ys f)) ∙ e))
      where
        front : some y ≡ some x → y ≡ x
        front r = cc

    later : precedes y bs ≡ true → (first (not_before bs ys) ≡ some x → not_before bs ys ≡ x ∷ keep (λ z. precedes x z) ys)
        → not_before bs (y ∷ ys) ≡ x ∷ keep (λ z. precedes x z) (y ∷ ys)
    later t rest =
        let g = not_before_fail bs y ys t in
        let q : first (not_before bs ys) ≡ some x = sym (ap first g) ∙ e in
        let k = (has-keep (λ z. not (precedes z bs)) x ys (first_has x (not_before bs ys) q)).0 in
        g ∙ rest q
        ∙ ap (λ (l : List (List ℕ)). x ∷ l) (sym (keep_fail (λ z. precedes x z) y ys (not_after y x (has_every (λ z. precedes y z ≡ true) x ys a.0 k))))

-- those from the m-th on
pub not_before_on : (xs : List (List ℕ)) → Ascending xs → (m : ℕ) → m < length xs → not_before (get_or xs m []) xs ≡ drop m xs
not_before_on [] a m l = absurd (omega arith)
not_before_on (x ∷ xs) a zero l =
    not_before_pass x x xs (irreflexive x) ∙ ap (λ (r : List (List ℕ)). x ∷ r) (not_before-whole x x xs (irreflexive x) a.0)
not_before_on (x ∷ xs) a (suc m) l =
    not_before_fail (get_or xs m []) x xs (every-index (λ y. precedes x y ≡ true) [] xs a.0 m (omega arith)) ∙ not_before_on xs a.1 m (omega arith)

-- the bound t does not come before the m-th, so those in front of the m-th come before t
pub before-parts : (t : List ℕ) (xs : List (List ℕ)) → Ascending xs → (m : ℕ) → m < length xs → Every (λ x. length x ≤ length t) xs
    → precedes t (get_or xs m []) ≡ false → before t xs ≡ take m xs ++ before t (drop m xs)
unfolding before
before-parts t [] a m l n f = absurd (omega arith)
before-parts t (x ∷ xs) a zero l n f = refl
before-parts t (x ∷ xs) a (suc m) l n f =
    keep_pass (λ y. precedes y t) x xs (earlier (get_or xs m []) x t n.0 (every-index (λ y. precedes x y ≡ true) [] xs a.0 m (omega arith)) f)
    ∙ ap (λ (r : List (List ℕ)). x ∷ r) (before-parts t xs a.1 m (omega arith) n.1 f)
