-- The first match of a pattern is its least match, where the variables' positions rise. No contract cites this file.
--     Rise                         several lists, each of which rises
--     fits-length, match-length    a tuple that fits, or matches, has a position for each variable
--     Closed                       a test that passes for the meet of two tuples that pass
--     Best, best                   among the tuples that pass such a test the first is least in each variable; if there is none, none passes
--     all_hold_iff                  all predicates hold exactly if each does
--     least-is, least_unique       the first match is the match that is least in each variable
--     none_is, none_unique         there is none exactly if nothing matches
--     vars-rise                    the positions of a pattern's variables rise
--     fits_iff                     a tuple fits a pattern's variables exactly if their lists hold its positions
--     least_iff, unfound_iff, found_iff     the least match of a pattern in a document, and whether it is found
--     reaches_decides              a test of `⊑`
--     least_from_iff, unfound_from_iff        the least match that stands at bounds or behind, and whether there is one
--     least_from-all                where every match stands there, it is the least of all
--     least_from-same               bounds that no match from others on is in front of leave the same match least
-- The proof of `best` is an induction on the variables. The first tuple that passes has the least first position x that any has. The meet of it
-- and another one that passes has x in front too, so what stands behind x in the first tuple is at most what stands there in the meet.
-- Assumes nothing.
use Prim.Native.Nat.{ℕ, zero, suc, min, ◌<◌, ◌≤◌}
use native.Mathlib.Omega.{arith}
use mathlib.Core.Path.{◌≡◌, refl, sym, ap, ◌∙◌, subst}
use mathlib.Core.Bool.{Bool, true, false, ◌&&◌, true≢false}
use mathlib.Core.Logic.{⊎_elim, ◌↔◌}
use mathlib.Core.List.{List, [], ◌∷◌, ◌++◌, map}
use mathlib.Core.Option.{Option, none, some}
use lib.ListN.{length, get_or}
use lib.Seq.{ext_get_or}
use Rattle.seq.specs.Lists.{cons_if, keep, elem, first, rises}
use Rattle.seq.proofs.Laws.Tests.{both, both_true, contrary, below_or}
use Rattle.seq.proofs.Laws.Decides as decides
use Rattle.seq.proofs.Laws.Decides.{Decides, eqb_decides, leb_decides, and_decides, same_decides}
use Rattle.seq.proofs.Laws.Lists.{all-each}
use Rattle.seq.proofs.Laws.Rising.{rises-tail}
use Rattle.plan.specs.declared.row.Predicate.{Predicate}
use Rattle.plan.specs.declared.row.Predicate.TheVariants.{Window}
use Rattle.plan.specs.Patterns.{Pattern}
use Rattle.fulltext.specs.Positions.{list_of}
use Rattle.fulltext.specs.Calculus.{at, In, Holds}
use Rattle.fulltext.specs.Matches.{holds, all_hold, fits, is_match, with_each, tuples, matches, starts_in, vars_in, matches_at, least_in, ◌⊑◌, Least}
use Rattle.fulltext.specs.Inner.Bounds.{reaches, MatchFrom, least_from}
use Rattle.fulltext.specs.Documents.{present, found}
use Rattle.fulltext.proofs.Laws.Positions.{elem_decides, in_cons, in-later, in-here, rises-least, positions_hold, positions-rise}
use Rattle.fulltext.proofs.Laws.Needs.{meet, meet-at, holds-meet}

-- each of several lists rises
abbrev pub Rise : List (List ℕ) → Type 0
Rise vs = (x : ℕ) → rises (get_or vs x []) ≡ true

fits-length : (vs : List (List ℕ)) (ps : List ℕ) → fits vs ps ≡ true → length ps ≡ length vs
unfolding fits
fits-length [] [] e = refl
fits-length [] (p ∷ ps) e = absurd (true≢false (sym e))
fits-length (l ∷ vs) [] e = absurd (true≢false (sym e))
fits-length (l ∷ vs) (p ∷ ps) e = ap suc (fits-length vs ps (both (elem p l) (fits vs ps) e).1)

pub match-length : (ss : List ℕ) (vs : List (List ℕ)) (cs : List Predicate) (ps : List ℕ) → is_match ss vs cs ps ≡ true → length ps ≡ length vs
match-length ss vs cs ps e = fits-length vs ps (both (fits vs ps) (all_hold ss cs ps) e).0

-- the lesser of two elements is an element
elem-min : (p q : ℕ) (l : List ℕ) → elem p l ≡ true → elem q l ≡ true → elem (min p q) l ≡ true
elem-min p q l a b = ⊎_elim (λ (h : p < q). let e : min p q ≡ p = omega arith in rw e a) (λ (h : q ≤ p). let e : min p q ≡ q = omega arith in rw e b) (below_or p q)

fits-meet : (vs : List (List ℕ)) (ps qs : List ℕ) → fits vs ps ≡ true → fits vs qs ≡ true → fits vs (meet ps qs) ≡ true
unfolding fits
fits-meet [] [] qs a b = refl
fits-meet [] (p ∷ ps) qs a b = absurd (true≢false (sym a))
fits-meet (l ∷ vs) [] qs a b = absurd (true≢false (sym a))
fits-meet (l ∷ vs) (p ∷ ps) [] a b = absurd (true≢false (sym b))
fits-meet (l ∷ vs) (p ∷ ps) (q ∷ qs) a b =
    let v = both (elem p l) (fits vs ps) a in
    let w = both (elem q l) (fits vs qs) b in
    both_true (elem (min p q) l) (fits vs (meet ps qs)) (elem-min p q l v.0 w.0) (fits-meet vs ps qs v.1 w.1)

-- a test that is closed under meets
abbrev Closed : (List ℕ → Bool) → Type 0
Closed test = (ps qs : List ℕ) → test ps ≡ true → test qs ≡ true → test (meet ps qs) ≡ true

-- x in front of the tuple: still closed
closed-behind : (test : List ℕ → Bool) (x : ℕ) → Closed test → Closed (λ ps. test (x ∷ ps))
closed-behind test x c ps qs a b = let e : min x x ≡ x = omega arith in rw e at (c (x ∷ ps) (x ∷ qs) a b)

-- what a tuple, or none, is to several lists and a test: it passes and is least in each variable, or nothing passes
abbrev Best : (List ℕ → Bool) → List (List ℕ) → Option (List ℕ) → Type 0
Best test vs none = (qs : List ℕ) → fits vs qs ≡ true → test qs ≡ true → ⊥
Best test vs (some ps) = ((fits vs ps ≡ true) × (test ps ≡ true)) × ((qs : List ℕ) → fits vs qs ≡ true → test qs ≡ true → ps ⊑ qs)

-- the first of two lists' elements that pass
abbrev or_else : {A : Type 0} → Option A → Option A → Option A
or_else none b = b
or_else (some x) b = some x

-- x in front of a tuple, if there is one
abbrev front : ℕ → Option (List ℕ) → Option (List ℕ)
front x none = none
front x (some ps) = some (x ∷ ps)

first_append : {A : Type 0} (test : A → Bool) (xs ys : List A) → first (keep test (xs ++ ys)) ≡ or_else (first (keep test xs)) (first (keep test ys))
unfolding keep
first_append test [] ys = refl
first_append {A} test (x ∷ xs) ys = go (test x) (first_append test xs ys)
  where
    go : (t : Bool) → first (keep test (xs ++ ys)) ≡ or_else (first (keep test xs)) (first (keep test ys))
        → first (cons_if t x (keep test (xs ++ ys))) ≡ or_else (first (cons_if t x (keep test xs))) (first (keep test ys))
    go true e = refl
    go false e = e

first-front : (test : List ℕ → Bool) (x : ℕ) (rs : List (List ℕ)) → first (keep test (map (λ r. x ∷ r) rs)) ≡ front x (first (keep (λ r. test (x ∷ r)) rs))
unfolding keep
first-front test x [] = refl
first-front test x (r ∷ rs) = go (test (x ∷ r)) (first-front test x rs)
  where
    go : (t : Bool) → first (keep test (map (λ s. x ∷ s) rs)) ≡ front x (first (keep (λ s. test (x ∷ s)) rs))
        → first (cons_if t (x ∷ r) (keep test (map (λ s. x ∷ s) rs))) ≡ front x (first (cons_if t r (keep (λ s. test (x ∷ s)) rs)))
    go true e = refl
    go false e = e

-- one position more for the first variable
first_more : (test : List ℕ → Bool) (x : ℕ) (l : List ℕ) (rs : List (List ℕ))
    → first (keep test (with_each (x ∷ l) rs)) ≡ or_else (front x (first (keep (λ r. test (x ∷ r)) rs))) (first (keep test (with_each l rs)))
unfolding with_each
first_more test x l rs = first_append test (map (λ r. x ∷ r) rs) (with_each l rs) ∙ ap (λ (o : Option (List ℕ)). or_else o (first (keep test (with_each l rs)))) (first-front test x rs)

-- behind x, a list's first position
module _ (test : List ℕ → Bool) (vs : List (List ℕ)) (x : ℕ) (l : List ℕ) where
  -- the best tuple with x in front is the best of all
  best-here : Closed test → rises (x ∷ l) ≡ true → (r : List ℕ) → Best (λ s. test (x ∷ s)) vs (some r) → Best test ((x ∷ l) ∷ vs) (some (x ∷ r))
  unfolding fits
  best-here closed up r b = ((both_true (elem x (x ∷ l)) (fits vs r) (decides.holds (elem_decides x (x ∷ l)) (in-here x x l refl)) b.0.0, b.0.1), below)
    where
      below : (qs : List ℕ) → fits ((x ∷ l) ∷ vs) qs ≡ true → test qs ≡ true → (x ∷ r) ⊑ qs
      below [] f t = absurd (true≢false (sym f))
      below (q ∷ s) f t = each
        where
          w : (elem q (x ∷ l) ≡ true) × (fits vs s ≡ true)
          w = both (elem q (x ∷ l)) (fits vs s) f

          le : x ≤ q
          le = rises-least x l up q ((elem_decides q (x ∷ l)).yes w.0)

          passes : test (x ∷ meet r s) ≡ true
          passes = let e : min x q ≡ x = omega (arith, le) in rw e at (closed (x ∷ r) (q ∷ s) b.0.1 t)

          each : (y : ℕ) → at (x ∷ r) y ≤ at (q ∷ s) y
          each zero = le
          each (suc y) = omega (arith, b.1 (meet r s) (fits-meet vs r s b.0.0 w.1) passes y, meet-at r s y)

  -- no tuple has x in front, so the best for the positions behind x is the best of all
  best-later : (o : Option (List ℕ)) → Best (λ s. test (x ∷ s)) vs none → Best test (l ∷ vs) o → Best test ((x ∷ l) ∷ vs) o
  unfolding fits elem
  best-later o n b = go o b
    where
      fits_more : (ps : List ℕ) → fits (l ∷ vs) ps ≡ true → fits ((x ∷ l) ∷ vs) ps ≡ true
      fits_more [] f = f
      fits_more (p ∷ ps) f =
          let w = both (elem p l) (fits vs ps) f in
          both_true (elem p (x ∷ l)) (fits vs ps) (decides.holds (elem_decides p (x ∷ l)) (in-later p x l ((elem_decides p l).yes w.0))) w.1

      fits-less : (qs : List ℕ) → fits ((x ∷ l) ∷ vs) qs ≡ true → test qs ≡ true → fits (l ∷ vs) qs ≡ true
      fits-less [] f t = f
      fits-less (q ∷ s) f t =
          let w = both (elem q (x ∷ l)) (fits vs s) f in
          ⊎_elim (λ (e : x ≡ q). absurd (n s w.1 (rw e t)))
          (λ (h : In q l). both_true (elem q l) (fits vs s) (decides.holds (elem_decides q l) h) w.1) (in_cons q x l ((elem_decides q (x ∷ l)).yes w.0))

      go : (o : Option (List ℕ)) → Best test (l ∷ vs) o → Best test ((x ∷ l) ∷ vs) o
      go none b = λ qs f t. b qs (fits-less qs f t) t
      go (some ps) b = ((fits_more ps b.0.0, b.0.1), λ qs f t. b.1 qs (fits-less qs f t) t)

  best-either : Closed test → rises (x ∷ l) ≡ true → (o o' : Option (List ℕ)) → Best (λ s. test (x ∷ s)) vs o → Best test (l ∷ vs) o' → Best test ((x ∷ l) ∷ vs) (or_else (front x o) o')
  best-either closed up none o' n b = best-later o' n b
  best-either closed up (some r) o' b b' = best-here closed up r b

-- one list more, where what is first for the others is best for every such test
best-list : (test : List ℕ → Bool) → Closed test → (vs : List (List ℕ)) → ((t : List ℕ → Bool) → Closed t → Best t vs (first (keep t (tuples vs))))
    → (l : List ℕ) → rises l ≡ true → Best test (l ∷ vs) (first (keep test (with_each l (tuples vs))))
unfolding fits elem with_each keep
best-list test closed vs ih [] up = none-fits
  where
    none-fits : (qs : List ℕ) → fits ([] ∷ vs) qs ≡ true → test qs ≡ true → ⊥
    none-fits [] f t = true≢false (sym f)
    none-fits (q ∷ s) f t = true≢false (sym f)
best-list test closed vs ih (x ∷ l) up =
    rw (first_more test x l (tuples vs))
    (best-either test vs x l closed up (first (keep (λ r. test (x ∷ r)) (tuples vs))) (first (keep test (with_each l (tuples vs))))
    (ih (λ r. test (x ∷ r)) (closed-behind test x closed)) (best-list test closed vs ih l (rises-tail x l up)))

best : (test : List ℕ → Bool) → Closed test → (vs : List (List ℕ)) → Rise vs → Best test vs (first (keep test (tuples vs)))
unfolding keep tuples fits
best test closed [] up = go (test []) refl
  where
    go : (t : Bool) → test [] ≡ t → Best test [] (first (cons_if t [] []))
    go true e = ((refl, e), λ qs f t x. omega arith)
    go false e = only
      where
        only : (qs : List ℕ) → fits [] qs ≡ true → test qs ≡ true → ⊥
        only [] f t = contrary t e
        only (q ∷ qs) f t = true≢false (sym f)
best test closed (l ∷ vs) up = best-list test closed vs (λ t c. best t c vs (λ x. up (suc x))) l (up 0)

pub all_hold_iff : (ss : List ℕ) (cs : List Predicate) (ps : List ℕ) → (all_hold ss cs ps ≡ true) ↔ ((j : ℕ) → j < length cs → holds ss (get_or cs j (Window 1)) ps ≡ true)
all_hold_iff ss cs ps = all-each (λ c. holds ss c ps) (Window 1) cs

all_hold-meet : (ss : List ℕ) (cs : List Predicate) → Closed (all_hold ss cs)
all_hold-meet ss cs ps qs a b = (all_hold_iff ss cs (meet ps qs)).1 (λ j l. holds-meet ss (get_or cs j (Window 1)) ps qs ((all_hold_iff ss cs ps).0 a j l) ((all_hold_iff ss cs qs).0 b j l))

module _ (ss : List ℕ) (vs : List (List ℕ)) (cs : List Predicate) (up : Rise vs) where
  best-match : (o : Option (List ℕ)) → first (matches ss vs cs) ≡ o → Best (all_hold ss cs) vs o
  unfolding matches
  best-match o e = subst (Best (all_hold ss cs) vs) e (best (all_hold ss cs) (all_hold-meet ss cs) vs up)

  least-is : (ps : List ℕ) → first (matches ss vs cs) ≡ some ps → (is_match ss vs cs ps ≡ true) × ((qs : List ℕ) → is_match ss vs cs qs ≡ true → ps ⊑ qs)
  least-is ps e =
      let b = best-match (some ps) e in
      (both_true (fits vs ps) (all_hold ss cs ps) b.0.0 b.0.1, λ qs m. let w = both (fits vs qs) (all_hold ss cs qs) m in b.1 qs w.0 w.1)

  none_is : first (matches ss vs cs) ≡ none → (ps : List ℕ) → is_match ss vs cs ps ≡ true → ⊥
  none_is e ps m = let w = both (fits vs ps) (all_hold ss cs ps) m in best-match none e ps w.0 w.1

  least_unique : (ps : List ℕ) → is_match ss vs cs ps ≡ true → ((qs : List ℕ) → is_match ss vs cs qs ≡ true → ps ⊑ qs) → first (matches ss vs cs) ≡ some ps
  least_unique ps m le = go (first (matches ss vs cs)) refl
    where
      go : (o : Option (List ℕ)) → first (matches ss vs cs) ≡ o → first (matches ss vs cs) ≡ some ps
      go none e = absurd (none_is e ps m)
      go (some qs) e =
          let w = least-is qs e in
          let n : length qs ≡ length ps = match-length ss vs cs qs w.0 ∙ sym (match-length ss vs cs ps m) in
          e ∙ ap some (ext_get_or 0 qs ps n (λ x l. omega (arith, w.1 ps m x, le qs w.0 x)))

  none_unique : ((ps : List ℕ) → is_match ss vs cs ps ≡ true → ⊥) → first (matches ss vs cs) ≡ none
  none_unique n = go (first (matches ss vs cs)) refl
    where
      go : (o : Option (List ℕ)) → first (matches ss vs cs) ≡ o → first (matches ss vs cs) ≡ none
      go none e = e
      go (some qs) e = absurd (n qs (least-is qs e).0)

-- a test of `⊑`
reaches_decides : (bs qs : List ℕ) → Decides (reaches bs qs) (bs ⊑ qs)
unfolding reaches
reaches_decides [] qs = record { yes = λ e x. omega arith; no = λ e h. true≢false e }
reaches_decides (b ∷ bs) [] = same_decides (and_decides (eqb_decides b 0) (reaches_decides bs [])) (λ h. each h.0 h.1) (λ h. (omega (arith, h 0), λ x. h (suc x)))
  where
    each : b ≡ 0 → bs ⊑ [] → (b ∷ bs) ⊑ []
    each e h zero = omega arith
    each e h (suc x) = h x
reaches_decides (b ∷ bs) (q ∷ qs) = same_decides (and_decides (leb_decides b q) (reaches_decides bs qs)) (λ h. each h.0 h.1) (λ h. (h 0, λ x. h (suc x)))
  where
    each : b ≤ q → bs ⊑ qs → (b ∷ bs) ⊑ (q ∷ qs)
    each e h zero = e
    each e h (suc x) = h x

reaches-meet : (bs : List ℕ) → Closed (reaches bs)
reaches-meet bs ps qs a b = decides.holds (reaches_decides bs (meet ps qs)) (λ x. let l = (reaches_decides bs ps).yes a x in let r = (reaches_decides bs qs).yes b x in let e = meet-at ps qs x in omega arith)

-- a test of two tests
keep-keep : (s t : List ℕ → Bool) (xs : List (List ℕ)) → keep t (keep s xs) ≡ keep (λ x. s x && t x) xs
unfolding keep
keep-keep s t [] = refl
keep-keep s t (x ∷ xs) = go (s x) (keep-keep s t xs)
  where
    go : (b : Bool) → keep t (keep s xs) ≡ keep (λ y. s y && t y) xs → keep t (cons_if b x (keep s xs)) ≡ cons_if (b && t x) x (keep (λ y. s y && t y) xs)
    go true e = ap (cons_if (t x) x) e
    go false e = e

-- among the matches that stand at bs or behind the first is least
module _ (ss : List ℕ) (vs : List (List ℕ)) (cs : List Predicate) (up : Rise vs) (bs : List ℕ) where
  abbrev both-test : List ℕ → Bool
  both-test ps = all_hold ss cs ps && reaches bs ps

  both_meet : Closed both-test
  both_meet ps qs a b =
      let v = both (all_hold ss cs ps) (reaches bs ps) a in
      let w = both (all_hold ss cs qs) (reaches bs qs) b in
      both_true (all_hold ss cs (meet ps qs)) (reaches bs (meet ps qs)) (all_hold-meet ss cs ps qs v.0 w.0) (reaches-meet bs ps qs v.1 w.1)

  best-from : (o : Option (List ℕ)) → first (keep (reaches bs) (matches ss vs cs)) ≡ o → Best both-test vs o
  unfolding matches
  best-from o e = subst (Best both-test vs) (sym (ap first (keep-keep (λ ps. all_hold ss cs ps) (reaches bs) (tuples vs))) ∙ e) (best both-test both_meet vs up)

  from-least : (ps : List ℕ) → first (keep (reaches bs) (matches ss vs cs)) ≡ some ps → ((is_match ss vs cs ps ≡ true) × (bs ⊑ ps)) × ((qs : List ℕ) → (is_match ss vs cs qs ≡ true) × (bs ⊑ qs) → ps ⊑ qs)
  from-least ps e =
      let b = best-from (some ps) e in
      let t = both (all_hold ss cs ps) (reaches bs ps) b.0.1 in (
        (both_true (fits vs ps) (all_hold ss cs ps) b.0.0 t.0, (reaches_decides bs ps).yes t.1),
        λ qs m. let w = both (fits vs qs) (all_hold ss cs qs) m.0 in b.1 qs w.0 (both_true (all_hold ss cs qs) (reaches bs qs) w.1 (decides.holds (reaches_decides bs qs) m.1)),
      )

  from-none : first (keep (reaches bs) (matches ss vs cs)) ≡ none → (qs : List ℕ) → (is_match ss vs cs qs ≡ true) × (bs ⊑ qs) → ⊥
  from-none e qs m =
      let w = both (fits vs qs) (all_hold ss cs qs) m.0 in
      best-from none e qs w.0 (both_true (all_hold ss cs qs) (reaches bs qs) w.1 (decides.holds (reaches_decides bs qs) m.1))

  from-least_unique : (ps : List ℕ) → (is_match ss vs cs ps ≡ true) × (bs ⊑ ps) → ((qs : List ℕ) → (is_match ss vs cs qs ≡ true) × (bs ⊑ qs) → ps ⊑ qs) → first (keep (reaches bs) (matches ss vs cs)) ≡ some ps
  from-least_unique ps m le = go (first (keep (reaches bs) (matches ss vs cs))) refl
    where
      go : (o : Option (List ℕ)) → first (keep (reaches bs) (matches ss vs cs)) ≡ o → first (keep (reaches bs) (matches ss vs cs)) ≡ some ps
      go none e = absurd (from-none e ps m)
      go (some qs) e =
          let w = from-least qs e in
          let n : length qs ≡ length ps = match-length ss vs cs qs w.0.0 ∙ sym (match-length ss vs cs ps m.0) in
          e ∙ ap some (ext_get_or 0 qs ps n (λ x l. omega (arith, w.1 ps m x, le qs w.0 x)))

  from-none_unique : ((qs : List ℕ) → (is_match ss vs cs qs ≡ true) × (bs ⊑ qs) → ⊥) → first (keep (reaches bs) (matches ss vs cs)) ≡ none
  from-none_unique n = go (first (keep (reaches bs) (matches ss vs cs))) refl
    where
      go : (o : Option (List ℕ)) → first (keep (reaches bs) (matches ss vs cs)) ≡ o → first (keep (reaches bs) (matches ss vs cs)) ≡ none
      go none e = e
      go (some qs) e = absurd (n qs (from-least qs e).0)

-- of a volume's lists and a pattern's variables
module _ (lists : List (List ℕ)) (d : ℕ) where
  pub vars-rise : ((l : ℕ) → rises (list_of lists l) ≡ true) → (vars : List ℕ) → Rise (vars_in lists d vars)
  unfolding rises
  vars-rise up [] x = refl
  vars-rise up (l ∷ vars) zero = positions-rise d (list_of lists l) (up l)
  vars-rise up (l ∷ vars) (suc x) = vars-rise up vars x

  -- there is a position for each variable, and its list holds it
  abbrev Held : List ℕ → List ℕ → Type 0
  Held vars ps = (length ps ≡ length vars) × ((x : ℕ) → x < length vars → Holds d (at ps x) (list_of lists (get_or vars x 0)))

  held_cons : (l : ℕ) (vars : List ℕ) (p : ℕ) (ps : List ℕ) → Holds d p (list_of lists l) × Held vars ps → Held (l ∷ vars) (p ∷ ps)
  held_cons l vars p ps h = (ap suc h.1.0, each)
    where
      each : (x : ℕ) → x < suc (length vars) → Holds d (at (p ∷ ps) x) (list_of lists (get_or (l ∷ vars) x 0))
      each zero k = h.0
      each (suc x) k = h.1.1 x (omega arith)

  fits_decides : (vars ps : List ℕ) → Decides (fits (vars_in lists d vars) ps) (Held vars ps)
  unfolding fits
  fits_decides [] [] = record { yes = λ e. (refl, λ x l. absurd (omega arith)); no = λ e h. true≢false e }
  fits_decides [] (p ∷ ps) = record { yes = λ e. absurd (true≢false (sym e)); no = λ e h. omega arith }
  fits_decides (l ∷ vars) [] = record { yes = λ e. absurd (true≢false (sym e)); no = λ e h. omega arith }
  fits_decides (l ∷ vars) (p ∷ ps) =
      same_decides (and_decides (positions_hold d p (list_of lists l)) (fits_decides vars ps)) (held_cons l vars p ps)
      (λ (h : Held (l ∷ vars) (p ∷ ps)). (h.1 0 (omega arith), (omega arith, λ x k. h.1 (suc x) (omega arith))))

  pub fits_iff : (vars ps : List ℕ) → (fits (vars_in lists d vars) ps ≡ true) ↔ ((length ps ≡ length vars) × ((x : ℕ) → x < length vars → Holds d (at ps x) (list_of lists (get_or vars x 0))))
  fits_iff vars ps = ((fits_decides vars ps).yes, λ h. decides.holds (fits_decides vars ps) h)

-- of a pattern, where a volume's lists rise
module _ (lists : List (List ℕ)) (up : (l : ℕ) → rises (list_of lists l) ≡ true) (d : ℕ) (f : Pattern) where
  pub least_iff : (ps : List ℕ) → (least_in lists d f ≡ some ps) ↔ Least lists d f ps
  unfolding least_in
  least_iff ps =
      let rise = vars-rise lists d up f.vars in
      let ss = starts_in lists d in
      let vs = vars_in lists d f.vars in (
        λ e. let w = least-is ss vs f.predicates rise ps e in record { matching = w.0; least = w.1 },
        λ (h : Least lists d f ps). least_unique ss vs f.predicates rise ps h.matching h.least,
      )

  pub unfound_iff : (least_in lists d f ≡ none) ↔ ((ps : List ℕ) → matches_at lists d f ps ≡ true → ⊥)
  unfolding least_in
  unfound_iff =
      let rise = vars-rise lists d up f.vars in
      let ss = starts_in lists d in
      let vs = vars_in lists d f.vars in
      (none_is ss vs f.predicates rise, none_unique ss vs f.predicates rise)

  pub found_iff : (found lists d f ≡ true) ↔ ((ps : List ℕ) × (matches_at lists d f ps ≡ true))
  unfolding found
  found_iff = go (least_in lists d f) refl
    where
      go : (o : Option (List ℕ)) → least_in lists d f ≡ o → (present o ≡ true) ↔ ((ps : List ℕ) × (matches_at lists d f ps ≡ true))
      go none e = (λ t. absurd (true≢false (sym t)), λ w. absurd (unfound_iff.0 e w.0 w.1))
      go (some ps) e = (λ t. (ps, ((least_iff ps).0 e).matching), λ w. refl)

  -- the least match at bs or behind
  module _ (bs : List ℕ) where
    pub least_from_iff : (ps : List ℕ) → (least_from lists d f bs ≡ some ps) ↔ (MatchFrom lists d f bs ps × ((qs : List ℕ) → MatchFrom lists d f bs qs → ps ⊑ qs))
    unfolding least_from
    least_from_iff ps =
        let rise = vars-rise lists d up f.vars in
        let ss = starts_in lists d in
        let vs = vars_in lists d f.vars in
        (from-least ss vs f.predicates rise bs ps, λ h. from-least_unique ss vs f.predicates rise bs ps h.0 h.1)

    pub unfound_from_iff : (least_from lists d f bs ≡ none) ↔ ((qs : List ℕ) → MatchFrom lists d f bs qs → ⊥)
    unfolding least_from
    unfound_from_iff =
        let rise = vars-rise lists d up f.vars in
        let ss = starts_in lists d in
        let vs = vars_in lists d f.vars in
        (from-none ss vs f.predicates rise bs, from-none_unique ss vs f.predicates rise bs)

    -- where every match stands at bs or behind, it is the least of all
    pub least_from-all : ((qs : List ℕ) → matches_at lists d f qs ≡ true → bs ⊑ qs) → least_from lists d f bs ≡ least_in lists d f
    least_from-all low = go (least_from lists d f bs) refl
      where
        go : (o : Option (List ℕ)) → least_from lists d f bs ≡ o → least_from lists d f bs ≡ least_in lists d f
        go none e = e ∙ sym (unfound_iff.1 (λ qs m. unfound_from_iff.0 e qs (m, low qs m)))
        go (some ps) e = let w = (least_from_iff ps).0 e in e ∙ sym ((least_iff ps).1 (record { matching = w.0.0; least = λ qs m. w.1 qs (m, low qs m) }))

  -- bounds that no match from others on is in front of leave the same match least
  pub least_from-same : (bs cs : List ℕ) → bs ⊑ cs → ((qs : List ℕ) → MatchFrom lists d f bs qs → cs ⊑ qs) → least_from lists d f bs ≡ least_from lists d f cs
  least_from-same bs cs le low = go (least_from lists d f bs) refl
    where
      back : (qs : List ℕ) → MatchFrom lists d f cs qs → MatchFrom lists d f bs qs
      back qs m = (m.0, λ x. let a = le x in let b = m.1 x in omega arith)

      go : (o : Option (List ℕ)) → least_from lists d f bs ≡ o → least_from lists d f bs ≡ least_from lists d f cs
      go none e = e ∙ sym ((unfound_from_iff cs).1 (λ qs m. (unfound_from_iff bs).0 e qs (back qs m)))
      go (some ps) e = let w = (least_from_iff bs ps).0 e in e ∙ sym ((least_from_iff cs ps).1 ((w.0.0, low ps w.0), λ qs m. w.1 qs (back qs m)))
