-- The laws of `specs/Positions.antt`, and of membership. No contract cites this file.
--     in-none, in-here, in-later, in_cons     membership in a list, and in one with one more in front
--     at-largest, smallest-at                 positions lie between the smallest and the largest
--     elem_decides                            `elem` decides membership
--     positions_append                        the positions of a list in two parts
--     positions_hold, in-positions, positions_in_lem     the positions of a document are those that its list holds there
--     positions-rise                          they rise where the list does
--     rises-least                             the first element of a list that rises is its least
--     lists-rise                              the lists of an accepted volume rise
-- Assumes nothing.
use Prim.Native.Nat.{ℕ, zero, suc, ◌+◌, ◌*◌, ◌<◌, ◌≤◌}
use native.Mathlib.Omega.{arith}
use mathlib.Core.Path.{◌≡◌, refl, sym, ap, ◌∙◌}
use mathlib.Core.Bool.{Bool, true, false, true≢false}
use mathlib.Core.Logic.{◌⊎◌, inl, inr, ⊎_elim}
use mathlib.Core.List.{List, [], ◌∷◌, ◌++◌, map, map-append}
use lib.ListN.{length, get_or, get_or-eq_default}
use lib.Dec.{eqb, ltb}
use borrow.Author.Tests.{eqb-true, eqb-false, ltb-true, lt-ltb}
use Rattle.seq.specs.Lists.{cons_if, keep, elem, above, rises}
use Rattle.seq.proofs.Laws.Tests.{both, both_true, below_or}
use Rattle.seq.proofs.Laws.Decides as decides
use Rattle.seq.proofs.Laws.Decides.{Decides, eqb_decides, or_decides, same_decides}
use Rattle.seq.proofs.Laws.Keep.{keep_append}
use Rattle.seq.proofs.Laws.Rising.{above-le, above-elem, rises-tail}
use Rattle.volume.specs.Posting.{doc_of, pos_of}
use Rattle.volume.specs.Layout.{list_count, lists_of}
use Rattle.volume.specs.Check.{Accepted}
use Rattle.volume.proofs.Laws.Check.{good}
use Rattle.volume.proofs.Laws.Volume.{length-lists_of, list-of}
use Rattle.fulltext.specs.Positions.{limit, list_of, positions_in, largest, smallest_of}
use Rattle.fulltext.specs.Calculus.{at, In, Holds}

pub in-none : (n : ℕ) → In n [] → ⊥
in-none n h = omega (arith, h.1)

pub in-here : (n x : ℕ) (xs : List ℕ) → x ≡ n → In n (x ∷ xs)
in-here n x xs e = (0, omega arith, e)

pub in-later : (n x : ℕ) (xs : List ℕ) → In n xs → In n (x ∷ xs)
in-later n x xs h = (suc h.0, let l : h.0 < length xs = h.1 in omega arith, h.2)

-- at the front or behind it
pub in_cons : (n x : ℕ) (xs : List ℕ) → In n (x ∷ xs) → (x ≡ n) ⊎ In n xs
in_cons n x xs h = go h.0 h.1 h.2
  where
    go : (i : ℕ) → i < length (x ∷ xs) → get_or (x ∷ xs) i 0 ≡ n → (x ≡ n) ⊎ In n xs
    go zero l e = inl e
    go (suc i) l e = inr (i, omega arith, e)

-- positions lie between the smallest and the largest
pub at-largest : (ps : List ℕ) (x : ℕ) → at ps x ≤ largest ps
at-largest [] x = omega arith
at-largest (p ∷ ps) zero = omega arith
at-largest (p ∷ ps) (suc x) = let h : at ps x ≤ largest ps = at-largest ps x in omega arith

pub smallest-at : (p : ℕ) (ps : List ℕ) (x : ℕ) → x < suc (length ps) → smallest_of p ps ≤ at (p ∷ ps) x
smallest-at p [] zero h = omega arith
smallest-at p [] (suc x) h = absurd (omega arith)
smallest-at p (q ∷ ps) zero h = omega arith
smallest-at p (q ∷ ps) (suc x) h = let l : smallest_of q ps ≤ at (q ∷ ps) x = smallest-at q ps x (omega arith) in omega arith

pub elem_decides : (n : ℕ) (xs : List ℕ) → Decides (elem n xs) (In n xs)
unfolding elem
elem_decides n [] = record { yes = λ e. absurd (true≢false (sym e)); no = λ e h. in-none n h }
elem_decides n (x ∷ xs) =
    same_decides (or_decides (eqb_decides n x) (elem_decides n xs))
    (⊎_elim (λ (e : n ≡ x). in-here n x xs (sym e)) (in-later n x xs))
    (λ h. ⊎_elim (λ (e : x ≡ n). inl (sym e)) (λ (k : In n xs). inr k) (in_cons n x xs h))

pub positions_append : (d : ℕ) (ps qs : List ℕ) → positions_in d (ps ++ qs) ≡ positions_in d ps ++ positions_in d qs
unfolding positions_in
positions_append d ps qs =
    ap (map (λ p. pos_of p)) (keep_append (λ p. eqb (doc_of p) d) ps qs)
    ∙ map-append (λ p. pos_of p) (keep (λ p. eqb (doc_of p) d) ps) (keep (λ p. eqb (doc_of p) d) qs)

-- one posting in front, where the test of its document comes to b
positions_cons : (d x : ℕ) (l : List ℕ) (b : Bool) → eqb (doc_of x) d ≡ b → positions_in d (x ∷ l) ≡ cons_if b (pos_of x) (positions_in d l)
unfolding positions_in keep
positions_cons d x l b e = rw e (go b)
  where
    go : (t : Bool) → map (λ p. pos_of p) (cons_if t x (keep (λ p. eqb (doc_of p) d) l)) ≡ cons_if t (pos_of x) (map (λ p. pos_of p) (keep (λ p. eqb (doc_of p) d) l))
    go true = refl
    go false = refl

module _ (d p : ℕ) where
  -- a posting of the document, and one of another
  holds-own : (x : ℕ) (l : List ℕ) → doc_of x ≡ d → ((p ≡ pos_of x) → Holds d p (x ∷ l)) × (Holds d p (x ∷ l) → (p ≡ pos_of x) ⊎ Holds d p l)
  holds-own x l e = (
    λ (q : p ≡ pos_of x). (omega arith, in-here (d * 65536 + p) x l (omega arith)),
    λ h. let k : p < limit = h.0 in ⊎_elim (λ (q : x ≡ d * 65536 + p). inl (omega arith)) (λ q. inr (k, q)) (in_cons (d * 65536 + p) x l h.1),
  )

  holds-other : (x : ℕ) (l : List ℕ) → (doc_of x ≡ d → ⊥) → Holds d p (x ∷ l) → Holds d p l
  holds-other x l n h = let k : p < limit = h.0 in (k, ⊎_elim (λ (q : x ≡ d * 65536 + p). absurd (n (omega arith))) (λ q. q) (in_cons (d * 65536 + p) x l h.1))

  holds_later : (x : ℕ) (l : List ℕ) → Holds d p l → Holds d p (x ∷ l)
  holds_later x l h = (h.0, in-later (d * 65536 + p) x l h.1)

  pub positions_hold : (l : List ℕ) → Decides (elem p (positions_in d l)) (Holds d p l)
  unfolding positions_in keep elem
  positions_hold [] = record { yes = λ e. absurd (true≢false (sym e)); no = λ e h. in-none (d * 65536 + p) h.1 }
  positions_hold (x ∷ l) = go (eqb (doc_of x) d) refl (positions_hold l)
    where
      go : (b : Bool) → eqb (doc_of x) d ≡ b → Decides (elem p (positions_in d l)) (Holds d p l) → Decides (elem p (positions_in d (x ∷ l))) (Holds d p (x ∷ l))
      go true e rest =
          let own = holds-own x l (eqb-true (doc_of x) d e) in
          rw (positions_cons d x l true e) (same_decides (or_decides (eqb_decides p (pos_of x)) rest) (⊎_elim own.0 (holds_later x l)) own.1)
      go false e rest = rw (positions_cons d x l false e) (same_decides rest (holds_later x l) (holds-other x l (eqb-false (doc_of x) d e)))

  pub in-positions : (l : List ℕ) → Holds d p l → In p (positions_in d l)
  in-positions l h = (elem_decides p (positions_in d l)).yes (decides.holds (positions_hold l) h)

  pub positions_in_lem : (l : List ℕ) → In p (positions_in d l) → Holds d p l
  positions_in_lem l i = (positions_hold l).yes (decides.holds (elem_decides p (positions_in d l)) i)

module _ (d : ℕ) where
  -- behind a posting of the document
  positions-above : (a : ℕ) (l : List ℕ) → doc_of a ≡ d → above a l ≡ true → above (pos_of a) (positions_in d l) ≡ true
  unfolding positions_in keep above
  positions-above a [] q e = refl
  positions-above a (x ∷ l) q e = go (eqb (doc_of x) d) refl (positions-above x l) (positions-above a l q)
    where
      w : (ltb a x ≡ true) × (above x l ≡ true)
      w = both (ltb a x) (above x l) e

      lt : a < x
      lt = ltb-true a x w.0

      go : (b : Bool) → eqb (doc_of x) d ≡ b
          → (doc_of x ≡ d → above x l ≡ true → above (pos_of x) (positions_in d l) ≡ true)
          → (above a l ≡ true → above (pos_of a) (positions_in d l) ≡ true)
          → above (pos_of a) (positions_in d (x ∷ l)) ≡ true
      go true h next here =
          let k : doc_of x ≡ d = eqb-true (doc_of x) d h in
          rw (positions_cons d x l true h) (both_true (ltb (pos_of a) (pos_of x)) (above (pos_of x) (positions_in d l)) (lt-ltb (pos_of a) (pos_of x) (omega (arith, lt))) (next k w.1))
      go false h next here = rw (positions_cons d x l false h) (here (above-le a x l (omega (arith, lt)) w.1))

  pub positions-rise : (l : List ℕ) → rises l ≡ true → rises (positions_in d l) ≡ true
  unfolding positions_in keep rises
  positions-rise [] e = refl
  positions-rise (x ∷ l) e = go (eqb (doc_of x) d) refl (positions-rise l)
    where
      go : (b : Bool) → eqb (doc_of x) d ≡ b → (rises l ≡ true → rises (positions_in d l) ≡ true) → rises (positions_in d (x ∷ l)) ≡ true
      go true h rest = rw (positions_cons d x l true h) (positions-above x l (eqb-true (doc_of x) d h) e)
      go false h rest = rw (positions_cons d x l false h) (rest (rises-tail x l e))

pub rises-least : (x : ℕ) (xs : List ℕ) → rises (x ∷ xs) ≡ true → (n : ℕ) → In n (x ∷ xs) → x ≤ n
unfolding rises
rises-least x xs e n h = ⊎_elim (λ (q : x ≡ n). omega arith) (λ (q : In n xs). omega (arith, above-elem x xs e q.0 q.1, q.2)) (in_cons n x xs h)

pub lists-rise : (v : List ℕ) → Accepted v → (l : ℕ) → rises (list_of (lists_of v) l) ≡ true
unfolding rises
lists-rise v a l =
    let e = length-lists_of v in
    ⊎_elim (λ (h : l < list_count v). ap rises (list-of v l h) ∙ (good v a).lists-rise l h)
    (λ (h : list_count v ≤ l). ap rises (get_or-eq_default (lists_of v) [] (omega arith)))
    (below_or l (list_count v))
