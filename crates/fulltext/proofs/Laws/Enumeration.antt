-- The matches of a pattern from a tuple on, where the lists rise. No contract cites this file.
--     fits_has, tuples_fit             the tuples of several lists are those that fit them
--     among_has                        a tuple is one of several: by index, and by recursion
--     in-matches, matches_ascending    the matches are the tuples that match, in order
--     from_iff, from_ascending         those from a tuple on
--     from-zeros, first-least          from zeros on they are all, and the first is the least match
--     sized                            a match has a position for each variable
-- An attempt at bounds ls, which have zeros behind variable k, is the least match that stands at ls or behind:
--     found-next                       it succeeds where it has the front of ls, and is then the next match
--     Missed                           it fails: no match at ls or behind has that front
--     none_left, carried               what is left then: with k = 0 nothing, else the matches from the next bounds on
--     behind-next                      a match, and the matches behind it
-- Whole enumerations:
--     from_on                          from the m-th on they are the ones from its place on
--     before-itself                    none of those from a tuple on comes before it
--     split_on                         those before a tuple t, in two parts, where t does not come before the m-th
--     enumerable                       the statement of `specs/Demands.antt`
-- Assumes nothing.
use Prim.Native.Nat.{ℕ, zero, suc, ◌+◌, ◌<◌, ◌≤◌}
use native.Mathlib.Omega.{arith}
use mathlib.Core.Path.{◌≡◌, refl, sym, ap, ◌∙◌, subst}
use mathlib.Core.Bool.{true, false, not, true≢false}
use mathlib.Core.Logic.{inl, ⊎_elim, ◌↔◌}
use mathlib.Core.List.{List, [], ◌∷◌, ◌++◌, map}
use mathlib.Core.Option.{some}
use lib.ListN.{length, get_or, take, drop, replicate}
use borrow.Author.Tests.{not-true}
use Rattle.seq.specs.Lists.{elem, first, rises}
use Rattle.seq.proofs.Laws.Tests.{both, both_true, true_or, contrary}
use Rattle.seq.proofs.Laws.Decides as decides
use Rattle.seq.proofs.Laws.Members.{Has, Every, has_every, every_of, every_as, every_append, every_map, has_left, has_right, has-map, has-index, index_has}
use Rattle.seq.proofs.Laws.Members.{keep_has, has-keep, first_has, keep-whole, keep-nothing, keep-alike, keep_narrow}
use Rattle.plan.specs.declared.row.Predicate.{Predicate}
use Rattle.plan.specs.Patterns.{Pattern}
use Rattle.fulltext.specs.Positions.{list_of}
use Rattle.fulltext.specs.Calculus.{at, In}
use Rattle.fulltext.specs.Matches.{all_hold, fits, with_each, tuples, matches, starts_in, vars_in, matches_at, matches_in, least_in}
use Rattle.fulltext.specs.Inner.Bounds.{MatchFrom, least_from}
use Rattle.fulltext.specs.Order.{precedes, before, not_before, matches_from}
use Rattle.fulltext.specs.Demands.{AmongTuples, Enumerable}
use Rattle.fulltext.proofs.Laws.Positions.{in-none, in-here, in-later, in_cons, elem_decides}
use Rattle.fulltext.proofs.Laws.Least.{match-length, vars-rise, least_from_iff}
use Rattle.fulltext.proofs.Laws.Order.{SameFront, ZerosBehind, earlier, above-not, hit-not, miss-before, miss-same, step_same}
use Rattle.fulltext.proofs.Laws.Ascending.{Ascending, ascending-keep, ascending-index, matches-ascend, first-is, not_before-next, not_before_on, before-parts}

-- the tuples of several lists are those that fit them
with_each_has : (p : ℕ) (r l : List ℕ) (rest : List (List ℕ)) → In p l → Has r rest → Has (p ∷ r) (with_each l rest)
unfolding with_each
with_each_has p r [] rest i h = absurd (in-none p i)
with_each_has p r (q ∷ l) rest i h =
    ⊎_elim
    (λ (e : q ≡ p). has_left (p ∷ r) (map (λ s. q ∷ s) rest) (with_each l rest) (subst (λ (a : ℕ). Has (a ∷ r) (map (λ s. q ∷ s) rest)) e (has-map (λ s. q ∷ s) r rest h)))
    (λ (k : In p l). has_right (p ∷ r) (map (λ s. q ∷ s) rest) (with_each l rest) (with_each_has p r l rest k h))
    (in_cons p q l i)

fits_has : (vs : List (List ℕ)) (ps : List ℕ) → fits vs ps ≡ true → Has ps (tuples vs)
unfolding fits tuples
fits_has [] [] e = inl refl
fits_has [] (p ∷ ps) e = absurd (true≢false (sym e))
fits_has (l ∷ vs) [] e = absurd (true≢false (sym e))
fits_has (l ∷ vs) (p ∷ ps) e = let w = both (elem p l) (fits vs ps) e in with_each_has p ps l (tuples vs) ((elem_decides p l).yes w.0) (fits_has vs ps w.1)

with_each_every : (P : List ℕ → Type 0) (l : List ℕ) (rest : List (List ℕ)) → ((p : ℕ) → In p l → Every (λ r. P (p ∷ r)) rest) → Every P (with_each l rest)
unfolding with_each
with_each_every P [] rest f = tt
with_each_every P (p ∷ l) rest f =
    every_append P (map (λ r. p ∷ r) rest) (with_each l rest) (every_map (λ r. p ∷ r) P rest (f p (in-here p p l refl)))
    (with_each_every P l rest (λ q i. f q (in-later q p l i)))

tuples_fit : (vs : List (List ℕ)) → Every (λ ps. fits vs ps ≡ true) (tuples vs)
unfolding fits tuples
tuples_fit [] = (refl, tt)
tuples_fit (l ∷ vs) =
    with_each_every (λ ps. fits (l ∷ vs) ps ≡ true) l (tuples vs)
    (λ p i. every_as (λ r. fits vs r ≡ true) (λ r. fits (l ∷ vs) (p ∷ r) ≡ true) (λ r h. both_true (elem p l) (fits vs r) (decides.holds (elem_decides p l) i) h) (tuples vs) (tuples_fit vs))

has-match : (ss : List ℕ) (vs : List (List ℕ)) (cs : List Predicate) (ps : List ℕ) → Has ps (matches ss vs cs) ↔ ((fits vs ps ≡ true) × (all_hold ss cs ps ≡ true))
unfolding matches
has-match ss vs cs ps = (
  λ h. let w = has-keep (λ qs. all_hold ss cs qs) ps (tuples vs) h in (has_every (λ qs. fits vs qs ≡ true) ps (tuples vs) (tuples_fit vs) w.0, w.1),
  λ w. keep_has (λ qs. all_hold ss cs qs) ps (tuples vs) (fits_has vs ps w.0) w.1,
)

among_has : (ps : List ℕ) (qs : List (List ℕ)) → AmongTuples ps qs ↔ Has ps qs
among_has ps qs = (λ w. subst (λ (x : List ℕ). Has x qs) w.2 (index_has [] qs w.0 w.1), λ h. has-index [] ps qs h)

zeros-at : (n x : ℕ) → at (replicate n 0) x ≡ 0
zeros-at zero x = refl
zeros-at (suc n) zero = refl
zeros-at (suc n) (suc x) = zeros-at n x

-- of a pattern, where a volume's lists rise
module _ (lists : List (List ℕ)) (up : (l : ℕ) → rises (list_of lists l) ≡ true) (d : ℕ) (f : Pattern) where
  in-matches : (ps : List ℕ) → Has ps (matches_in lists d f) ↔ (matches_at lists d f ps ≡ true)
  unfolding matches_in
  in-matches ps =
      let ss = starts_in lists d in
      let vs = vars_in lists d f.vars in
      let cs = f.predicates in
      let w = has-match ss vs cs ps in
      (λ h. both_true (fits vs ps) (all_hold ss cs ps) (w.0 h).0 (w.0 h).1, λ m. w.1 (both (fits vs ps) (all_hold ss cs ps) m))

  matches_ascending : Ascending (matches_in lists d f)
  unfolding matches_in
  matches_ascending = matches-ascend (starts_in lists d) (vars_in lists d f.vars) f.predicates (vars-rise lists d up f.vars)

  pub from_iff : (from ps : List ℕ) → Has ps (matches_from lists d f from) ↔ ((matches_at lists d f ps ≡ true) × (precedes ps from ≡ false))
  unfolding matches_from not_before
  from_iff from ps = (
    λ h. let w = has-keep (λ qs. not (precedes qs from)) ps (matches_in lists d f) h in ((in-matches ps).0 w.0, not-true (precedes ps from) w.1),
    λ h. keep_has (λ qs. not (precedes qs from)) ps (matches_in lists d f) ((in-matches ps).1 h.0) (ap not h.1),
  )

  from_ascending : (from : List ℕ) → Ascending (matches_from lists d f from)
  unfolding matches_from not_before
  from_ascending from = ascending-keep (λ qs. not (precedes qs from)) (matches_in lists d f) matches_ascending

  pub from-zeros : (from : List ℕ) → ((x : ℕ) → at from x ≡ 0) → matches_from lists d f from ≡ matches_in lists d f
  unfolding matches_from not_before
  from-zeros from z =
      keep-whole (λ qs. not (precedes qs from)) (matches_in lists d f)
      (every_of (λ qs. not (precedes qs from) ≡ true) (matches_in lists d f) (λ qs h. ap not (above-not from qs (λ x. omega (arith, z x)))))

  pub first-least : (from : List ℕ) → ((x : ℕ) → at from x ≡ 0) → first (matches_from lists d f from) ≡ least_in lists d f
  unfolding least_in
  first-least from z = ap first (from-zeros from z)

  pub sized : (qs : List ℕ) → matches_at lists d f qs ≡ true → length qs ≡ length f.vars
  sized qs m = match-length (starts_in lists d) (vars_in lists d f.vars) f.predicates qs m ∙ lengths f.vars
    where
      lengths : (vars : List ℕ) → length (vars_in lists d vars) ≡ length vars
      lengths [] = refl
      lengths (v ∷ vars) = ap suc (lengths vars)

  -- a fact of every match
  every-match : (P : List ℕ → Type 0) → ((qs : List ℕ) → matches_at lists d f qs ≡ true → P qs) → Every P (matches_in lists d f)
  every-match P g = every_of P (matches_in lists d f) (λ qs h. g qs ((in-matches qs).0 h))

  -- an attempt at the bounds ls, which have zeros behind variable k
  module _ (ls : List ℕ) (k : ℕ) (size : length ls ≡ length f.vars) (zeros : ZerosBehind k ls) where
    -- it succeeds: the least match there has the positions of ls in front of variable k
    pub found-next : (ps : List ℕ) → least_from lists d f ls ≡ some ps → SameFront k ps ls → first (matches_from lists d f ls) ≡ some ps
    unfolding matches_from not_before
    found-next ps e same =
        let w = (least_from_iff lists up d f ls ps).0 e in
        first-is (λ qs. not (precedes qs ls)) ps (ap not (above-not ls ps w.0.1)) (matches_in lists d f) matches_ascending ((in-matches ps).1 w.0.0)
        (λ qs h t. let m = (in-matches qs).0 h in hit-not k ls ps qs (sized qs m ∙ sym size) zeros same (λ le. w.1 qs (m, le)) (not-true (precedes qs ls) t))

    -- it fails
    abbrev Missed : Type 0
    Missed = (qs : List ℕ) → MatchFrom lists d f ls qs → SameFront k qs ls → ⊥

    -- with no variable in front of k, no match is left
    pub none_left : k ≡ 0 → Missed → matches_from lists d f ls ≡ []
    unfolding matches_from not_before
    none_left z miss =
        keep-nothing (λ qs. not (precedes qs ls)) (matches_in lists d f)
        (every-match (λ qs. not (precedes qs ls) ≡ false)
        (λ qs m. ap not (miss-before ls qs (sized qs m ∙ sym size) (λ x l. zeros x (omega arith)) (λ le. miss qs (m, le) (λ x l. absurd (omega arith))))))

    -- else the matches from ls on are those from the next bounds on
    pub carried : (j : ℕ) → k ≡ j + 1 → j < length f.vars → Missed
        → (cs : List ℕ) → length cs ≡ length ls → SameFront j cs ls → at cs j ≡ at ls j + 1 → ZerosBehind j cs
        → matches_from lists d f ls ≡ matches_from lists d f cs
    unfolding matches_from not_before
    carried j e i miss cs n same one behind =
        keep-alike (λ qs. not (precedes qs ls)) (λ qs. not (precedes qs cs)) (matches_in lists d f)
        (every-match (λ qs. not (precedes qs ls) ≡ not (precedes qs cs))
        (λ qs m. ap not (miss-same j ls cs qs (omega arith) (sized qs m ∙ sym size) n (λ x l. zeros x (omega arith)) same one behind (λ a le. miss qs (m, le) (λ x l. a x (omega arith))))))

  -- cs is the match ps with one more at its last variable
  pub behind-next : (ls ps cs : List ℕ) (j : ℕ) → length f.vars ≡ j + 1 → first (matches_from lists d f ls) ≡ some ps
      → length cs ≡ length f.vars → SameFront j cs ps → at cs j ≡ at ps j + 1 → matches_from lists d f ls ≡ ps ∷ matches_from lists d f cs
  unfolding matches_from not_before
  behind-next ls ps cs j i e n same one =
      not_before-next ls (matches_in lists d f) matches_ascending ps e
      ∙ ap (λ (l : List (List ℕ)). ps ∷ l)
      (sym (keep-alike (λ qs. not (precedes qs cs)) (λ qs. precedes ps qs) (matches_in lists d f)
      (every-match (λ qs. not (precedes qs cs) ≡ precedes ps qs) (λ qs m. step_same j ps cs qs (size ∙ i) (sized qs m ∙ sym size) (n ∙ sym size) same one))))
    where
      size : length ps ≡ length f.vars
      size = sized ps ((from_iff ls ps).0 (first_has ps (matches_from lists d f ls) e)).0

  -- a match that is not before a bound: the matches from it on are among those from the bound on
  from-from : (from ps : List ℕ) → matches_at lists d f ps ≡ true → precedes ps from ≡ false → matches_from lists d f ps ≡ not_before ps (matches_from lists d f from)
  unfolding matches_from not_before
  from-from from ps m e =
      sym (keep_narrow (λ qs. not (precedes qs ps)) (λ qs. not (precedes qs from)) (matches_in lists d f)
      (every-match (λ qs. not (precedes qs ps) ≡ true → not (precedes qs from) ≡ true) (λ qs n t. ap not (late qs n (not-true (precedes qs ps) t)))))
    where
      late : (qs : List ℕ) → matches_at lists d f qs ≡ true → precedes qs ps ≡ false → precedes qs from ≡ false
      late qs n t =
          ⊎_elim (λ (b : precedes qs from ≡ true). absurd (contrary (earlier from qs ps (omega (arith, sized qs n, sized ps m)) b e) t)) (λ b. b)
          (true_or (precedes qs from))

  module _ (from : List ℕ) where
    pub from_on : (m : ℕ) → m < length (matches_from lists d f from)
        → matches_from lists d f (get_or (matches_from lists d f from) m []) ≡ drop m (matches_from lists d f from)
    from_on m l =
        let w = (from_iff from (get_or (matches_from lists d f from) m [])).0 (index_has [] (matches_from lists d f from) m l) in
        from-from from (get_or (matches_from lists d f from) m []) w.0 w.1 ∙ not_before_on (matches_from lists d f from) (from_ascending from) m l

    pub before-itself : before from (matches_from lists d f from) ≡ []
    unfolding before
    before-itself =
        keep-nothing (λ ps. precedes ps from) (matches_from lists d f from)
        (every_of (λ ps. precedes ps from ≡ false) (matches_from lists d f from) (λ ps h. ((from_iff from ps).0 h).1))

    -- t has a position for each variable and does not come before the m-th
    pub split_on : (t : List ℕ) (m : ℕ) → length f.vars ≤ length t → m < length (matches_from lists d f from)
        → precedes t (get_or (matches_from lists d f from) m []) ≡ false
        → before t (matches_from lists d f from) ≡ take m (matches_from lists d f from) ++ before t (matches_from lists d f (get_or (matches_from lists d f from) m []))
    split_on t m n l e =
        before-parts t (matches_from lists d f from) (from_ascending from) m l
        (every_of (λ ps. length ps ≤ length t) (matches_from lists d f from) (λ ps h. omega (arith, sized ps ((from_iff from ps).0 h).0))) e
        ∙ ap (λ (qs : List (List ℕ)). take m (matches_from lists d f from) ++ before t qs) (sym (from_on m l))

  pub enumerable : Enumerable lists d f
  enumerable = record {
    tuple = λ from. record {
      among = λ ps. let w = among_has ps (matches_from lists d f from) in (λ h. (from_iff from ps).0 (w.0 h), λ h. w.1 ((from_iff from ps).1 h));
      ascend = ascending-index (matches_from lists d f from) (from_ascending from);
      go_on = from_on from;
    };
    zeros = λ n. record { all = from-zeros (replicate n 0) (zeros-at n); earliest = first-least (replicate n 0) (zeros-at n) };
  }
