-- The matches of a pattern of an accepted plan, from a tuple on. No contract cites this file.
--     lists-up                 the volume's lists rise
--     even                     each match has a position for each variable
--     match-sized, match-small, match-later     one of them: its positions, and that it does not come before the tuple
--     match_on, match-split    the matches from it on, and those before a tuple that does not come before it
--     none_before              none comes before the tuple that they start from
--     from-zeros, first-zeros  from zeros on they are all, and the first is the least match
-- Assumes nothing.
use Prim.Native.Nat.{ℕ, ◌<◌}
use native.Mathlib.Omega.{arith}
use mathlib.Core.Path.{◌≡◌}
use mathlib.Core.Bool.{true, false}
use mathlib.Core.List.{List, [], ◌++◌}
use lib.ListN.{length, get_or, take, drop, replicate}
use Rattle.seq.specs.Lists.{first, rises}
use Rattle.seq.proofs.Laws.Tests.{both}
use Rattle.seq.proofs.Laws.Members.{Has, Every, every_of, index_has}
use Rattle.volume.specs.Layout.{lists_of}
use Rattle.plan.specs.Check.{Accepted}
use Rattle.plan.specs.Accepted.{pattern_at}
use Rattle.plan.proofs.Laws.Accepted.{given}
use Rattle.fulltext.specs.Positions.{list_of}
use Rattle.fulltext.specs.Matches.{fits, all_hold, starts_in, vars_in, matches_at, matches_in, least_in}
use Rattle.fulltext.specs.Order.{precedes, before}
use Rattle.fulltext.proofs.Laws.Positions.{lists-rise}
use Rattle.fulltext.proofs.Laws.Least.{fits_iff}
use Rattle.fulltext.proofs.Laws.Enumeration.{from_iff, sized, from_on, split_on, before-itself, enumerable}
use Rattle.matcher.specs.Inner.Shortfall.{InDocument}
use Rattle.enumeration.specs.Enumerating.{var_count, matches_of}

module _ (v p : List ℕ) (ok : Accepted v p) where
  lists-up : (l : ℕ) → rises (list_of (lists_of v) l) ≡ true
  lists-up = lists-rise v (given v p ok).volume-accepted

  module _ (k d : ℕ) where
    pub from-zeros : (n : ℕ) → matches_of v p k d (replicate n 0) ≡ matches_in (lists_of v) d (pattern_at p k)
    unfolding matches_of
    from-zeros n = ((enumerable (lists_of v) lists-up d (pattern_at p k)).zeros n).all

    pub first-zeros : (n : ℕ) → first (matches_of v p k d (replicate n 0)) ≡ least_in (lists_of v) d (pattern_at p k)
    unfolding matches_of
    first-zeros n = ((enumerable (lists_of v) lists-up d (pattern_at p k)).zeros n).earliest

    module _ (from : List ℕ) where
      is-match : (ps : List ℕ) → Has ps (matches_of v p k d from) → (matches_at (lists_of v) d (pattern_at p k) ps ≡ true) × (precedes ps from ≡ false)
      unfolding matches_of
      is-match ps h = (from_iff (lists_of v) lists-up d (pattern_at p k) from ps).0 h

      pub even : Every (λ ps. length ps ≡ var_count p k) (matches_of v p k d from)
      even = every_of (λ ps. length ps ≡ var_count p k) (matches_of v p k d from) (λ ps h. sized (lists_of v) lists-up d (pattern_at p k) ps (is-match ps h).0)

      pub none_before : before from (matches_of v p k d from) ≡ []
      unfolding matches_of
      none_before = before-itself (lists_of v) lists-up d (pattern_at p k) from

      -- match m of them
      module _ (m : ℕ) (h : m < length (matches_of v p k d from)) where
        abbrev one : List ℕ
        one = get_or (matches_of v p k d from) m []

        one-is : (matches_at (lists_of v) d (pattern_at p k) one ≡ true) × (precedes one from ≡ false)
        one-is = is-match one (index_has [] (matches_of v p k d from) m h)

        pub match-sized : length one ≡ var_count p k
        match-sized = sized (lists_of v) lists-up d (pattern_at p k) one one-is.0

        pub match-small : InDocument one
        match-small x l =
            let w = both (fits (vars_in (lists_of v) d (pattern_at p k).vars) one) (all_hold (starts_in (lists_of v) d) (pattern_at p k).predicates one) one-is.0 in
            let n = match-sized in
            let b = (((fits_iff (lists_of v) d (pattern_at p k).vars one).0 w.0).1 x (omega arith)).0 in
            omega arith

        pub match-later : precedes one from ≡ false
        match-later = one-is.1

        pub match_on : matches_of v p k d one ≡ drop m (matches_of v p k d from)
        unfolding matches_of
        match_on = from_on (lists_of v) lists-up d (pattern_at p k) from m h

        pub match-split : (t : List ℕ) → length t ≡ var_count p k → precedes t one ≡ false
            → before t (matches_of v p k d from) ≡ take m (matches_of v p k d from) ++ before t (matches_of v p k d one)
        unfolding matches_of
        match-split t n e = split_on (lists_of v) lists-up d (pattern_at p k) from t m (omega arith) h e
