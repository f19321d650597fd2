-- How the variables of a pattern come to its least match in a document. No contract cites this file.
--     first-low       where they stand at the first postings not below bounds, every match from the bounds on is at them or behind
--     low_first       no match from where they stand on is in front of them
--     low_jump        a variable that a predicate leaves short jumps to the first position that it needs at least
--     low-out         where there is none, nothing matches
--     low-done        where all predicates hold, the match is least
-- Assumes nothing.
use Prim.Native.Nat.{ℕ, ◌+◌, ◌*◌, ◌<◌, ◌≤◌}
use native.Mathlib.Omega.{arith}
use mathlib.Core.Path.{◌≡◌, sym, ap, ◌∙◌}
use mathlib.Core.Bool.{true}
use mathlib.Core.Logic.{⊎_elim, ◌≢◌}
use mathlib.Core.List.{List}
use mathlib.Core.Option.{none, some}
use lib.ListN.{length, get_or, set, take, get_or-eq_default}
use lib.Seq.{get_or-set_same, get_or-set_other, get_or-take, length-take-le}
use Rattle.seq.proofs.Laws.Tests.{both, both_true, below_or}
use Rattle.seq.proofs.Laws.Decides.{decided, eqb_decides}
use Rattle.volume.specs.Posting.{doc_of, pos_of}
use Rattle.volume.specs.Layout.{word, list_count, start, lists_of}
use Rattle.volume.specs.Check.{Accepted}
use Rattle.plan.specs.declared.row.Predicate.TheVariants.{Window}
use Rattle.plan.specs.Patterns.{Pattern}
use Rattle.fulltext.specs.Positions.{limit, list_of}
use Rattle.fulltext.specs.Calculus.{at, Holds}
use Rattle.fulltext.specs.Matches.{holds, all_hold, fits, starts_in, vars_in, matches_at, ◌⊑◌}
use Rattle.fulltext.specs.Inner.Bounds.{MatchFrom, least_from}
use Rattle.matcher.specs.Inner.Shortfall.{LeftShort}
use Rattle.matcher.specs.Inner.Cursors.{seek_from, Stretch, list_end}
use Rattle.matcher.specs.Inner.Settling.{AtPos, Standing, Low}
use Rattle.fulltext.proofs.Laws.Positions.{lists-rise}
use Rattle.fulltext.proofs.Laws.Least.{fits_iff, all_hold_iff, least_from_iff, unfound_from_iff}
use Rattle.matcher.proofs.Laws.Volume.{list-stretch, held, holds_at}
use Rattle.matcher.proofs.Laws.Cursors.{seek_ge, seek-at, seek-below}

module _ (v : List ℕ) (ok : Accepted v) (d : ℕ) (f : Pattern) (there : (x : ℕ) → x < length f.vars → get_or f.vars x 0 < list_count v) where
  -- what a match gives
  match-parts : (qs : List ℕ) → matches_at (lists_of v) d f qs ≡ true
      → ((length qs ≡ length f.vars) × ((x : ℕ) → x < length f.vars → Holds d (at qs x) (list_of (lists_of v) (get_or f.vars x 0)))) × (all_hold (starts_in (lists_of v) d) f.predicates qs ≡ true)
  match-parts qs m =
      let w = both (fits (vars_in (lists_of v) d f.vars) qs) (all_hold (starts_in (lists_of v) d) f.predicates qs) m in
      ((fits_iff (lists_of v) d f.vars qs).0 w.0, w.1)

  -- a match stands at an index of each variable's list
  pub index : (qs : List ℕ) → matches_at (lists_of v) d f qs ≡ true → (x : ℕ) → x < length f.vars
      → (at qs x < limit) × ((j : ℕ) × ((start v (get_or f.vars x 0) ≤ j) × ((j < list_end v (get_or f.vars x 0)) × (word v j ≡ d * 65536 + at qs x))))
  index qs m x h = held v ok (get_or f.vars x 0) (there x h) d (at qs x) ((match-parts qs m).0.1 x h)

  -- a position that a match may have stands behind the words that are below it
  behind : (qs : List ℕ) → matches_at (lists_of v) d f qs ≡ true → (x : ℕ) → x < length f.vars → (i : ℕ) → start v (get_or f.vars x 0) ≤ i → i < list_end v (get_or f.vars x 0)
      → ((j : ℕ) → start v (get_or f.vars x 0) ≤ j → j < i → word v j < d * 65536 + at qs x) → word v i ≤ d * 65536 + at qs x
  behind qs m x h i a b low =
      let w = (index qs m x h).1 in
      let j = w.0 in
      let e : word v j ≡ d * 65536 + at qs x = w.1.1.1 in
      let s = list-stretch v ok (get_or f.vars x 0) (there x h) in
      ⊎_elim
      (λ (k : j < i). let l = low j w.1.0 k in absurd (let z : ⊥ = omega arith in z))
      (λ (k : i ≤ j). ⊎_elim (λ (g : i < j). let r = s.rising i j a g w.1.1.0 in omega arith) (λ (g : j ≤ i). let q : i ≡ j = omega arith in rw q (omega arith)) (below_or i j))
      (below_or j i)

  -- the variables stand at the first postings of the document that are not below bs: every match from bs on is at them or behind
  pub first-low : (bs here ps : List ℕ) → length f.vars ≤ length ps → Standing v d f here ps
      → ((x : ℕ) → x < length f.vars → (j : ℕ) → start v (get_or f.vars x 0) ≤ j → j < get_or here x 0 → word v j < d * 65536 + at bs x)
      → (qs : List ℕ) → MatchFrom (lists_of v) d f bs qs → take (length f.vars) ps ⊑ qs
  first-low bs here ps room standing behind-low qs m x =
      ⊎_elim
      (λ (h : x < length f.vars).
      let s = standing.each x h in
      let w = s.word-is in
      let e = get_or-take (length f.vars) ps x 0 h in
      let g = m.1 x in
      let r = behind qs m.0 x h (get_or here x 0) s.from s.inside (λ j c l. let k = behind-low x h j c l in omega arith) in
      omega arith)
      (λ (h : length f.vars ≤ x). let e = length-take-le (length f.vars) ps room in let o : at (take (length f.vars) ps) x ≡ 0 = get_or-eq_default (take (length f.vars) ps) 0 (omega arith) in omega arith)
      (below_or x (length f.vars))

  -- no match from where they stand on is in front of them
  pub low_first : (here ps : List ℕ) → length f.vars ≤ length ps → Standing v d f here ps → Low v d f (take (length f.vars) ps) here ps
  low_first here ps room standing = record {
    standing = standing.each;
    above = λ x h. let e = get_or-take (length f.vars) ps x 0 h in omega arith;
    low = λ qs m x h. let e = get_or-take (length f.vars) ps x 0 h in let k = m.1 x in omega arith;
  }

  pub low-done : (bs here ps : List ℕ) → length bs ≡ length f.vars → length f.vars ≤ length ps → Low v d f bs here ps → ((j : ℕ) → j < length f.predicates → holds (starts_in (lists_of v) d) (get_or f.predicates j (Window 1)) (take (length f.vars) ps) ≡ true)
      → least_from (lists_of v) d f bs ≡ some (take (length f.vars) ps)
  low-done bs here ps bound room l true-all = (least_from_iff (lists_of v) (lists-rise v ok) d f bs (take (length f.vars) ps)).1 ((matching, from), least)
    where
      size : length (take (length f.vars) ps) ≡ length f.vars
      size = length-take-le (length f.vars) ps room

      value : (x : ℕ) → x < length f.vars → at (take (length f.vars) ps) x ≡ get_or ps x 0
      value x h = get_or-take (length f.vars) ps x 0 h

      holding : (x : ℕ) → x < length f.vars → Holds d (at (take (length f.vars) ps) x) (list_of (lists_of v) (get_or f.vars x 0))
      holding x h =
          let s = l.standing x h in
          let e = value x h in
          let b = s.small in
          let w = s.word-is in
          holds_at v ok (get_or f.vars x 0) (there x h) d (at (take (length f.vars) ps) x) (get_or here x 0) (omega arith) s.from s.inside (omega arith)

      matching : matches_at (lists_of v) d f (take (length f.vars) ps) ≡ true
      matching =
          both_true (fits (vars_in (lists_of v) d f.vars) (take (length f.vars) ps)) (all_hold (starts_in (lists_of v) d) f.predicates (take (length f.vars) ps))
          ((fits_iff (lists_of v) d f.vars (take (length f.vars) ps)).1 (size, holding))
          ((all_hold_iff (starts_in (lists_of v) d) f.predicates (take (length f.vars) ps)).1 true-all)

      from : bs ⊑ take (length f.vars) ps
      from x = ⊎_elim (λ (h : x < length f.vars). let e = value x h in let k = l.above x h in omega arith) (λ (h : length f.vars ≤ x). let o : at bs x ≡ 0 = get_or-eq_default bs 0 (omega arith) in omega arith) (below_or x (length f.vars))

      least : (qs : List ℕ) → MatchFrom (lists_of v) d f bs qs → take (length f.vars) ps ⊑ qs
      least qs m x =
          ⊎_elim (λ (h : x < length f.vars). let e = value x h in let k = l.low qs m x h in omega arith)
          (λ (h : length f.vars ≤ x). let e = size in let o : at (take (length f.vars) ps) x ≡ 0 = get_or-eq_default (take (length f.vars) ps) 0 (omega arith) in omega arith)
          (below_or x (length f.vars))

  module _ (bs here ps : List ℕ) (room : length f.vars ≤ length ps) (room-here : length f.vars ≤ length here) (l : Low v d f bs here ps)
      (j : ℕ) (inside : j < length f.predicates) (x b : ℕ)
      (short : LeftShort (starts_in (lists_of v) d) (get_or f.predicates j (Window 1)) (take (length f.vars) ps) x b) where
    size : length (take (length f.vars) ps) ≡ length f.vars
    size = length-take-le (length f.vars) ps room

    pub low-var : x < length f.vars
    low-var = let s = short.there in let e = size in omega arith

    pub low-before : get_or ps x 0 < b
    low-before = let e = get_or-take (length f.vars) ps x 0 low-var in let s = short.before in omega arith

    -- each match has variable x at b or behind
    pub low_needed : (qs : List ℕ) → MatchFrom (lists_of v) d f bs qs → b ≤ at qs x
    low_needed qs m =
        let w = match-parts qs m.0 in
        short.needs qs (w.0.0 ∙ sym size) above ((all_hold_iff (starts_in (lists_of v) d) f.predicates qs).0 w.1 j inside)
      where
        above : take (length f.vars) ps ⊑ qs
        above y =
            ⊎_elim (λ (h : y < length f.vars). let e = get_or-take (length f.vars) ps y 0 h in let k = l.low qs m y h in omega arith)
            (λ (h : length f.vars ≤ y). let e = size in let o : at (take (length f.vars) ps) y ≡ 0 = get_or-eq_default (take (length f.vars) ps) 0 (omega arith) in omega arith)
            (below_or y (length f.vars))

    module _ (i : ℕ) (is : i ≡ seek_from v (d * 65536 + b) (get_or here x 0) (list_end v (get_or f.vars x 0))) where
      pub low-stretch : Stretch v (get_or here x 0) (list_end v (get_or f.vars x 0))
      low-stretch =
          let s = list-stretch v ok (get_or f.vars x 0) (there x low-var) in
          let a = l.standing x low-var in
          record { order = let k = a.inside in omega arith; within = s.within; rising = λ y z p q r. let k = a.from in s.rising y z (omega arith) q r }

      -- the words in front of the index are below what is needed
      passed : (qs : List ℕ) → MatchFrom (lists_of v) d f bs qs → (y : ℕ) → start v (get_or f.vars x 0) ≤ y → y < i → word v y < d * 65536 + at qs x
      passed qs m y p q =
          let k = low_needed qs m in
          let a = l.standing x low-var in
          let e = a.word-is in
          let g = low-before in
          let s = list-stretch v ok (get_or f.vars x 0) (there x low-var) in
          ⊎_elim
          (λ (h : y < get_or here x 0). let r = s.rising y (get_or here x 0) p h a.inside in omega arith)
          (λ (h : get_or here x 0 ≤ y). let r = seek-below v (d * 65536 + b) (get_or here x 0) (list_end v (get_or f.vars x 0)) y h (omega arith) in omega arith)
          (below_or y (get_or here x 0))

      pub low_end : list_end v (get_or f.vars x 0) ≤ i → least_from (lists_of v) d f bs ≡ none
      low_end out = (unfound_from_iff (lists_of v) (lists-rise v ok) d f bs).1 (λ qs m.
          let w = (index qs m.0 x low-var).1 in
          let e : word v w.0 ≡ d * 65536 + at qs x = w.1.1.1 in
          let r : word v w.0 < d * 65536 + at qs x = passed qs m w.0 w.1.0 (let k = w.1.1.0 in omega arith) in omega arith)

      module _ (in_List : i < list_end v (get_or f.vars x 0)) where
        start-le : start v (get_or f.vars x 0) ≤ i
        start-le = let a = l.standing x low-var in let k = a.from in let g = seek_ge v (d * 65536 + b) (get_or here x 0) (list_end v (get_or f.vars x 0)) in omega arith

        reached : d * 65536 + b ≤ word v i
        reached = let s = low-stretch.order in let w = seek-at v (d * 65536 + b) (get_or here x 0) (list_end v (get_or f.vars x 0)) s (omega arith) in let e = ap (word v) is in omega arith

        pub low-out : doc_of (word v i) ≢ d → least_from (lists_of v) d f bs ≡ none
        low-out away = (unfound_from_iff (lists_of v) (lists-rise v ok) d f bs).1 (λ qs m. let r = behind qs m.0 x low-var i start-le in_List (passed qs m) in let q = (index qs m.0 x low-var).0 in let k = reached in away (omega arith))

        pub low-later : doc_of (word v i) ≡ d → get_or ps x 0 < pos_of (word v i)
        low-later same = let k = reached in let g = low-before in omega arith

        pub low_jump : doc_of (word v i) ≡ d → Low v d f bs (set here x i) (set ps x (pos_of (word v i)))
        low_jump same = record { standing = standing; above = above; low = low }
          where
            standing : (y : ℕ) → y < length f.vars → AtPos v (get_or f.vars y 0) d (get_or (set here x i) y 0) (get_or (set ps x (pos_of (word v i))) y 0)
            standing y h =
                ⊎_elim
                (λ (q : y ≡ x). rw (q, get_or-set_same here x i 0 (let k = low-var in omega arith), get_or-set_same ps x (pos_of (word v i)) 0 (let k = low-var in omega arith)) (record { from = start-le; inside = in_List; small = omega arith; word-is = omega arith }))
                (λ (q : y ≢ x). rw (get_or-set_other here x y i 0 q, get_or-set_other ps x y (pos_of (word v i)) 0 q) (l.standing y h))
                (decided (eqb_decides y x))

            above : (y : ℕ) → y < length f.vars → at bs y ≤ get_or (set ps x (pos_of (word v i))) y 0
            above y h =
                ⊎_elim
                (λ (q : y ≡ x). rw (q, get_or-set_same ps x (pos_of (word v i)) 0 (let k = low-var in omega arith)) (let k = l.above x low-var in let g = low-later same in omega arith))
                (λ (q : y ≢ x). rw (get_or-set_other ps x y (pos_of (word v i)) 0 q) (l.above y h))
                (decided (eqb_decides y x))

            low : (qs : List ℕ) → MatchFrom (lists_of v) d f bs qs → (y : ℕ) → y < length f.vars → get_or (set ps x (pos_of (word v i))) y 0 ≤ at qs y
            low qs m y h =
                ⊎_elim
                (λ (q : y ≡ x). rw (q, get_or-set_same ps x (pos_of (word v i)) 0 (let k = low-var in omega arith)) (let r = behind qs m.0 x low-var i start-le in_List (passed qs m) in omega arith))
                (λ (q : y ≢ x). rw (get_or-set_other ps x y (pos_of (word v i)) 0 q) (l.low qs m y h))
                (decided (eqb_decides y x))
