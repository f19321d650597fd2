-- What `src/predicates.rt` tells of each predicate, over plain positions. No contract cites this file.
--     distance-first, distance-second, ordered-second     the variable that a predicate leaves short
--     samepara-first, samepara-behind     by the start that is needed beside the later position
--     samepara-second              whichever of a and b is named first
--     proximity-alone, proximity-behind, proximity-second, proximity-first     by how far b stands behind a
--     max-small                    the later of two positions is one
--     largest-first, largest-next  the largest of the first positions
--     window-short, window-few, window-kept     what it tells, where the variables are looked at in an order
--     named                        the variables that a predicate names
--     largest-tuple, largest-front the largest of the first n positions
-- Assumes nothing.
use Prim.Native.Nat.{ℕ, ◌+◌, ◌-◌, ◌<◌, ◌≤◌, min, max}
use native.Mathlib.Omega.{arith}
use mathlib.Core.Path.{◌≡◌, refl, sym, subst, ◌∙◌}
use mathlib.Core.Bool.{true, ◌&&◌}
use mathlib.Core.Logic.{⊎_elim}
use mathlib.Core.List.{List}
use lib.ListN.{length, get_or, take}
use lib.Dec.{ltb}
use lib.Seq.{get_or-take, length-take-le}
use borrow.Author.Tests.{ltb-true}
use Rattle.seq.proofs.Laws.Tests.{both, below_or}
use Rattle.plan.specs.declared.row.Predicate.{Predicate}
use Rattle.plan.specs.declared.row.Predicate.TheVariants.{Distance, Ordered, Samepara, Window, Proximity}
use Rattle.plan.specs.Limits.{no_upper_end}
use Rattle.fulltext.specs.Positions.{limit}
use Rattle.fulltext.specs.Calculus.{at, In}
use Rattle.fulltext.specs.Matches.{holds}
use Rattle.fulltext.specs.Inner.Bounds.{Needs}
use Rattle.fulltext.specs.Inner.Paragraphs.{needed_start}
use Rattle.matcher.specs.Inner.Shortfall.{InDocument, Largest, LeftShort}
use Rattle.matcher.specs.Inner.Order.{Order}
use Rattle.fulltext.proofs.Laws.Needs.{distance-needs-first, distance-needs-second, ordered-needs, samepara-holds, samepara-turned, samepara-needs, samepara-needs-start, window-holds, window-needs, proximity-needs-first, proximity-needs-second, proximity-never}
use Rattle.matcher.proofs.Laws.Paragraphs.{Needed, needed-told}

module _ (ss ps : List ℕ) (small : InDocument ps) where
  -- a variable that needs 65,536 has no position left
  none_left : (c : Predicate) (x : ℕ) → x < length ps → Needs ss c ps x limit → LeftShort ss c ps x limit
  none_left c x h n = let m = small x h in record { there = h; before = omega arith; most = omega arith; needs = n }

  module _ (a b c : ℕ) (h : a < length ps) (k : b < length ps) where
    pub distance-first : at ps a + c + 1 < at ps b → LeftShort ss (Distance a b c) ps a (at ps b - (c + 1))
    distance-first l = let m = small b k in record { there = h; before = omega arith; most = omega arith; needs = distance-needs-first ss ps a b c }

    pub distance-second : at ps b + c + 1 < at ps a → LeftShort ss (Distance a b c) ps b (at ps a - (c + 1))
    distance-second l = let m = small a h in record { there = k; before = omega arith; most = omega arith; needs = distance-needs-second ss ps a b c }

  module _ (a b least most : ℕ) (h : a < length ps) (k : b < length ps) where
    -- nothing is left for a variable beside itself
    pub proximity-alone : a ≡ b → LeftShort ss (Proximity a b least most) ps b limit
    proximity-alone same = none_left (Proximity a b least most) b k (proximity-never ss ps a b least most limit same)

    -- nor behind the last position
    pub proximity-behind : 65535 < at ps a + least + 1 → LeftShort ss (Proximity a b least most) ps b limit
    proximity-behind l = none_left (Proximity a b least most) b k (λ qs n le e. omega (arith, proximity-needs-second ss ps a b least most qs n le e))

    pub proximity-second : at ps b < at ps a + least + 1 → at ps a + least + 1 ≤ 65535 → LeftShort ss (Proximity a b least most) ps b (at ps a + least + 1)
    proximity-second l g = record { there = k; before = l; most = omega arith; needs = λ qs n le e. omega (arith, proximity-needs-second ss ps a b least most qs n le e) }

    -- b stands too far only where there is an upper end
    pub proximity-first : at ps a + most + 1 < at ps b → LeftShort ss (Proximity a b least most) ps a (at ps b - (most + 1))
    proximity-first l =
        let m = small b k in
        record { there = h; before = omega arith; most = omega arith; needs = proximity-needs-first ss ps a b least most (λ (e : most ≡ no_upper_end). omega arith) }

  module _ (a b : ℕ) (h : a < length ps) (k : b < length ps) where
    pub ordered-second : at ps b ≤ at ps a → LeftShort ss (Ordered a b) ps b (at ps a + 1)
    ordered-second l = let m = small a h in record { there = k; before = omega arith; most = omega arith; needs = ordered-needs ss ps a b }

    -- no start is behind the last position
    module _ (below : (s : ℕ) → In s ss → s < limit) where
      -- r is needed beside the later position, which is p
      module _ (p : ℕ) (far : p ≡ max (at ps a) (at ps b)) (r : ℕ) (e : r ≡ needed_start ss p) where
        asked : Needed ss p r
        asked = let m = small a h in let n = small b k in rw e (needed-told ss p below (omega arith))

        pub samepara-first : at ps a ≤ at ps b → at ps a < r → LeftShort ss (Samepara a b) ps a r
        samepara-first l f = record { there = h; before = f; most = asked.most; needs = needs }
          where
            needs : Needs ss (Samepara a b) ps a r
            needs =
                ⊎_elim
                (λ (g : p < r). samepara-needs-start ss ps a b r (asked.none_before g))
                (λ (g : r ≤ p). samepara-needs ss ps a b r (asked.start g) (omega arith))
                (below_or p r)

        pub samepara-behind : r ≤ min (at ps a) (at ps b) → holds ss (Samepara a b) ps ≡ true
        samepara-behind f =
            samepara-holds ss ps a b r (asked.start (omega arith)) (omega arith) (omega arith)
            (λ t i g m. omega (arith, asked.last t i (omega arith)))

-- whichever of a and b is named first
pub samepara-second : {ss ps : List ℕ} {a b x r : ℕ} → LeftShort ss (Samepara b a) ps x r → LeftShort ss (Samepara a b) ps x r
samepara-second {ss} {ps} {a} {b} h = record { there = h.there; before = h.before; most = h.most; needs = λ qs n le e. h.needs qs n le (samepara-turned ss qs b a ∙ e) }

-- the later of two positions is one
pub max-small : (ps : List ℕ) → InDocument ps → (a b : ℕ) → a < length ps → b < length ps → max (at ps a) (at ps b) ≤ 65535
max-small ps small a b h k = let m = small a h in let n = small b k in omega arith

-- of the first x positions the largest
pub largest-first : (ps : List ℕ) → Largest ps 1 (get_or ps 0 0)
largest-first ps = record { most = λ y h. let e : y ≡ 0 = omega arith in rw e (omega arith); one = (0, (omega arith, refl)) }

pub largest-next : (ps : List ℕ) (x m : ℕ) → Largest ps x m → Largest ps (x + 1) (max m (get_or ps x 0))
largest-next ps x m g = record {
  most = λ y h. ⊎_elim (λ (l : y < x). let a = g.most y l in omega arith) (λ (l : x ≤ y). let e : y ≡ x = omega arith in rw e (omega arith)) (below_or y x);
  one = ⊎_elim
      (λ (a : m < get_or ps x 0). (x, (omega arith, let e : get_or ps x 0 ≡ max m (get_or ps x 0) = omega arith in e)))
      (λ (a : get_or ps x 0 ≤ m). let w = g.one in let l : w.0 < x = w.1.0 in (w.0, (omega arith, w.1.1 ∙ let e : m ≡ max m (get_or ps x 0) = omega arith in e)))
      (below_or m (get_or ps x 0));
}

module _ (ss ps : List ℕ) (small : InDocument ps) (order : List ℕ) (o : Order (length ps) order) (largest c : ℕ) (g : Largest ps (length ps) largest) where
  -- a variable that stands too far in front of the largest is left short
  pub window-short : (x : ℕ) → x < length ps → at ps x < largest - (c - 1) → c ≤ largest → LeftShort ss (Window c) ps x (largest - (c - 1))
  window-short x h l few =
      let w = g.one in
      let e : at ps w.0 ≡ largest = w.1.1 in
      let k : w.0 < length ps = w.1.0 in
      let m = small w.0 k in
      record { there = h; before = l; most = omega arith; needs = rw (← e) (window-needs ss ps c x w.0 h k) }

  -- the largest is within the limit by itself
  pub window-few : 1 ≤ c → largest < c → holds ss (Window c) ps ≡ true
  window-few some few = window-holds ss ps c (λ y z a b. let p = g.most y a in omega arith)

  -- none does
  pub window-kept : c ≤ largest → ((i : ℕ) → i < length ps → largest - (c - 1) ≤ at ps (get_or order i 0)) → holds ss (Window c) ps ≡ true
  window-kept few all = window-holds ss ps c (λ y z a b. let p = g.most y a in let q = reached z b in omega arith)
    where
      reached : (z : ℕ) → z < length ps → largest - (c - 1) ≤ at ps z
      reached z h = let w = o.covers z h in subst (λ (i : ℕ). largest - (c - 1) ≤ at ps i) w.1.1 (all w.0 w.1.0)

-- the variables of a predicate that names two of n
pub named : (n a b : ℕ) → (ltb a n && ltb b n) ≡ true → (a < n) × (b < n)
named n a b e = let w = both (ltb a n) (ltb b n) e in (ltb-true a n w.0, ltb-true b n w.1)

-- the largest of the first n positions is that of these alone
module _ (ps : List ℕ) (n m : ℕ) (room : n ≤ length ps) where
  size : length (take n ps) ≡ n
  size = length-take-le n ps room

  pub largest-tuple : Largest ps n m → Largest (take n ps) (length (take n ps)) m
  largest-tuple g = rw size (record {
    most = λ x h. let e = get_or-take n ps x 0 h in let l = g.most x h in omega arith;
    one = let w = g.one in (w.0, (w.1.0, get_or-take n ps w.0 0 w.1.0 ∙ w.1.1));
  })

  pub largest-front : Largest (take n ps) (length (take n ps)) m → Largest ps n m
  largest-front h =
      let g : Largest (take n ps) n m = rw size at h in
      record {
        most = λ x l. let e = get_or-take n ps x 0 l in let k = g.most x l in omega arith;
        one = let w = g.one in (w.0, (w.1.0, sym (get_or-take n ps w.0 0 w.1.0) ∙ w.1.1));
      }
