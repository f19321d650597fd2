-- What each predicate says and needs. No other law knows the predicates' tests, and no contract cites this file.
--     Begun, Together              a position that stands in a paragraph, and two that stand in one
--     Fact, holds_decides          what a predicate says of positions; its test decides it
--     distance-holds, ordered-holds, samepara-holds, window-holds, proximity-holds
--                                  the test is true where this is so
--     distance-needs-first, distance-needs-second, ordered-needs, samepara-needs, samepara-needs-start, window-needs,
--     proximity-needs-first, proximity-needs-second, proximity-never
--                                  what a predicate needs of a variable
--     samepara-turned              SAME TITLE of a and b is that of b and a
--     meet, meet-at, length_meet   of each variable the lesser of two positions
--     holds-meet                   a predicate that holds of two tuples holds of their meet
--     sameparas                    what SAME TITLE is before the first start, and behind it
--     proximities                  what APART is beside the other predicates
-- Assumes nothing.
use Prim.Native.Nat.{ℕ, zero, suc, ◌+◌, ◌-◌, min, max, ◌<◌, ◌≤◌}
use native.Mathlib.Omega.{arith}
use mathlib.Core.Path.{◌≡◌, refl, ap, subst, ◌∙◌}
use mathlib.Core.Bool.{true, ◌&&◌}
use mathlib.Core.Logic.{inl, inr, ⊎_elim, ◌↔◌, ◌≢◌}
use mathlib.Core.List.{List, [], ◌∷◌}
use lib.ListN.{length}
use lib.Dec.{leb, ltb}
use Rattle.seq.proofs.Laws.Tests.{below_or}
use Rattle.seq.proofs.Laws.Decides as decides
use Rattle.seq.proofs.Laws.Decides.{Decides, eqb_decides, leb_decides, ltb_decides, and_decides, or_decides, same_decides, one-test}
use Rattle.seq.proofs.Laws.Members.{Has, any_decides, has-index, index_has}
use Rattle.plan.specs.declared.row.Predicate.{Predicate}
use Rattle.plan.specs.declared.row.Predicate.TheVariants.{Distance, Ordered, Samepara, Window, Proximity}
use Rattle.plan.specs.Limits.{no_upper_end}
use Rattle.fulltext.specs.Calculus.{at, In, Within, Proximal}
use Rattle.fulltext.specs.Positions.{limit, largest, smallest_of, smallest}
use Rattle.fulltext.specs.Paragraphs.{para_start, in_para, together}
use Rattle.fulltext.specs.Matches.{difference, within, holds}
use Rattle.fulltext.specs.Inner.Bounds.{Needs}
use Rattle.fulltext.specs.Demands.{Sameparas, Proximities}
use Rattle.fulltext.proofs.Laws.Positions.{in-none, at-largest, smallest-at}
use Rattle.fulltext.proofs.Laws.Paragraphs.{para-told, para-begun, start-unparted, unparted-start}

-- a position stands in a paragraph: some start is not above it
abbrev pub Begun : List ℕ → ℕ → Type 0
Begun ss p = (s : ℕ) × In s ss × (s ≤ p)

-- each start stands at or in front of both positions or of neither
abbrev Unparted : List ℕ → ℕ → ℕ → Type 0
Unparted ss p q = (s : ℕ) → In s ss → (s ≤ p) ↔ (s ≤ q)

-- two positions stand in one paragraph
abbrev pub Together : List ℕ → ℕ → ℕ → Type 0
Together ss p q = (Begun ss p × Begun ss q) × Unparted ss p q

-- what a predicate says of the variables' positions, in a document with these starts
abbrev pub Fact : List ℕ → Predicate → List ℕ → Type 0
Fact ss (Distance a b c) ps = (at ps a ≤ at ps b + (c + 1)) × (at ps b ≤ at ps a + (c + 1))
Fact ss (Ordered a b) ps = at ps a < at ps b
Fact ss (Samepara a b) ps = Together ss (at ps a) (at ps b)
Fact ss (Window c) ps = (x y : ℕ) → x < length ps → y < length ps → at ps x ≤ at ps y + (c - 1)
Fact ss (Proximity a b least most) ps = Proximal least most (at ps a) (at ps b)

distance_decides : (p q n : ℕ) → Decides (leb (difference p q) n) ((p ≤ q + n) × (q ≤ p + n))
distance_decides p q n = same_decides (leb_decides (difference p q) n) (λ h. omega arith) (λ h. omega arith)

-- a start that does not part two positions stands at or in front of both or of neither
module _ (p q s : ℕ) where
  alike : ((min p q < s) × (s ≤ max p q) → ⊥) → (s ≤ p) ↔ (s ≤ q)
  alike n = (
    λ (h : s ≤ p). ⊎_elim (λ (l : q < s). absurd (n (omega arith, omega arith))) (λ l. l) (below_or q s),
    λ (h : s ≤ q). ⊎_elim (λ (l : p < s). absurd (n (omega arith, omega arith))) (λ l. l) (below_or p s),
  )

  unparted : (s ≤ p) ↔ (s ≤ q) → (min p q < s) × (s ≤ max p q) → ⊥
  unparted h w = ⊎_elim (λ (l : p < s). ⊎_elim (λ (k : q < s). omega arith) (λ (k : s ≤ q). omega (arith, h.1 k)) (below_or q s)) (λ (l : s ≤ p). omega (arith, h.0 l)) (below_or p s)

begun_decides : (ss : List ℕ) (p : ℕ) → Decides (in_para ss p) (Begun ss p)
begun_decides ss p =
    same_decides (any_decides (λ s. leb s p) (λ s. s ≤ p) (λ s. leb_decides s p) ss)
    (λ w. (w.0, has-index 0 w.0 ss w.1, w.2))
    (λ w. (w.0, subst (λ (s : ℕ). Has s ss) w.1.2 (index_has 0 ss w.1.0 w.1.1), w.2))

together_decides : (ss : List ℕ) (p q : ℕ) → Decides (together ss p q) (Together ss p q)
unfolding together
together_decides ss p q =
    same_decides
    (and_decides (and_decides (begun_decides ss p) (begun_decides ss q)) (eqb_decides (para_start ss p) (para_start ss q)))
    (λ h. (h.0, start-unparted ss p q h.0.0 h.0.1 h.1))
    (λ h. (h.0, unparted-start ss p q h.0.0 h.0.1 h.1))

-- the bounds of all positions are those of the largest and the smallest
largest-le : (ps : List ℕ) (b : ℕ) → ((x : ℕ) → x < length ps → at ps x ≤ b) → largest ps ≤ b
largest-le [] b h = omega arith
largest-le (p ∷ ps) b h =
    let rest : largest ps ≤ b = largest-le ps b (λ x l. h (suc x) (omega arith)) in
    let here : p ≤ b = h 0 (omega arith) in
    omega arith

le-smallest : (p : ℕ) (ps : List ℕ) (b : ℕ) → ((x : ℕ) → x < suc (length ps) → b ≤ at (p ∷ ps) x) → b ≤ smallest_of p ps
le-smallest p [] b h = h 0 (omega arith)
le-smallest p (q ∷ ps) b h =
    let rest : b ≤ smallest_of q ps = le-smallest q ps b (λ x l. h (suc x) (omega arith)) in
    let here : b ≤ p = h 0 (omega arith) in
    omega arith

window_decides : (ps : List ℕ) (n : ℕ) → Decides (leb (largest ps - smallest ps) n) ((x y : ℕ) → x < length ps → y < length ps → at ps x ≤ at ps y + n)
window_decides [] n = same_decides (leb_decides 0 n) (λ h x y l. absurd (omega arith)) (λ h. omega arith)
window_decides (p ∷ ps) n = same_decides (leb_decides (largest (p ∷ ps) - smallest (p ∷ ps)) n) within spread
  where
    within : largest (p ∷ ps) - smallest (p ∷ ps) ≤ n → (x y : ℕ) → x < suc (length ps) → y < suc (length ps) → at (p ∷ ps) x ≤ at (p ∷ ps) y + n
    within h x y l k = omega (arith, at-largest (p ∷ ps) x, smallest-at p ps y k)

    spread : ((x y : ℕ) → x < suc (length ps) → y < suc (length ps) → at (p ∷ ps) x ≤ at (p ∷ ps) y + n) → largest (p ∷ ps) - smallest (p ∷ ps) ≤ n
    spread h = omega (arith, le-smallest p ps (largest (p ∷ ps) - n) (λ y k. omega (arith, largest-le (p ∷ ps) (at (p ∷ ps) y + n) (λ x l. h x y l k))))

within_decides : (least most n : ℕ) → Decides (within least most n) (Within least most n)
within_decides least most n = and_decides (leb_decides least n) (or_decides (eqb_decides most no_upper_end) (leb_decides n most))

proximity_decides : (least most p q : ℕ) → Decides (ltb p q && within least most (q - p - 1)) (Proximal least most p q)
proximity_decides least most p q = same_decides (and_decides (ltb_decides p q) (within_decides least most (q - p - 1))) there back
  where
    there : (p < q) × Within least most (q - p - 1) → Proximal least most p q
    there h = (q - p - 1, omega arith, h.1)

    back : Proximal least most p q → (p < q) × Within least most (q - p - 1)
    back h = let n = h.0 in let e : n ≡ q - p - 1 = omega arith in (omega arith, subst (Within least most) e h.2)

pub holds_decides : (ss : List ℕ) (c : Predicate) (ps : List ℕ) → Decides (holds ss c ps) (Fact ss c ps)
unfolding holds
holds_decides ss (Distance a b c) ps = distance_decides (at ps a) (at ps b) (c + 1)
holds_decides ss (Ordered a b) ps = ltb_decides (at ps a) (at ps b)
holds_decides ss (Samepara a b) ps = together_decides ss (at ps a) (at ps b)
holds_decides ss (Window c) ps = window_decides ps (c - 1)
holds_decides ss (Proximity a b least most) ps = proximity_decides least most (at ps a) (at ps b)

module _ (ss : List ℕ) (c : Predicate) (ps : List ℕ) where
  -- the test from what the predicate says, and back
  fact-holds : Fact ss c ps → holds ss c ps ≡ true
  fact-holds f = decides.holds (holds_decides ss c ps) f

  fact_of : holds ss c ps ≡ true → Fact ss c ps
  fact_of e = (holds_decides ss c ps).yes e

module _ (ss ps : List ℕ) where
  pub distance-holds : (a b c : ℕ) → at ps a ≤ at ps b + (c + 1) → at ps b ≤ at ps a + (c + 1) → holds ss (Distance a b c) ps ≡ true
  distance-holds a b c h l = fact-holds ss (Distance a b c) ps (h, l)

  pub distance-needs-first : (a b c : ℕ) → Needs ss (Distance a b c) ps a (at ps b - (c + 1))
  distance-needs-first a b c qs n le e = omega (arith, le b, (fact_of ss (Distance a b c) qs e).1)

  pub distance-needs-second : (a b c : ℕ) → Needs ss (Distance a b c) ps b (at ps a - (c + 1))
  distance-needs-second a b c qs n le e = omega (arith, le a, (fact_of ss (Distance a b c) qs e).0)

  pub ordered-holds : (a b : ℕ) → at ps a < at ps b → holds ss (Ordered a b) ps ≡ true
  ordered-holds a b h = fact-holds ss (Ordered a b) ps h

  pub ordered-needs : (a b : ℕ) → Needs ss (Ordered a b) ps b (at ps a + 1)
  ordered-needs a b qs n le e = omega (arith, le a, fact_of ss (Ordered a b) qs e)

  module _ (a b : ℕ) where
    -- a start is not above either position, and none stands between them
    pub samepara-holds : (s : ℕ) → In s ss → s ≤ at ps a → s ≤ at ps b → ((t : ℕ) → In t ss → min (at ps a) (at ps b) < t → t ≤ max (at ps a) (at ps b) → ⊥) → holds ss (Samepara a b) ps ≡ true
    samepara-holds s i h k none = fact-holds ss (Samepara a b) ps (((s, i, h), (s, i, k)), λ t j. alike (at ps a) (at ps b) t (λ w. none t j w.0 w.1))

    pub samepara-turned : holds ss (Samepara a b) ps ≡ holds ss (Samepara b a) ps
    samepara-turned = one-test (same_decides (holds_decides ss (Samepara a b) ps) (turned (at ps a) (at ps b)) (turned (at ps b) (at ps a))) (holds_decides ss (Samepara b a) ps)
      where
        turned : (p q : ℕ) → Together ss p q → Together ss q p
        turned p q f = ((f.0.1, f.0.0), λ s i. ((f.1 s i).1, (f.1 s i).0))

    pub samepara-needs : (s : ℕ) → In s ss → s ≤ at ps b → Needs ss (Samepara a b) ps a s
    samepara-needs s i h qs n le e = ((fact_of ss (Samepara a b) qs e).1 s i).1 (omega (arith, le b))

    -- where no start is in front of s
    pub samepara-needs-start : (s : ℕ) → ((t : ℕ) → In t ss → s ≤ t) → Needs ss (Samepara a b) ps a s
    samepara-needs-start s least qs n le e = let w = (fact_of ss (Samepara a b) qs e).0.0 in omega (arith, least w.0 w.1, w.2)

  pub window-holds : (c : ℕ) → ((x y : ℕ) → x < length ps → y < length ps → at ps x ≤ at ps y + (c - 1)) → holds ss (Window c) ps ≡ true
  window-holds c h = fact-holds ss (Window c) ps h

  pub window-needs : (c x y : ℕ) → x < length ps → y < length ps → Needs ss (Window c) ps x (at ps y - (c - 1))
  window-needs c x y h l qs n le e = omega (arith, le y, fact_of ss (Window c) qs e y x (omega arith) (omega arith))

  module _ (a b least most : ℕ) where
    pub proximity-holds : at ps a + (least + 1) ≤ at ps b → at ps b ≤ at ps a + (most + 1) → holds ss (Proximity a b least most) ps ≡ true
    proximity-holds h l = fact-holds ss (Proximity a b least most) ps (at ps b - at ps a - 1, omega arith, (omega arith, inr (omega arith)))

    pub proximity-needs-second : Needs ss (Proximity a b least most) ps b (at ps a + (least + 1))
    proximity-needs-second qs n le e = let f = fact_of ss (Proximity a b least most) qs e in omega (arith, le a, f.1, f.2.0)

    -- where there is an upper end
    pub proximity-needs-first : most ≢ no_upper_end → Needs ss (Proximity a b least most) ps a (at ps b - (most + 1))
    proximity-needs-first ends qs n le e =
        let f = fact_of ss (Proximity a b least most) qs e in
        ⊎_elim (λ (q : most ≡ no_upper_end). absurd (ends q)) (λ (q : f.0 ≤ most). omega (arith, le b, f.1)) f.2.1

    -- of one variable it never holds
    pub proximity-never : (bound : ℕ) → a ≡ b → Needs ss (Proximity a b least most) ps b bound
    proximity-never bound same qs n le e = omega (arith, ap (at qs) same, (fact_of ss (Proximity a b least most) qs e).1)

-- of each variable the lesser position
abbrev pub meet : List ℕ → List ℕ → List ℕ
meet [] qs = []
meet (p ∷ ps) [] = []
meet (p ∷ ps) (q ∷ qs) = min p q ∷ meet ps qs

pub meet-at : (ps qs : List ℕ) (x : ℕ) → at (meet ps qs) x ≡ min (at ps x) (at qs x)
meet-at [] qs x = omega arith
meet-at (p ∷ ps) [] x = omega arith
meet-at (p ∷ ps) (q ∷ qs) zero = refl
meet-at (p ∷ ps) (q ∷ qs) (suc x) = meet-at ps qs x

length_meet : (ps qs : List ℕ) → length (meet ps qs) ≡ min (length ps) (length qs)
length_meet [] qs = omega arith
length_meet (p ∷ ps) [] = omega arith
length_meet (p ∷ ps) (q ∷ qs) = let e = length_meet ps qs in omega arith

proximal-meet : (least most p q p' q' : ℕ) → Proximal least most p q → Proximal least most p' q' → Proximal least most (min p p') (min q q')
proximal-meet least most p q p' q' f g = (
  between,
  omega (arith, f.1, g.1),
  (
    omega (arith, f.1, f.2.0, g.1, g.2.0),
    ⊎_elim
        (λ (e : most ≡ no_upper_end). inl e)
        (λ (h : f.0 ≤ most). ⊎_elim (λ (e : most ≡ no_upper_end). inl e) (λ (l : g.0 ≤ most). inr (omega (arith, f.1, g.1))) g.2.1)
        f.2.1,
  ),
)
  where
    between : ℕ
    between = min q q' - min p p' - 1

begun-meet : (ss : List ℕ) (p q : ℕ) → Begun ss p → Begun ss q → Begun ss (min p q)
begun-meet ss p q f g = ⊎_elim (λ (h : p < q). (f.0, f.1, omega (arith, f.2))) (λ (h : q ≤ p). (g.0, g.1, omega (arith, g.2))) (below_or p q)

together-meet : (ss : List ℕ) (p q p' q' : ℕ) → Together ss p q → Together ss p' q' → Together ss (min p p') (min q q')
together-meet ss p q p' q' f g = (
  (begun-meet ss p p' f.0.0 g.0.0, begun-meet ss q q' f.0.1 g.0.1),
  λ s i. (
    λ (h : s ≤ min p p'). omega (arith, (f.1 s i).0 (omega arith), (g.1 s i).0 (omega arith)),
    λ (h : s ≤ min q q'). omega (arith, (f.1 s i).1 (omega arith), (g.1 s i).1 (omega arith)),
  ),
)

fact-meet : (ss : List ℕ) (c : Predicate) (ps qs : List ℕ) → Fact ss c ps → Fact ss c qs → Fact ss c (meet ps qs)
fact-meet ss (Distance a b c) ps qs f g = rw (meet-at ps qs a, meet-at ps qs b) (omega arith)
fact-meet ss (Ordered a b) ps qs f g = rw (meet-at ps qs a, meet-at ps qs b) (omega arith)
fact-meet ss (Samepara a b) ps qs f g = rw (meet-at ps qs a, meet-at ps qs b) (together-meet ss (at ps a) (at ps b) (at qs a) (at qs b) f g)
fact-meet ss (Window c) ps qs f g = λ x y h l. let n = length_meet ps qs in rw (meet-at ps qs x, meet-at ps qs y) (omega (arith, f x y (omega arith) (omega arith), g x y (omega arith) (omega arith)))
fact-meet ss (Proximity a b least most) ps qs f g = rw (meet-at ps qs a, meet-at ps qs b) (proximal-meet least most (at ps a) (at ps b) (at qs a) (at qs b) f g)

pub holds-meet : (ss : List ℕ) (c : Predicate) (ps qs : List ℕ) → holds ss c ps ≡ true → holds ss c qs ≡ true → holds ss c (meet ps qs) ≡ true
holds-meet ss c ps qs d e = fact-holds ss c (meet ps qs) (fact-meet ss c ps qs (fact_of ss c ps d) (fact_of ss c qs e))

-- what SAME TITLE is before the first start, and behind it
pub sameparas : (ss ps : List ℕ) (a b : ℕ) → Sameparas ss ps a b
sameparas ss ps a b = record {
  before_first = λ before. decides.fails (holds_decides ss (Samepara a b) ps) (λ f. not-begun ss (at ps a) before f.0.0);
  before_second = λ before. decides.fails (holds_decides ss (Samepara a b) ps) (λ f. not-begun ss (at ps b) before f.0.1);
  no_starts = decides.fails (holds_decides [] (Samepara a b) ps) (λ f. not-begun [] (at ps a) (λ s i. absurd (in-none s i)) f.0.0);
  one_position = λ one. (
    λ e. (fact_of ss (Samepara a b) ps e).0.0,
    λ w. fact-holds ss (Samepara a b) ps ((w, rw one at w), λ s i. (λ (h : s ≤ at ps a). omega arith, λ (h : s ≤ at ps b). omega arith)),
  );
  begun = λ s i h k. (
    λ e t j. let f = (fact_of ss (Samepara a b) ps e).1 t j in λ l m. unparted (at ps a) (at ps b) t f (l, m),
    samepara-holds ss ps a b s i h k,
  );
  turned = samepara-turned ss ps a b;
  by_starts = λ below. (
    λ e. let f = fact_of ss (Samepara a b) ps e in by-starts below f.0.0 f.0.1 f.1,
    λ h. fact-holds ss (Samepara a b) ps (starts_by h.0 h.1),
  );
  onward = λ c e f. fact-holds ss (Samepara a c) ps (together-onward ss (at ps a) (at ps b) (at ps c) (fact_of ss (Samepara a b) ps e) (fact_of ss (Samepara b c) ps f));
}
  where
    not-begun : (ss : List ℕ) (p : ℕ) → ((s : ℕ) → In s ss → p < s) → Begun ss p → ⊥
    not-begun ss p before w = omega (arith, before w.0 w.1, w.2)

    by-starts : ((s : ℕ) → In s ss → s < limit) → Begun ss (at ps a) → Begun ss (at ps b) → Unparted ss (at ps a) (at ps b)
        → (para_start ss (at ps a) ≢ limit) × (para_start ss (at ps a) ≡ para_start ss (at ps b))
    by-starts below x y u =
        let w = para-begun ss (at ps a) x.0 x.1 x.2 in
        let l = below (para_start ss (at ps a)) w.0 in
        (λ e. omega arith, unparted-start ss (at ps a) (at ps b) x y u)

    start_of : (p : ℕ) → para_start ss p ≢ limit → Begun ss p
    start_of p n = ⊎_elim (λ x. absurd (n x.0)) (λ x. (para_start ss p, x.0, x.1.0)) (para-told ss p)

    starts_by : para_start ss (at ps a) ≢ limit → para_start ss (at ps a) ≡ para_start ss (at ps b) → Together ss (at ps a) (at ps b)
    starts_by n e =
        let x = start_of (at ps a) n in
        let y = start_of (at ps b) (λ z. n (e ∙ z)) in
        ((x, y), start-unparted ss (at ps a) (at ps b) x y e)

    together-onward : (ss : List ℕ) (p q r : ℕ) → Together ss p q → Together ss q r → Together ss p r
    together-onward ss p q r f g = ((f.0.0, g.0.1), λ s i. (λ h. (g.1 s i).0 ((f.1 s i).0 h), λ h. (f.1 s i).1 ((g.1 s i).1 h)))

-- what APART is beside the other predicates
pub proximities : (ss ps : List ℕ) (a b : ℕ) → Proximities ss ps a b
proximities ss ps a b = record {
  unlimited =
      one-test
      (same_decides (holds_decides ss (Proximity a b 0 no_upper_end) ps) (ordered_of 0 no_upper_end) (λ (h : at ps a < at ps b). (at ps b - at ps a - 1, omega arith, (omega arith, inl refl))))
      (holds_decides ss (Ordered a b) ps);
  phrase = (
    λ e. phrase-of (fact_of ss (Proximity a b 0 0) ps e),
    λ (e : at ps b ≡ at ps a + 1). fact-holds ss (Proximity a b 0 0) ps (0, omega arith, (omega arith, inr (omega arith))),
  );
  before = λ least most e. fact-holds ss (Ordered a b) ps (ordered_of least most (fact_of ss (Proximity a b least most) ps e));
  near = λ least most ends e. fact-holds ss (Distance a b most) ps (distance-of least most ends (fact_of ss (Proximity a b least most) ps e));
  one_way = λ least most least' most' e f.
      let g : at ps a < at ps b = ordered_of least most (fact_of ss (Proximity a b least most) ps e) in
      let h = fact_of ss (Proximity b a least' most') ps f in
      absurd (let z : ⊥ = omega (arith, h.1) in z);
  itself = λ least most. decides.fails (holds_decides ss (Proximity a a least most) ps) (λ (f : Proximal least most (at ps a) (at ps a)). omega (arith, f.1));
  farthest = λ least h.
      one-test
      (same_decides (holds_decides ss (Proximity a b least 65534) ps) (λ (f : Proximal least 65534 (at ps a) (at ps b)). (f.0, f.1, (f.2.0, inl refl))) (no_farther least h))
      (holds_decides ss (Proximity a b least no_upper_end) ps);
}
  where
    ordered_of : (least most : ℕ) → Proximal least most (at ps a) (at ps b) → at ps a < at ps b
    ordered_of least most f = omega (arith, f.1)

    distance-of : (least most : ℕ) → most ≢ no_upper_end → Proximal least most (at ps a) (at ps b) → (at ps a ≤ at ps b + (most + 1)) × (at ps b ≤ at ps a + (most + 1))
    distance-of least most ends f = ⊎_elim (λ (e : most ≡ no_upper_end). absurd (ends e)) (λ (h : f.0 ≤ most). (omega (arith, f.1), omega (arith, f.1))) f.2.1

    no_farther : (least : ℕ) → at ps b ≤ 65535 → Proximal least no_upper_end (at ps a) (at ps b) → Proximal least 65534 (at ps a) (at ps b)
    no_farther least h f = (f.0, f.1, (f.2.0, inr (omega (arith, f.1))))

    phrase-of : Proximal 0 0 (at ps a) (at ps b) → at ps b ≡ at ps a + 1
    phrase-of f = ⊎_elim (λ (e : 0 ≡ no_upper_end). absurd (let z : ⊥ = omega arith in z)) (λ (h : f.0 ≤ 0). omega (arith, f.1)) f.2.1
