-- The statements that the crate is held to, each a named type. `proofs/Demands.antt` proves each in a line. Assumes nothing.
--     Demand2        demand 2 for patterns and plans: the tests that compute and the calculus agree
--     ParaStartIs    what the start of a position's paragraph (02, N8) is
--     SameparaIs     what SAME TITLE is before a document's first start (02, N3), and behind it
--     ProximityIs    what APART (02, N2) is beside BEFORE and NEAR, as a phrase, of one variable and the other way round
--     OrderIs        the order of tuples is strict and total
--     MatchesFromIs  the matches of a pattern from a tuple on (02, N4): which they are, in which order, the first one, and how they go on
use Rattle.std.specs.Prelude.{ℕ, ◌+◌, min, max, ◌<◌, ◌≤◌, ◌≡◌, true, false, ◌⊎◌, ◌↔◌, ◌≢◌, List, [], length, get_or, drop, replicate}
use Rattle.seq.specs.Lists.{first}
use Rattle.volume.specs.Layout.{lists_of}
use Rattle.volume.specs.Check as volume
use Rattle.plan.specs.declared.row.Predicate.TheVariants.{Distance, Ordered, Samepara, Proximity}
use Rattle.plan.specs.Limits.{no_upper_end}
use Rattle.plan.specs.Rows.{rows_of}
use Rattle.plan.specs.Check.{Accepted}
use Rattle.plan.specs.Accepted.{pattern_at}
use Rattle.plan.specs.Patterns.{Pattern}
use Rattle.fulltext.specs.Calculus.{at, In, True, open_formula, pattern_formula, plan_formula}
use Rattle.fulltext.specs.Positions.{limit}
use Rattle.fulltext.specs.Paragraphs.{para_start}
use Rattle.fulltext.specs.Matches.{holds, matches_at, matches_in, least_in}
use Rattle.fulltext.specs.Order.{precedes, matches_from}
use Rattle.fulltext.specs.Documents.{found, matching}

-- the tests and the calculus, over an accepted volume and plan; a pattern that is not there has no variables and no predicates
pub record Agrees (v p : List ℕ) : Type 0 where
  -- positions match a pattern exactly if there is one for each variable and the pattern's open formula is true of them
  pub tuples : (k d : ℕ) (ps : List ℕ)
      → (matches_at (lists_of v) d (pattern_at p k) ps ≡ true)
      ↔ ((length ps ≡ length (pattern_at p k).vars) × True (lists_of v) d (open_formula (pattern_at p k)) ps)
  -- a pattern is found exactly if its formula is true
  pub patterns : (k d : ℕ)
      → (found (lists_of v) d (pattern_at p k) ≡ true) ↔ True (lists_of v) d (pattern_formula (pattern_at p k)) []
  -- a document is true exactly if the plan's formula is true there
  pub documents : (d : ℕ) → (matching (lists_of v) (rows_of p) d ≡ true) ↔ True (lists_of v) d (plan_formula (rows_of p)) []

-- Demand 2, patterns and plans; the call that tests positions is in the crate `matcher`
unfoldable pub Demand2 : Type 0
Demand2 = (v p : List ℕ) → Accepted v p → Agrees v p

-- the start of the paragraph of any position p, among any starts
pub record ParaStarts (starts : List ℕ) (p : ℕ) : Type 0 where
  -- where p stands before every start it is 65,536
  pub none : ((s : ℕ) → In s starts → p < s) → para_start starts p ≡ limit
  -- else it is a start, it is not above p, and no start that is not above p is greater
  pub greatest : (s : ℕ) → In s starts → s ≤ p
      → In (para_start starts p) starts × ((para_start starts p ≤ p) × (s ≤ para_start starts p))
  -- where starts are positions, it is 65,536 in no other case
  pub other : ((s : ℕ) → In s starts → s < limit) → para_start starts p ≡ limit → (s : ℕ) → In s starts → p < s

unfoldable pub ParaStartIs : Type 0
ParaStartIs = (starts : List ℕ) (p : ℕ) → ParaStarts starts p

-- SAME TITLE of variables a and b, of any positions, in a document with any starts
pub record Sameparas (starts ps : List ℕ) (a b : ℕ) : Type 0 where
  -- it is false if either stands before every start
  pub before_first : ((s : ℕ) → In s starts → at ps a < s) → holds starts (Samepara a b) ps ≡ false
  pub before_second : ((s : ℕ) → In s starts → at ps b < s) → holds starts (Samepara a b) ps ≡ false
  -- in a document without starts it is false
  pub no_starts : holds [] (Samepara a b) ps ≡ false
  -- at one position, so also where a is b, it asks for a start that is not above it, and for nothing else
  pub one_position : at ps a ≡ at ps b → (holds starts (Samepara a b) ps ≡ true) ↔ ((s : ℕ) × In s starts × (s ≤ at ps a))
  -- where a start is not above either, it is document 01's sentence: no start s has smaller < s ≤ larger
  pub begun : (s : ℕ) → In s starts → s ≤ at ps a → s ≤ at ps b
      → (holds starts (Samepara a b) ps ≡ true)
      ↔ ((t : ℕ) → In t starts → min (at ps a) (at ps b) < t → t ≤ max (at ps a) (at ps b) → ⊥)
  -- where starts are positions, it is told by the two starts of a row: they are the same, and not 65,536
  pub by_starts : ((s : ℕ) → In s starts → s < limit)
      → (holds starts (Samepara a b) ps ≡ true)
      ↔ ((para_start starts (at ps a) ≢ limit) × (para_start starts (at ps a) ≡ para_start starts (at ps b)))
  -- whichever is named first; and where it holds of a and b and of b and c, it holds of a and c
  pub turned : holds starts (Samepara a b) ps ≡ holds starts (Samepara b a) ps
  pub onward : (c : ℕ)
      → holds starts (Samepara a b) ps ≡ true → holds starts (Samepara b c) ps ≡ true → holds starts (Samepara a c) ps ≡ true

unfoldable pub SameparaIs : Type 0
SameparaIs = (starts ps : List ℕ) (a b : ℕ) → Sameparas starts ps a b

-- APART of variables a and b, of any positions, in a document with any starts
pub record Proximities (starts ps : List ℕ) (a b : ℕ) : Type 0 where
  -- with nothing asked at either end it is BEFORE
  pub unlimited : holds starts (Proximity a b 0 no_upper_end) ps ≡ holds starts (Ordered a b) ps
  -- with no word between it is a phrase: b stands right behind a
  pub phrase : (holds starts (Proximity a b 0 0) ps ≡ true) ↔ (at ps b ≡ at ps a + 1)
  -- where it holds, BEFORE holds, and where there is an upper end NEAR with that limit
  pub before : (least most : ℕ) → holds starts (Proximity a b least most) ps ≡ true → holds starts (Ordered a b) ps ≡ true
  pub near : (least most : ℕ) → most ≢ no_upper_end
      → holds starts (Proximity a b least most) ps ≡ true → holds starts (Distance a b most) ps ≡ true
  -- it never holds both ways round, whatever the limits, and never of one variable
  pub one_way : (least most least' most' : ℕ)
      → holds starts (Proximity a b least most) ps ≡ true → holds starts (Proximity b a least' most') ps ≡ true → ⊥
  pub itself : (least most : ℕ) → holds starts (Proximity a a least most) ps ≡ false
  -- at positions of a document a most of 65,534 is no upper end either
  pub farthest : (least : ℕ) → at ps b ≤ 65535
      → holds starts (Proximity a b least 65534) ps ≡ holds starts (Proximity a b least no_upper_end) ps

unfoldable pub ProximityIs : Type 0
ProximityIs = (starts ps : List ℕ) (a b : ℕ) → Proximities starts ps a b

-- the order of tuples: none comes before itself, it carries on, and of two with as many positions one comes before the other, or they are
-- the same
pub record Ordering : Type 0 where
  pub irreflexive : (ps : List ℕ) → precedes ps ps ≡ false
  pub transitive : (ps qs rs : List ℕ) → precedes ps qs ≡ true → precedes qs rs ≡ true → precedes ps rs ≡ true
  pub total : (ps qs : List ℕ) → length ps ≡ length qs
      → (precedes ps qs ≡ true) ⊎ ((ps ≡ qs) ⊎ (precedes qs ps ≡ true))

unfoldable pub OrderIs : Type 0
OrderIs = Ordering

-- a tuple is one of several
abbrev pub AmongTuples : List ℕ → List (List ℕ) → Type 0
AmongTuples ps qs = (i : ℕ) × (i < length qs) × (get_or qs i [] ≡ ps)

-- the matches of a pattern in document d of an accepted volume, from a tuple on
pub record FromTuple (lists : List (List ℕ)) (d : ℕ) (f : Pattern) (from : List ℕ) : Type 0 where
  -- a tuple is among them exactly if it matches and does not come before the one that they start from
  pub among : (ps : List ℕ)
      → AmongTuples ps (matches_from lists d f from) ↔ ((matches_at lists d f ps ≡ true) × (precedes ps from ≡ false))
  -- each comes before those behind it, so each comes once
  pub ascend : (i j : ℕ) → i < j → j < length (matches_from lists d f from)
      → precedes (get_or (matches_from lists d f from) i []) (get_or (matches_from lists d f from) j []) ≡ true
  -- from one of them on they are the ones from its place on
  pub go_on : (m : ℕ) → m < length (matches_from lists d f from)
      → matches_from lists d f (get_or (matches_from lists d f from) m []) ≡ drop m (matches_from lists d f from)

-- from zeros on they are all matches, and the first, where there is one, is the least match, which a listing shows
pub record FromZeros (lists : List (List ℕ)) (d : ℕ) (f : Pattern) (n : ℕ) : Type 0 where
  pub all : matches_from lists d f (replicate n 0) ≡ matches_in lists d f
  pub earliest : first (matches_from lists d f (replicate n 0)) ≡ least_in lists d f

pub record Enumerable (lists : List (List ℕ)) (d : ℕ) (f : Pattern) : Type 0 where
  pub tuple : (from : List ℕ) → FromTuple lists d f from
  pub zeros : (n : ℕ) → FromZeros lists d f n

unfoldable pub MatchesFromIs : Type 0
MatchesFromIs = (v : List ℕ) → volume.Accepted v → (d : ℕ) (f : Pattern) → Enumerable (lists_of v) d f
