-- The full-text calculus of document 000 (3.2), with the proximity operator of document 004, as data, with its truth in a document, and
-- the formula of a pattern and of a plan.
-- Where 000 gives a position one token, here two lists may hold one position. ∃ ranges over all numbers: `has_pos` stands inside it and
-- says that the number is a position of the document. Left out of 000: ∀, which is ¬ ∃ ¬, and SearchContext, since a formula here is about
-- one document. Assumes nothing.
use Rattle.std.specs.Prelude.{ℕ, zero, suc, ◌+◌, ◌-◌, ◌<◌, ◌≤◌, ◌≡◌, ◌⊎◌, List, [], ◌∷◌, ◌++◌, length, get_or, take, drop}
use Rattle.volume.specs.Posting.{posting_of}
use Rattle.plan.specs.declared.row.Predicate.{Predicate}
use Rattle.plan.specs.declared.row.Predicate.TheVariants as predicate
use Rattle.plan.specs.declared.row.Operator.{Operator}
use Rattle.plan.specs.declared.row.Operator.TheVariants.{Both, Either, FirstNotSecond, AtLeast}
use Rattle.plan.specs.declared.row.Kind.{Kind}
use Rattle.plan.specs.declared.row.Kind.TheVariants as kind
use Rattle.plan.specs.declared.row.Row.{Row}
use Rattle.plan.specs.Limits.{no_upper_end}
use Rattle.plan.specs.Patterns.{Pattern, no_row, open_after}
use Rattle.fulltext.specs.Positions.{limit, list_of}
pub use Rattle.seq.specs.Lists.{at}

-- A formula about one document. Position variables are numbered from 0, and each ∃ binds the next one.
pub data Formula : Type 0 where
  -- variable x stands at a position of the document
  has_pos : ℕ → Formula
  -- the token at variable x is list l
  has_as_token : ℕ → ℕ → Formula
  -- at most c positions lie between variables x and y
  distance : ℕ → ℕ → ℕ → Formula
  -- variable x stands before variable y
  ordered : ℕ → ℕ → Formula
  -- variables x and y stand in one paragraph (01: title)
  samepara : ℕ → ℕ → Formula
  -- the first n variables stand within c positions
  window : ℕ → ℕ → Formula
  -- variable x stands before variable y, and the number of positions between them is in the interval from least to most
  proximity : ℕ → ℕ → ℕ → ℕ → Formula
  -- the ∧ of nothing
  truth : Formula
  -- f ∧ g, f ∨ g, ¬ f, ∃ f
  conj : Formula → Formula → Formula
  disj : Formula → Formula → Formula
  neg : Formula → Formula
  exists : Formula → Formula

-- x is an element of a list
abbrev pub In : ℕ → List ℕ → Type 0
In x l = (i : ℕ) × (i < length l) × (get_or l i 0 ≡ x)

-- the list holds position p of document d
abbrev pub Holds : ℕ → ℕ → List ℕ → Type 0
Holds d p l = (p < limit) × In (posting_of d p).bits l

-- p is a position of document d: some list but list 0 holds it
abbrev pub HasPos : List (List ℕ) → ℕ → ℕ → Type 0
HasPos lists d p = (l : ℕ) × (1 ≤ l) × (l < length lists) × Holds d p (list_of lists l)

-- a paragraph starts at position s of document d
abbrev pub Starts : List (List ℕ) → ℕ → ℕ → Type 0
Starts lists d s = Holds d s (list_of lists 0)

-- a position stands in a paragraph: one starts at it or in front of it. Before the document's first start there is none (02, N3)
abbrev pub InPara : List (List ℕ) → ℕ → ℕ → Type 0
InPara lists d p = (s : ℕ) × Starts lists d s × (s ≤ p)

-- no start s lies between two positions: p < s ≤ q
abbrev pub NoStart : List (List ℕ) → ℕ → ℕ → ℕ → Type 0
NoStart lists d p q = (s : ℕ) → Starts lists d s → p < s → s ≤ q → ⊥

-- two positions stand in one paragraph: each stands in a paragraph, and no start parts them, whichever is the smaller
abbrev pub OnePara : List (List ℕ) → ℕ → ℕ → ℕ → Type 0
OnePara lists d p q = (InPara lists d p × InPara lists d q) × (NoStart lists d p q × NoStart lists d q p)

-- n is in the interval from least to most; a most of 65,535 sets no upper end, as ∞ does in document 004
abbrev pub Within : ℕ → ℕ → ℕ → Type 0
Within least most n = (least ≤ n) × ((most ≡ no_upper_end) ⊎ (n ≤ most))

-- document 004, Definition 3, case 2: a text s satisfies a proximity word pattern exactly if there exist p_1, .., p_n ∈ {1, .., |s|} such
-- that, for all j = 2, .., n, s(p_j) = w_j and p_j − p_(j−1) − 1 ∈ i_(j−1). This is the difference of two neighbours, at p and q: n is
-- q − p − 1. It has its sign: there is such an n only where p stands before q
abbrev pub Proximal : ℕ → ℕ → ℕ → ℕ → Type 0
Proximal least most p q = (n : ℕ) × (q ≡ p + 1 + n) × Within least most n

-- A formula is true in document d of a volume's lists, with the variables bound so far at these positions
abbrev pub True : List (List ℕ) → ℕ → Formula → List ℕ → Type 0
True lists d (has_pos x) ps = HasPos lists d (at ps x)
True lists d (has_as_token x l) ps = Holds d (at ps x) (list_of lists l)
True lists d (distance x y c) ps = (at ps x ≤ at ps y + (c + 1)) × (at ps y ≤ at ps x + (c + 1))
True lists d (ordered x y) ps = at ps x < at ps y
True lists d (samepara x y) ps = OnePara lists d (at ps x) (at ps y)
True lists d (window n c) ps = (x y : ℕ) → x < n → y < n → at ps x ≤ at ps y + (c - 1)
True lists d (proximity x y least most) ps = Proximal least most (at ps x) (at ps y)
True lists d truth ps = Unit
True lists d (conj f g) ps = True lists d f ps × True lists d g ps
True lists d (disj f g) ps = True lists d f ps ⊎ True lists d g ps
True lists d (neg f) ps = True lists d f ps → ⊥
True lists d (exists f) ps = (p : ℕ) × True lists d f (ps ++ (p ∷ []))

-- each of several formulas
abbrev pub each : List Formula → Formula
each [] = truth
each (f ∷ fs) = conj f (each fs)

-- the variables from x on stand at positions of their lists
abbrev pub tokens : ℕ → List ℕ → List Formula
tokens x [] = []
tokens x (l ∷ vars) = conj (has_pos x) (has_as_token x l) ∷ tokens (suc x) vars

-- a predicate of a pattern of n variables
abbrev pub predicate_of : ℕ → Predicate → Formula
predicate_of n (predicate.Distance a b c) = distance a b c
predicate_of n (predicate.Ordered a b) = ordered a b
predicate_of n (predicate.Samepara a b) = samepara a b
predicate_of n (predicate.Window c) = window n c
predicate_of n (predicate.Proximity a b least most) = proximity a b least most

abbrev pub predicates_of : ℕ → List Predicate → List Formula
predicates_of n [] = []
predicates_of n (c ∷ cs) = predicate_of n c ∷ predicates_of n cs

-- the formula of a pattern, its variables open
abbrev pub open_formula : Pattern → Formula
open_formula f = conj (each (tokens 0 f.vars)) (each (predicates_of (length f.vars) f.predicates))

-- n variables bound
abbrev pub bound : ℕ → Formula → Formula
bound zero f = f
bound (suc n) f = exists (bound n f)

-- the formula of a pattern: there are positions for its variables
abbrev pub pattern_formula : Pattern → Formula
pattern_formula f = bound (length f.vars) (open_formula f)

-- the top two formulas, the upper being the second, become one
abbrev pub join_two : (Formula → Formula → Formula) → List Formula → List Formula
join_two op [] = []
join_two op (second ∷ []) = []
join_two op (second ∷ (first ∷ rest)) = op first second ∷ rest

-- n or more of several formulas (02, N9), by the connectives above alone: none is asked for; or there is a first one, and it is true with
-- one fewer of the others, or as many of the others are
abbrev pub at_least : ℕ → List Formula → Formula
at_least zero fs = truth
at_least (suc n) [] = neg truth
at_least (suc n) (f ∷ fs) = disj (conj f (at_least n fs)) (at_least (suc n) fs)

abbrev pub join : Operator → List Formula → List Formula
join Both fs = join_two (λ first second. conj first second) fs
join Either fs = join_two (λ first second. disj first second) fs
join FirstNotSecond fs = join_two (λ first second. conj first (neg second)) fs
join (AtLeast least of) fs = at_least least (take of fs) ∷ drop of fs

-- the formulas behind a row, where f is open in front of it
abbrev pub formulas_after : Pattern → List Formula → Kind → List Formula
formulas_after f fs (kind.Voice list) = fs
formulas_after f fs (kind.Condition c) = fs
formulas_after f fs kind.End = pattern_formula f ∷ fs
formulas_after f fs (kind.Operator o) = join o fs

-- the formulas behind several rows
unfoldable pub formulas_from : Pattern → List Formula → List Row → List Formula
formulas_from f fs [] = fs
formulas_from f fs (r ∷ rows) = formulas_from (open_after f r.kind) (formulas_after f fs r.kind) rows

-- the formula of a plan: the one left at the end
unfoldable pub plan_formula : List Row → Formula
plan_formula rows = get_or (formulas_from no_row [] rows) 0 truth
