-- A pattern in one document: its predicates as tests, the tuples of positions that match, and the least of them.
-- Assumes nothing.
use Rattle.std.specs.Prelude.{ℕ, ◌+◌, ◌-◌, ◌≤◌, ◌≡◌, Bool, true, false, ◌&&◌, ◌||◌, List, [], ◌∷◌, ◌++◌, map, eqb, leb, ltb}
use Rattle.std.proofs.Math.Option.{Option}
use Rattle.seq.specs.Lists.{keep, all, elem, first}
use Rattle.plan.specs.declared.row.Predicate.{Predicate}
use Rattle.plan.specs.declared.row.Predicate.TheVariants.{Distance, Ordered, Samepara, Window, Proximity}
use Rattle.plan.specs.Limits.{no_upper_end}
use Rattle.plan.specs.Patterns.{Pattern}
use Rattle.fulltext.specs.Positions.{list_of, positions_in, largest, smallest}
use Rattle.fulltext.specs.Calculus.{at}
use Rattle.fulltext.specs.Paragraphs.{together}

-- by how much two positions differ
abbrev pub difference : ℕ → ℕ → ℕ
difference p q = (p - q) + (q - p)

-- a number is between least and most, both counted in; a most of 65,535 sets no upper end
abbrev pub within : ℕ → ℕ → ℕ → Bool
within least most n = leb least n && (eqb most no_upper_end || leb n most)

-- a predicate (01: condition) holds of the variables' positions, in a document with these starts
unfoldable pub holds : List ℕ → Predicate → List ℕ → Bool
unfolding together
holds starts (Distance a b c) ps = leb (difference (at ps a) (at ps b)) (c + 1)
holds starts (Ordered a b) ps = ltb (at ps a) (at ps b)
holds starts (Samepara a b) ps = together starts (at ps a) (at ps b)
holds starts (Window c) ps = leb (largest ps - smallest ps) (c - 1)
holds starts (Proximity a b least most) ps = ltb (at ps a) (at ps b) && within least most (at ps b - at ps a - 1)

abbrev pub all_hold : List ℕ → List Predicate → List ℕ → Bool
all_hold starts cs ps = all (λ c. holds starts c ps) cs

-- each variable's position is among those of its list: vs has the positions of each variable
unfoldable pub fits : List (List ℕ) → List ℕ → Bool
unfolding elem
fits [] [] = true
fits [] (p ∷ ps) = false
fits (l ∷ vs) [] = false
fits (l ∷ vs) (p ∷ ps) = elem p l && fits vs ps

-- a tuple of positions (01: a choice of places) matches (01: passes)
abbrev pub is_match : List ℕ → List (List ℕ) → List Predicate → List ℕ → Bool
is_match starts vs cs ps = fits vs ps && all_hold starts cs ps

-- each of these positions in front of each of these tuples
unfoldable pub with_each : List ℕ → List (List ℕ) → List (List ℕ)
with_each [] rest = []
with_each (p ∷ ps) rest = map (λ r. p ∷ r) rest ++ with_each ps rest

-- every tuple with a position for each variable, smaller first variable first, then second, and so on
unfoldable pub tuples : List (List ℕ) → List (List ℕ)
unfolding with_each
tuples [] = [] ∷ []
tuples (l ∷ vs) = with_each l (tuples vs)

-- the tuples that match, in that order
unfoldable pub matches : List ℕ → List (List ℕ) → List Predicate → List (List ℕ)
unfolding keep all holds tuples
matches starts vs cs = keep (λ ps. all_hold starts cs ps) (tuples vs)

-- the starts of document d, and the positions there of a pattern's variables
abbrev pub starts_in : List (List ℕ) → ℕ → List ℕ
starts_in lists d = positions_in d (list_of lists 0)

abbrev pub vars_in : List (List ℕ) → ℕ → List ℕ → List (List ℕ)
vars_in lists d vars = map (λ l. positions_in d (list_of lists l)) vars

-- a tuple matches a pattern in document d
abbrev pub matches_at : List (List ℕ) → ℕ → Pattern → List ℕ → Bool
matches_at lists d f ps = is_match (starts_in lists d) (vars_in lists d f.vars) f.predicates ps

-- every match of a pattern in document d, in that order
unfoldable pub matches_in : List (List ℕ) → ℕ → Pattern → List (List ℕ)
unfolding positions_in matches
matches_in lists d f = matches (starts_in lists d) (vars_in lists d f.vars) f.predicates

-- the least match (01: earliest places) of a pattern in document d
unfoldable pub least_in : List (List ℕ) → ℕ → Pattern → Option (List ℕ)
unfolding matches_in
least_in lists d f = first (matches_in lists d f)

-- each variable of ps at most as far as in qs
infix 40 ◌⊑◌
abbrev pub ◌⊑◌ : List ℕ → List ℕ → Type 0
ps ⊑ qs = (x : ℕ) → at ps x ≤ at qs x

-- ps is the least match: it matches, and every match has in each variable a position at least as large
pub record Least (lists : List (List ℕ)) (d : ℕ) (f : Pattern) (ps : List ℕ) : Type 0 where
  pub matching : matches_at lists d f ps ≡ true
  pub least : (qs : List ℕ) → matches_at lists d f qs ≡ true → ps ⊑ qs
