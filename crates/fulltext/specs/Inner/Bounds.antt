-- Matches that stand at bounds or behind, and how far a predicate asks a variable to go. Assumes nothing.
use Rattle.std.specs.Prelude.{ℕ, ◌<◌, ◌≤◌, ◌≡◌, Bool, true, false, ◌&&◌, List, [], ◌∷◌, length, eqb, leb}
use Rattle.std.proofs.Math.Option.{Option, some}
use Rattle.seq.specs.Lists.{keep, first}
use Rattle.plan.specs.declared.row.Predicate.{Predicate}
use Rattle.plan.specs.Patterns.{Pattern}
use Rattle.fulltext.specs.Calculus.{at}
use Rattle.fulltext.specs.Matches.{holds, matches_at, matches_in, ◌⊑◌}

-- each variable of ps at most as far as in qs, as a test
unfoldable pub reaches : List ℕ → List ℕ → Bool
reaches [] qs = true
reaches (p ∷ ps) [] = eqb p 0 && reaches ps []
reaches (p ∷ ps) (q ∷ qs) = leb p q && reaches ps qs

-- a match that stands in each variable at bs or behind, and the least such match
abbrev pub MatchFrom : List (List ℕ) → ℕ → Pattern → List ℕ → List ℕ → Type 0
MatchFrom lists d f bs qs = (matches_at lists d f qs ≡ true) × (bs ⊑ qs)

unfoldable pub least_from : List (List ℕ) → ℕ → Pattern → List ℕ → Option (List ℕ)
unfolding keep reaches matches_in
least_from lists d f bs = first (keep (reaches bs) (matches_in lists d f))

-- ps is the least match from ls on, and its first `held` variables are at ls; or no match from ls on has them there
pub record HeldMatch (lists : List (List ℕ)) (d : ℕ) (f : Pattern) (ls : List ℕ) (held : ℕ) (r : Bool) (ps : List ℕ) : Type 0 where
  pub least : r ≡ true → least_from lists d f ls ≡ some ps
  pub same : r ≡ true → (x : ℕ) → x < held → at ps x ≡ at ls x
  pub missed : r ≡ false → (qs : List ℕ) → MatchFrom lists d f ls qs → ((x : ℕ) → x < held → at qs x ≡ at ls x) → ⊥

-- variable x needs at least b: wherever the predicate holds and each variable is at least as far as in ps, x is at b or behind
abbrev pub Needs : List ℕ → Predicate → List ℕ → ℕ → ℕ → Type 0
Needs starts c ps x b = (qs : List ℕ) → length qs ≡ length ps → ps ⊑ qs → holds starts c qs ≡ true → b ≤ at qs x
