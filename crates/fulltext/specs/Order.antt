-- The order of tuples, and the matches of a pattern from a tuple on (02, N4). Assumes nothing.
use Rattle.std.specs.Prelude.{ℕ, Bool, false, not, ◌&&◌, ◌||◌, List, [], ◌∷◌, eqb, ltb}
use Rattle.seq.specs.Lists.{keep}
use Rattle.plan.specs.Patterns.{Pattern}
use Rattle.fulltext.specs.Matches.{matches_in}

-- one tuple comes before another: smaller first variable first, then second, and so on
unfoldable pub precedes : List ℕ → List ℕ → Bool
precedes [] qs = false
precedes (p ∷ ps) [] = false
precedes (p ∷ ps) (q ∷ qs) = ltb p q || (eqb p q && precedes ps qs)

-- of some tuples those that come before one, and those that do not
unfoldable pub before : List ℕ → List (List ℕ) → List (List ℕ)
unfolding keep precedes
before to qs = keep (λ ps. precedes ps to) qs

unfoldable pub not_before : List ℕ → List (List ℕ) → List (List ℕ)
unfolding keep precedes
not_before from qs = keep (λ ps. not (precedes ps from)) qs

-- every match of a pattern in document d from a tuple on, the tuple itself counted in, in that order. The tuple need not match
unfoldable pub matches_from : List (List ℕ) → ℕ → Pattern → List ℕ → List (List ℕ)
unfolding not_before matches_in
matches_from lists d f from = not_before from (matches_in lists d f)
