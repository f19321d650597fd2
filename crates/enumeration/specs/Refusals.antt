-- Document 01's refusals of writing matches (02, N4) as a relation, one line for each number: refusal n applies at place q.
-- Assumes nothing.
use Rattle.std.specs.Prelude.{ℕ, ◌<◌, List, [], ◌∷◌, ◌++◌, length}
use Rattle.plan.specs.Accepted.{pattern_at}
use Rattle.matcher.specs.Refusals.{TestApplies, test_stages}

-- the refusals of writing the matches of pattern k in document d from a tuple on into a buffer of so many words: those of testing that
-- tuple, then 16
pub data MatchesApplies (v p : List ℕ) (k d : ℕ) (from : List ℕ) (room : ℕ) : ℕ → ℕ → Type 0 where
  -- 1 to 14, and 17: bad figure, scene or starting choice
  of_tuple : (n q : ℕ) → TestApplies v p k d from n q → MatchesApplies v p k d from room n q
  -- 16: buffer too small for one choice
  short : room < length (pattern_at p k).vars → MatchesApplies v p k d from room 16 0

-- the stages of the call
abbrev pub matches_stages : List (List ℕ)
matches_stages = test_stages ++ ((16 ∷ []) ∷ [])
