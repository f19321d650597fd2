-- The first start of a document, and the start that SAME TITLE needs. Assumes nothing.
use Rattle.std.specs.Prelude.{ℕ, cond, List, [], ◌∷◌, eqb}
use Rattle.fulltext.specs.Positions.{limit, smallest}
use Rattle.fulltext.specs.Paragraphs.{para_start}

-- the first start: the least, or 65,536 where there is none
unfoldable pub first_start : List ℕ → ℕ
first_start [] = limit
first_start (s ∷ ss) = smallest (s ∷ ss)

-- the start that a position needs at least to stand in one paragraph with a larger position p: that of the paragraph of p; where p stands
-- in none, the first start
unfoldable pub needed_start : List ℕ → ℕ → ℕ
unfolding para_start first_start
needed_start starts p = cond (eqb (para_start starts p) limit) (first_start starts) (para_start starts p)
