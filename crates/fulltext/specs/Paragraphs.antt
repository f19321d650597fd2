-- Paragraphs (01: titles) of one document: the start of a position's paragraph, and two positions in one paragraph. Assumes nothing.
use Rattle.std.specs.Prelude.{ℕ, Bool, ◌&&◌, List, [], ◌∷◌, eqb, leb}
use Rattle.seq.specs.Lists.{keep, any}
use Rattle.fulltext.specs.Positions.{limit, largest}

-- the greatest of some numbers, or 65,536 where there is none
abbrev pub greatest : List ℕ → ℕ
greatest [] = limit
greatest (s ∷ ss) = largest (s ∷ ss)

-- the start of the paragraph of position p (02, N8: a place's title start): the greatest start not above it, or 65,536 where there is none
unfoldable pub para_start : List ℕ → ℕ → ℕ
unfolding keep
para_start starts p = greatest (keep (λ s. leb s p) starts)

-- a position has a start: some start is not above it
abbrev pub in_para : List ℕ → ℕ → Bool
in_para starts p = any (λ s. leb s p) starts

-- two positions stand in one paragraph: both have a start, and it is the same
unfoldable pub together : List ℕ → ℕ → ℕ → Bool
unfolding any para_start
together starts p q = (in_para starts p && in_para starts q) && eqb (para_start starts p) (para_start starts q)
