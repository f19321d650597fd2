-- The round brackets of a line, and its `<` and `>`. Assumes nothing.
--     depth              how deep both lie in one another
--     rounds             how many pairs of round brackets there are
--     opens, closes      how many of both a text opens, and how many it closes
--     parens             how many round brackets it opens
--     Dropped, Spare     a text without one pair of round brackets; a pair that could be dropped
use Rattle.std.specs.Prelude.{ℕ, zero, suc, ◌+◌, max, ◌≡◌, ◌||◌, List, ◌∷◌, ◌++◌, eqb, length}
use Rattle.seq.specs.Lists.{keep}
use Rattle.grammar.specs.Grammar.{Line, one, either, Part, alone, join, Item, figure, round, at_least, Lines, nil, snoc, written, Fits}
use Rattle.grammar.specs.Meaning.{line_rows}

-- how deep they lie, round ones and `<` alike
unfoldable mutual
  pub depth : Line → ℕ
  depth (one p) = part_depth p
  depth (either l p) = max (depth l) (part_depth p)

  pub part_depth : Part → ℕ
  part_depth (alone i) = item_depth i
  part_depth (join j p i) = max (part_depth p) (item_depth i)

  pub item_depth : Item → ℕ
  item_depth (figure f) = 0
  item_depth (round l) = suc (depth l)
  item_depth (at_least n ls) = suc (lines_depth ls)

  pub lines_depth : Lines → ℕ
  lines_depth nil = zero
  lines_depth (snoc ls l) = max (lines_depth ls) (depth l)

-- how many pairs of round brackets there are
unfoldable mutual
  pub rounds : Line → ℕ
  rounds (one p) = part_rounds p
  rounds (either l p) = rounds l + part_rounds p

  pub part_rounds : Part → ℕ
  part_rounds (alone i) = item_rounds i
  part_rounds (join j p i) = part_rounds p + item_rounds i

  pub item_rounds : Item → ℕ
  item_rounds (figure f) = 0
  item_rounds (round l) = suc (rounds l)
  item_rounds (at_least n ls) = lines_rounds ls

  pub lines_rounds : Lines → ℕ
  lines_rounds nil = zero
  lines_rounds (snoc ls l) = lines_rounds ls + rounds l

-- how many a text opens, `(` and `<`
abbrev pub opens : List ℕ → ℕ
opens s = length (keep (λ b. eqb b 40 || eqb b 60) s)

-- how many it closes, `)` and `>`
abbrev pub closes : List ℕ → ℕ
closes s = length (keep (λ b. eqb b 41 || eqb b 62) s)

-- how many round brackets it opens
abbrev pub parens : List ℕ → ℕ
parens s = length (keep (λ b. eqb b 40) s)

-- t is s without one pair of round brackets
pub record Dropped (s t : List ℕ) : Type 0 where
  pub front : List ℕ
  pub between : List ℕ
  pub rest : List ℕ
  pub with_pair : s ≡ front ++ (40 ∷ (between ++ (41 ∷ rest)))
  pub without : t ≡ front ++ (between ++ rest)

-- a pair of round brackets of a line could be dropped: the text t without it is a line with the same rows
pub record Spare (l : Line) (t : List ℕ) : Type 0 where
  pub dropped : Dropped (written l) t
  pub line : Line
  pub fits : Fits line
  pub text : written line ≡ t
  pub rows : line_rows line ≡ line_rows l
