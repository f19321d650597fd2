-- Text as bytes (ASCII): lines of words with one space between them. Assumes nothing.
use Rattle.std.specs.Prelude.{ℕ, List, [], ◌∷◌, ◌++◌, map}
use Rattle.seq.specs.Lists.{joined}
use Rattle.seq.specs.Decimal.{decimal}

abbrev pub space : ℕ
space = 32

abbrev pub newline : ℕ
newline = 10

-- a number and the space in front of it
unfoldable pub spaced : ℕ → List ℕ
unfolding decimal
spaced n = space ∷ decimal n

-- a line: a word and then numbers, with one space between
unfoldable pub line : List ℕ → List ℕ → List ℕ
unfolding joined spaced
line word ns = word ++ joined (map spaced ns) ++ (newline ∷ [])

-- `scene`, `done`, `refused`, and the line `file too long`
abbrev pub scene_word : List ℕ
scene_word = 115 ∷ 99 ∷ 101 ∷ 110 ∷ 101 ∷ []

abbrev pub done_word : List ℕ
done_word = 100 ∷ 111 ∷ 110 ∷ 101 ∷ []

abbrev pub refused_word : List ℕ
refused_word = 114 ∷ 101 ∷ 102 ∷ 117 ∷ 115 ∷ 101 ∷ 100 ∷ []

abbrev pub too_long : List ℕ
too_long = 102 ∷ 105 ∷ 108 ∷ 101 ∷ 32 ∷ 116 ∷ 111 ∷ 111 ∷ 32 ∷ 108 ∷ 111 ∷ 110 ∷ 103 ∷ 10 ∷ []
