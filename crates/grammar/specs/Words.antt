-- The words of the rows that a text says. Assumes nothing.
--     words_of_line      the words, none where the text is no line
use Rattle.std.specs.Prelude.{ℕ, List, []}
use Rattle.plan.specs.Rows.{plan_of}
use Rattle.grammar.specs.Meaning.{line_rows}
use Rattle.grammar.specs.Reading.{Outcome, whole, broken, deep, outcome, reading}

-- by how its reading ends
abbrev pub words_by : Outcome → List ℕ
words_by (whole l) = plan_of (line_rows l)
words_by (broken q) = []
words_by (deep q) = []

-- by its reading
unfoldable pub words_of_line : List ℕ → List ℕ
unfolding outcome
words_of_line s = words_by (reading s)
