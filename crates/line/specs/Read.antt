-- Reading a line as the rows of a plan. Assumes nothing.
--     size_of_line     how many words there are
--     read_answer      the answer
--     read_out         the lent words afterwards
use Rattle.std.specs.Prelude.{ℕ, ◌*◌, cond, List, length, ltb}
use Rattle.seq.specs.Refusals.{Said, refused, answered, laid}
use Rattle.grammar.specs.Meaning.{line_rows}
use Rattle.grammar.specs.Reading.{Outcome, whole, broken, deep, reading, outcome}
use Rattle.grammar.specs.Words.{words_of_line}

-- how many words there are, by how the reading ends
abbrev pub size_by : Outcome → ℕ
size_by (whole l) = 4 * length (line_rows l)
size_by (broken q) = 0
size_by (deep q) = 0

-- how many words there are
unfoldable pub size_of_line : List ℕ → ℕ
unfolding outcome
size_of_line s = size_by (reading s)

-- 21 and 22 by byte; 23: over 64 rows; 16: the buffer is too short; or the number of words
abbrev pub read_by : Outcome → ℕ → Said ℕ
read_by (broken q) room = refused 21 q
read_by (deep q) room = refused 22 q
read_by (whole l) room =
    cond (ltb 64 (length (line_rows l))) (refused 23 0)
    (cond (ltb room (4 * length (line_rows l))) (refused 16 0) (answered (4 * length (line_rows l))))

-- 21 at byte 2,048 where the line is longer
unfoldable pub read_answer : List ℕ → ℕ → Said ℕ
unfolding outcome
read_answer s room = cond (ltb 2048 (length s)) (refused 21 2048) (read_by (reading s) room)

-- the buffer afterwards
unfoldable pub read_out : List ℕ → List ℕ → List ℕ
unfolding read_answer words_of_line
read_out s out = laid (read_answer s (length out)) (words_of_line s) out
