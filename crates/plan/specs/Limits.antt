-- The limits of a plan (01; 02, N2 and N9), and the words of a row of a listing, each in one place. `src/limits.rt` has the numbers that
-- the code uses. Assumes nothing.
use Rattle.std.specs.Prelude.{ℕ, ◌+◌, ◌*◌}

-- the last kind of a row; the first is 1
abbrev pub last_kind : ℕ
last_kind = 11

-- what the least of an APART row is multiplied by in its c (02, N2): c is least × 65,536 + most
abbrev pub least_unit : ℕ
least_unit = 65536

-- the most of an APART row that sets no upper end
abbrev pub no_upper_end : ℕ
no_upper_end = 65535

-- the least and the most answers that AT LEAST takes (02, N9)
abbrev pub least_taken : ℕ
least_taken = 2

abbrev pub most_taken : ℕ
most_taken = 8

-- the most rows of a plan, and its words
abbrev pub most_rows : ℕ
most_rows = 64

abbrev pub most_words : ℕ
most_words = 4 * most_rows

-- the most patterns (01: figures) of a plan
abbrev pub most_patterns : ℕ
most_patterns = 8

-- the most variables (01: voices) of a pattern
abbrev pub most_pattern_vars : ℕ
most_pattern_vars = 8

-- the most variables of an accepted plan: 7 patterns have 7 ENDs and an AT LEAST makes one answer of them, which leaves 56 of 64 rows, and
-- 7 patterns have no more
abbrev pub most_vars : ℕ
most_vars = 56

-- the words of a row of a listing: the document, a flag for each pattern, a position and a start for each variable (02, N8)
abbrev pub row_words : ℕ → ℕ → ℕ
row_words patterns vars = 1 + patterns + 2 * vars

-- the most of them: those of 7 patterns with 56 variables
abbrev pub most_row_words : ℕ
most_row_words = 120
