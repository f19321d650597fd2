-- The refusals of reading a line as relations, which know no reader: one line for each number. Assumes nothing.
--     Breaks, Deep     a text breaks the grammar at a byte; a bracket there is too deep
--     ReadApplies      a refusal applies
--     read_stages      the order in which they are told
use Rattle.std.specs.Prelude.{ℕ, ◌+◌, ◌*◌, ◌<◌, ◌≤◌, ◌≡◌, ◌⊎◌, List, [], ◌∷◌, length, get_or, take}
use Rattle.grammar.specs.Grammar.{Line, Fits, written, LineText, Begins}
use Rattle.grammar.specs.Brackets.{opens, closes}
use Rattle.grammar.specs.Meaning.{line_rows}

-- the text is no line, and e is the length of its longest beginning with which some line of the grammar begins
pub record Breaks (s : List ℕ) (e : ℕ) : Type 0 where
  pub inside : e ≤ length s
  pub begins : Begins (take e s)
  pub ends : e < length s → Begins (take (e + 1) s) → ⊥
  pub no_line : LineText s → ⊥

-- at byte e a round bracket or a `<` is opened inside eight of both that are open
pub record Deep (s : List ℕ) (e : ℕ) : Type 0 where
  pub inside : e < length s
  pub bracket : (get_or s e 0 ≡ 40) ⊎ (get_or s e 0 ≡ 60)
  pub eight : closes (take e s) + 8 ≤ opens (take e s)

-- reading a line
pub data ReadApplies (s : List ℕ) (room : ℕ) : ℕ → ℕ → Type 0 where
  -- 21 at byte 2,048: over 2,048 bytes, before anything else
  too_long : 2048 < length s → ReadApplies s room 21 2048
  -- 21: the line breaks the grammar; place: the first byte that no line could have there, or the end
  breaks : (e : ℕ) → length s ≤ 2048 → Breaks s e → ReadApplies s room 21 e
  -- 22: a round bracket or a `<` is opened inside eight open ones; place: its byte
  too_deep : (e : ℕ) → length s ≤ 2048 → Deep s e → ReadApplies s room 22 e
  -- 23: over 64 rows
  too_many : (l : Line) → Fits l → written l ≡ s → 64 < length (line_rows l) → ReadApplies s room 23 0
  -- 16: the buffer is too short for the rows
  short : (l : Line) → Fits l → written l ≡ s → room < 4 * length (line_rows l) → ReadApplies s room 16 0

-- 21 and 22 share a stage: by byte, 21 where both name one byte
abbrev pub read_stages : List (List ℕ)
read_stages = (21 ∷ 22 ∷ []) ∷ (23 ∷ []) ∷ (16 ∷ []) ∷ []
