-- The statements that the crate is held to, each a named type. `proofs/Demands.antt` proves each in a line. Assumes nothing.
--     ReadRefuses    demand 1 for reading a line
--     Reads          what an answer says: the one line with that text, its rows, their truth
--     OneToOne       no two answers are told alike
-- What a line is and says is in `grammar/Demands`.
use Rattle.std.specs.Prelude.{ℕ, ◌≤◌, ◌≡◌, ◌↔◌, List, ◌++◌, length, drop, Result}
use Rattle.seq.specs.Refusals.{refused, answered, stage_in, FirstRefusal}
use Rattle.volume.specs.Layout.{lists_of}
use Rattle.plan.specs.Rows.{rows_of, plan_of}
use Rattle.fulltext.specs.Documents.{work}
use Rattle.grammar.specs.Grammar.{Line, written, Fits}
use Rattle.grammar.specs.Brackets.{Spare}
use Rattle.grammar.specs.Meaning.{line_rows, line_true}
use Rattle.grammar.specs.Query.{plan_text}
use Rattle.grammar.specs.Words.{words_of_line}
use Rattle.line.specs.declared.answers.ReadError.{ReadError}
use Rattle.line.specs.Answers.{said_read}
use Rattle.line.specs.Refusals.{ReadApplies, read_stages}
use Rattle.line.specs.Read.{size_of_line, read_answer, read_out}

-- reading a line: 21 at 2,048, then the first of 21 and 22 by byte, then 23, 16, or the number of words exactly if none applies
-- a refusal leaves the buffer as it was; an answer leaves the words at its front and the rest as it was
pub record ReadCall (s out : List ℕ) : Type 0 where
  pub first : FirstRefusal (stage_in read_stages) (ReadApplies s (length out)) (size_of_line s) (read_answer s (length out))
  pub kept : (n q : ℕ) → read_answer s (length out) ≡ refused n q → read_out s out ≡ out
  pub laid : (n : ℕ) → read_answer s (length out) ≡ answered n → read_out s out ≡ words_of_line s ++ drop (length (words_of_line s)) out

-- Demand 1, reading a line
unfoldable pub ReadRefuses : Type 0
ReadRefuses = (s out : List ℕ) → ReadCall s out

-- what an answer of n words says of a text
pub record Answered (s : List ℕ) (n : ℕ) : Type 0 where
  -- it is the text of a line of the grammar
  pub line : Line
  pub fits : Fits line
  pub text : written line ≡ s
  -- the words are those of the line's rows, at most 256
  pub words : words_of_line s ≡ plan_of (line_rows line)
  pub count : n ≡ length (words_of_line s)
  pub few : n ≤ 256
  -- they are read as these rows, and over any volume their true documents are those of the line read on its own
  pub rows : rows_of (words_of_line s) ≡ line_rows line
  pub truth : (v : List ℕ) (d : ℕ) → (work v (words_of_line s)).is_true d ≡ line_true (lists_of v) line d
  -- the line of these rows is the text as it was typed exactly if no pair of its round brackets could be dropped
  pub back : (plan_text (words_of_line s) ≡ s) ↔ ((t : List ℕ) → Spare line t → ⊥)

-- every answer says so
unfoldable pub Reads : Type 0
Reads = (s : List ℕ) (room n : ℕ) → read_answer s room ≡ answered n → Answered s n

-- no two answers have document 02's number and values in common
unfoldable pub OneToOne : Type 0
OneToOne = (a b : Result ℕ ReadError) → said_read a ≡ said_read b → a ≡ b
