-- The statements that the crate is held to. `proofs/Demands.antt` proves each in a line. Assumes nothing.
--     Demand3       demand 3: every search by the C functions, whole
--     Enumerates    every enumeration by the C functions, whole
--     Typed         every search by a typed line, whole: what is listed is what is true of the line read on its own
--     DoubleBill    every search of two volumes joined, whole: the rows and tallies of both
use Rattle.std.specs.Prelude.{ℕ, ◌*◌, ◌-◌, ◌<◌, ◌≡◌, List, length, take}
use Rattle.seq.specs.Lists.{keep}
use Rattle.seq.specs.Numbers.{run}
use Rattle.block.specs.Bytes.{IsBytes}
use Rattle.volume.specs.Layout.{lists_of}
use Rattle.join.specs.Join.{join_answer, join_out}
use Rattle.plan.specs.Check.{verdict}
use Rattle.fulltext.specs.Documents.{docs_in, work}
use Rattle.fulltext.specs.Positions.{limit}
use Rattle.enumeration.specs.Demands.{EveryEnumeration}
use Rattle.search.specs.Demands.{Holds3}
use Rattle.grammar.specs.Grammar.{Line, written, Fits}
use Rattle.grammar.specs.Meaning.{line_true}
use Rattle.grammar.specs.Words.{words_of_line}
use Rattle.line.specs.Read.{read_answer}
use Rattle.lihambozy.specs.Flat.{flat_plan, flat_words, flat_join}
use Rattle.lihambozy.specs.Search.{structs}
use Rattle.lihambozy.specs.Enumeration as enumerations
use Rattle.lihambozy.specs.Evening.{Evening}

-- Demand 3: over every volume and plan that `lhz_check_plan` accepts, with refusal 0, all that the crate `search` states holds of the
-- structs
unfoldable pub Demand3 : Type 0
Demand3 = (v p : List ℕ) → (flat_plan (verdict v p)).refusal ≡ 0 → Holds3 structs v p

-- every enumeration: over every volume and plan that `lhz_check_plan` accepts, each pattern of it and each document, all that the crate
-- `enumeration` states holds of the structs
unfoldable pub Enumerates : Type 0
Enumerates = (v p : List ℕ) → (flat_plan (verdict v p)).refusal ≡ 0 → (k d : ℕ) → k < (flat_plan (verdict v p)).patterns → d < limit
    → EveryEnumeration enumerations.structs v p k d

-- what holds of a text and the words that it gives, over a volume
pub record TypedSearch (v s : List ℕ) : Type 0 where
  -- it is the text of a line of the grammar
  pub line : Line
  pub fits : Fits line
  pub text : written line ≡ s
  -- all of demand 3 holds of every search by its words
  pub searched : Holds3 structs v (words_of_line s)
  -- and the documents that such a search lists are those that are true of the line read on its own, without rows
  pub docs : (a b : ℕ) → docs_in (work v (words_of_line s)) a b ≡ keep (line_true (lists_of v) line) (run (λ d. d) a (b - a))

-- every text that `lhz_line_to_plan` answers, in some buffer, with refusal 0, and whose words `lhz_check_plan` accepts
unfoldable pub Typed : Type 0
Typed = (v s : List ℕ) (room : ℕ)
    → (flat_words (read_answer s room)).refusal ≡ 0
    → (flat_plan (verdict v (words_of_line s))).refusal ≡ 0
    → TypedSearch v s

-- every two volumes that `lhz_join_volumes` joins, in some buffer, with refusal 0, and every plan: the blocks written are both's evening
unfoldable pub DoubleBill : Type 0
DoubleBill = (h : ℕ) (v w out : List ℕ) → IsBytes v → IsBytes w
    → (flat_join (join_answer h v w (length out))).refusal ≡ 0
    → (p : List ℕ)
    → Evening h v w (take (512 * (flat_join (join_answer h v w (length out))).blocks) (join_out h v w out)) p
