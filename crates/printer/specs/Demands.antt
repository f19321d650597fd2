-- The statements that the crate is held to, each a named type. `proofs/Demands.antt` proves each in a line. Assumes nothing.
--     WriteRefuses    demand 1 for writing a line
--     RoundTrips      a plan's line is in order, and gives the plan again
--     OneToOne        no two answers are told alike
-- That no line with a plan's rows has fewer brackets, and that none of its own could be dropped, is in `grammar/Demands.PlanLines`.
use Rattle.std.specs.Prelude.{ℕ, Result, ◌≤◌, ◌≡◌, List, ◌++◌, length, drop}
use Rattle.seq.specs.Refusals.{refused, answered, stage_in, FirstRefusal}
use Rattle.plan.specs.Check.{Accepted}
use Rattle.grammar.specs.Query.{plan_text}
use Rattle.line.specs.Read.{read_answer, read_out}
use Rattle.printer.specs.declared.answers.WriteError.{WriteError}
use Rattle.printer.specs.Answers.{said_written}
use Rattle.printer.specs.Refusals.{WriteApplies, write_stages}
use Rattle.printer.specs.Write.{write_answer, write_out}

-- writing a line: the first of 1 to 14 and 16 that applies, or the number of bytes exactly if none applies
pub record WriteCall (v p out : List ℕ) : Type 0 where
  pub first : FirstRefusal (stage_in write_stages) (WriteApplies v p (length out)) (length (plan_text p)) (write_answer v p (length out))
  pub kept : (n q : ℕ) → write_answer v p (length out) ≡ refused n q → write_out v p out ≡ out
  pub laid : (n : ℕ) → write_answer v p (length out) ≡ answered n → write_out v p out ≡ plan_text p ++ drop (length (plan_text p)) out

-- Demand 1, writing a line
unfoldable pub WriteRefuses : Type 0
WriteRefuses = (v p out : List ℕ) → WriteCall v p out

-- a plan there and back
pub record ThereAndBack (v p : List ℕ) : Type 0 where
  -- its line is written wherever it fits
  pub writes : (out : List ℕ) → length (plan_text p) ≤ length out → write_answer v p (length out) ≡ answered (length (plan_text p))
  -- that line is never refused by 21, 22 or 23, and gives the plan again wherever it fits
  pub in_order : (room n q : ℕ) → read_answer (plan_text p) room ≡ refused n q → n ≡ 16
  pub reads : (out : List ℕ) → length p ≤ length out → read_answer (plan_text p) (length out) ≡ answered (length p)
  pub gives : (out : List ℕ) → length p ≤ length out → read_out (plan_text p) out ≡ p ++ drop (length p) out

-- every accepted plan
unfoldable pub RoundTrips : Type 0
RoundTrips = (v p : List ℕ) → Accepted v p → ThereAndBack v p

-- no two answers have document 02's number and values in common
unfoldable pub OneToOne : Type 0
OneToOne = (a b : Result ℕ WriteError) → said_written a ≡ said_written b → a ≡ b
