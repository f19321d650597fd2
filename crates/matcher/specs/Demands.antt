-- The statements that the crate is held to. `proofs/Demands.antt` proves each in a line. Assumes nothing.
--     TestRefuses    demand 1 for testing positions
--     Demand2        demand 2 for testing positions: the call says yes exactly if the calculus does
--     OneToOne       no two answers are told alike
use Rattle.std.specs.Prelude.{ℕ, ◌<◌, ◌≡◌, Bool, true, ◌↔◌, List, length, Result}
use Rattle.seq.specs.Refusals.{answered, stage_in, FirstRefusal}
use Rattle.volume.specs.Layout.{lists_of}
use Rattle.plan.specs.Check.{sizes, Accepted}
use Rattle.plan.specs.Accepted.{pattern_at}
use Rattle.fulltext.specs.Positions.{limit}
use Rattle.fulltext.specs.Calculus.{True, open_formula}
use Rattle.fulltext.specs.Matches.{matches_at}
use Rattle.matcher.specs.declared.answers.TestError.{TestError}
use Rattle.matcher.specs.Answers.{said_tested}
use Rattle.matcher.specs.Testing.{test_answer}
use Rattle.matcher.specs.Refusals.{TestApplies, test_stages}

-- Demand 1, testing: the first of 1 to 14, 17 that applies, or whether the positions match exactly if none applies
unfoldable pub TestRefuses : Type 0
TestRefuses = (v p : List ℕ) (k d : ℕ) (ps : List ℕ)
    → FirstRefusal (stage_in test_stages) (TestApplies v p k d ps) (matches_at (lists_of v) d (pattern_at p k) ps) (test_answer v p k d ps)

-- pattern k is true of positions in document d: the pattern and the document are there, each variable has a position, and the pattern's
-- formula is true of them
pub record IsTrue (v p : List ℕ) (k d : ℕ) (ps : List ℕ) : Type 0 where
  pub pattern : k < (sizes p).patterns
  pub document : d < limit
  pub number : length ps ≡ length (pattern_at p k).vars
  pub formula : True (lists_of v) d (open_formula (pattern_at p k)) ps

-- Demand 2, testing: over an accepted volume and plan, the call says yes exactly if the pattern is true of the positions
unfoldable pub Demand2 : Type 0
Demand2 = (v p : List ℕ) → Accepted v p → (k d : ℕ) (ps : List ℕ) → (test_answer v p k d ps ≡ answered true) ↔ IsTrue v p k d ps

-- no two answers have document 01's number and values in common
unfoldable pub OneToOne : Type 0
OneToOne = (a b : Result Bool TestError) → said_tested a ≡ said_tested b → a ≡ b
