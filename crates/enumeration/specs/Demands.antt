-- The statements that the crate is held to, each a named type. `proofs/Demands.antt` proves each in a line. Assumes nothing.
--     MatchesRefuses    demand 1 for writing matches
--     Enumerates        every enumeration, whole: the sister of demand 3
--     OneToOne          no two answers are told alike
--     SampleMatches     the matches of a pattern in the sample of document 01
-- Which matches there are from a tuple on, their order and the first of them are in `fulltext/Demands.MatchesFromIs`.
use Rattle.std.specs.Prelude.{ℕ, ◌/◌, ◌<◌, ◌≤◌, ◌≡◌, List, [], ◌∷◌, ◌++◌, length, take, drop, replicate, Result}
use Rattle.std.proofs.Math.Option.{none, some}
use Rattle.seq.specs.Lists.{joined}
use Rattle.seq.specs.Refusals.{refused, answered, stage_in, FirstRefusal}
use Rattle.seq.specs.Calls.{Form, plain, Call}
use Rattle.volume.specs.Layout.{lists_of}
use Rattle.volume.specs.Demands.{sample_lists}
use Rattle.plan.specs.declared.row.Predicate.{Predicate}
use Rattle.plan.specs.declared.row.Predicate.TheVariants.{Distance}
use Rattle.plan.specs.Patterns.{Pattern}
use Rattle.plan.specs.Check.{Accepted, sizes}
use Rattle.plan.specs.Accepted.{pattern_at}
use Rattle.fulltext.specs.Positions.{limit}
use Rattle.fulltext.specs.Matches.{matches_in, least_in}
use Rattle.fulltext.specs.Order.{matches_from}
use Rattle.enumeration.specs.declared.answers.Matches.{Matches}
use Rattle.enumeration.specs.declared.answers.MatchError.{MatchError}
use Rattle.enumeration.specs.Answers.{Page, said_matched}
use Rattle.enumeration.specs.Enumerating.{var_count, matches_of, page_of, words_of, matches_answer, matches_out}
use Rattle.enumeration.specs.Refusals.{MatchesApplies, matches_stages}
use Rattle.enumeration.specs.Enumeration.{MayStart, KeptAs, IsEnumeration, outcome, Exhaustive}

-- writing matches: the first of 1 to 14, 17, 16 that applies, or the page exactly if none applies
-- a refusal leaves the buffer as it was; an answer leaves the matches at its front and the rest as it was
pub record MatchesCall (v p : List ℕ) (k d : ℕ) (from out : List ℕ) : Type 0 where
  pub first : FirstRefusal (stage_in matches_stages) (MatchesApplies v p k d from (length out))
      (page_of (length out / var_count p k) (matches_of v p k d from)) (matches_answer v p k d from (length out))
  pub kept : (n q : ℕ) → matches_answer v p k d from (length out) ≡ refused n q → matches_out v p k d from out ≡ out
  pub laid : (page : Page)
      → matches_answer v p k d from (length out) ≡ answered page
      → matches_out v p k d from out
      ≡ words_of (length out / var_count p k) (matches_of v p k d from)
      ++ drop (length (words_of (length out / var_count p k) (matches_of v p k d from))) out

-- Demand 1, writing matches
unfoldable pub MatchesRefuses : Type 0
MatchesRefuses = (v p : List ℕ) (k d : ℕ) (from out : List ℕ) → MatchesCall v p k d from out

-- what holds of every enumeration of pattern k in document d, of calls whose answers have a form
pub record EveryEnumeration {A : Type 0} (form : Form Page A) (v p : List ℕ) (k d : ℕ) : Type 0 where
  -- from any tuple that may be given
  pub enumerated : (start : List ℕ)
      → MayStart p k start
      → (calls : List (Call A))
      → IsEnumeration form v p k d start calls
      → Exhaustive form v p k d start calls (outcome form (var_count p k) start calls)
  -- from zeros to DONE: all matches, each once, in order
  pub whole : (calls : List (Call A))
      → IsEnumeration form v p k d (replicate (var_count p k) 0) calls
      → (outcome form (var_count p k) (replicate (var_count p k) 0) calls).reached ≡ none
      → (outcome form (var_count p k) (replicate (var_count p k) 0) calls).words ≡ joined (matches_in (lists_of v) d (pattern_at p k))
  -- where a pattern has a match, what a call from zeros writes first is its least match, which a listing shows
  pub earliest : (c : Call A)
      → KeptAs form v p k d (replicate (var_count p k) 0) c
      → var_count p k ≤ length c.lent
      → (ps : List ℕ)
      → least_in (lists_of v) d (pattern_at p k) ≡ some ps
      → take (var_count p k) c.back ≡ ps

-- every enumeration: over every accepted volume and plan, each pattern of it and each document
unfoldable pub Enumerates : Type 0
Enumerates = (v p : List ℕ) → Accepted v p → (k d : ℕ) → k < (sizes p).patterns → d < limit → EveryEnumeration plain v p k d

-- no two answers have document 01's number and values in common
unfoldable pub OneToOne : Type 0
OneToOne = (a b : Result Matches MatchError) → said_matched a ≡ said_matched b → a ≡ b

-- the sample of document 01: a pattern of variables on lists 1 and 2, with such predicates
abbrev pub sample_pattern : List Predicate → Pattern
sample_pattern cs = record { vars = 1 ∷ 2 ∷ []; predicates = cs }

-- its matches in document 1
pub record SampleMatches : Type 0 where
  -- without predicates, from 2 6 on, which does not match itself
  pub later : matches_from sample_lists 1 (sample_pattern []) (2 ∷ 6 ∷ []) ≡ (2 ∷ 7 ∷ []) ∷ (8 ∷ 5 ∷ []) ∷ (8 ∷ 7 ∷ []) ∷ []
  -- with NEAR 0 1 2, from zeros on
  pub near : matches_from sample_lists 1 (sample_pattern (Distance 0 1 2 ∷ [])) (0 ∷ 0 ∷ [])
      ≡ (2 ∷ 5 ∷ []) ∷ (8 ∷ 5 ∷ []) ∷ (8 ∷ 7 ∷ []) ∷ []
  -- of these a buffer of 4 words takes two, and MORE names the third
  pub page : page_of (4 / 2) (matches_from sample_lists 1 (sample_pattern (Distance 0 1 2 ∷ [])) (0 ∷ 0 ∷ []))
      ≡ record { count = 2; next = some (8 ∷ 7 ∷ 0 ∷ 0 ∷ 0 ∷ 0 ∷ 0 ∷ 0 ∷ []) }
  pub words : words_of (4 / 2) (matches_from sample_lists 1 (sample_pattern (Distance 0 1 2 ∷ [])) (0 ∷ 0 ∷ [])) ≡ 2 ∷ 5 ∷ 8 ∷ 5 ∷ []
