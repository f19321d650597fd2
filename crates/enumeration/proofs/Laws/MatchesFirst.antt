-- Writing matches answers the first refusal that applies: first it does as testing the tuple does, then comes 16. No contract cites this
-- file.
--     as-tested                        the answer, by what testing the tuple answers
--     matches-sound, matches-first     the answer is the first refusal that applies
--     matches_call                     and what becomes of the buffer
-- Assumes nothing.
use Prim.Native.Nat.{ℕ, ◌/◌, ◌<◌, ◌≤◌}
use native.Mathlib.Omega.{arith}
use mathlib.Core.Path.{◌≡◌, refl}
use mathlib.Core.Bool.{Bool, true, false, cond}
use mathlib.Core.Logic.{◌⊎◌, inl, inr, ⊎_elim}
use mathlib.Core.List.{List, [], ◌∷◌}
use lib.ListN.{length}
use lib.Dec.{ltb}
use Rattle.seq.specs.Lists.{elem}
use Rattle.seq.specs.Refusals.{Said, refused, answered, stage_in, FirstRefusal}
use Rattle.seq.proofs.Laws.Refusals.{Sound, end, first-refusal}
use Rattle.seq.proofs.Laws.Decides.{ltb_decides}
use Rattle.seq.proofs.Laws.Ladder.{Clear, single}
use Rattle.seq.proofs.Laws.Stages.{Over, over-clear, over-refused}
use Rattle.volume.specs.Layout.{lists_of}
use Rattle.plan.specs.declared.answers.Sizes.{Sizes}
use Rattle.plan.specs.Check.{verdict}
use Rattle.plan.specs.Accepted.{pattern_at}
use Rattle.fulltext.specs.Matches.{matches_at}
use Rattle.matcher.specs.Testing.{out_of_range, test_by, test_answer}
use Rattle.matcher.specs.Refusals.{TestApplies, test_stages}
use Rattle.matcher.proofs.Laws.Stages.{test-stage}
use Rattle.matcher.proofs.Laws.TestFirst.{test-sound}
use Rattle.enumeration.specs.Answers.{Page}
use Rattle.enumeration.specs.Enumerating.{var_count, matches_of, page_of, matches_by, matches_answer}
use Rattle.enumeration.specs.Refusals.{MatchesApplies, of_tuple, short, matches_stages}
use Rattle.enumeration.specs.Demands.{MatchesCall}
use Rattle.enumeration.proofs.Laws.Enumerating.{out-refused, out-answered}

-- what is answered behind testing: its refusal, or the rest
abbrev behind : {A B : Type 0} → Said A → Said B → Said B
behind (refused n q) rest = refused n q
behind (answered a) rest = rest

module _ (v p : List ℕ) (k d : ℕ) (from : List ℕ) (room : ℕ) where
  -- what a refusal of the call says, by its number and place
  of_call : (m q : ℕ) → MatchesApplies v p k d from room m q → TestApplies v p k d from m q ⊎ ((m ≡ 16) × ((q ≡ 0) × (room < var_count p k)))
  of_call m q (of_tuple n i a) = inl a
  of_call m q (short h) = inr (refl, (refl, h))

  -- the refusals of testing the tuple, then 16
  over : Over test_stages ((16 ∷ []) ∷ []) (TestApplies v p k d from) (MatchesApplies v p k d from room)
  unfolding stage_in elem
  over = record {
    early = λ m q a. let h = test-stage v p k d from m q a in omega arith;
    joins = λ m q a. of_tuple m q a;
    splits = λ m q x. ⊎_elim (λ a. inl a) (λ w. inr (rw w.0 (omega arith))) (of_call m q x);
  }

  -- what is answered where nothing is refused, and a sound answer of this call
  abbrev page : Page
  page = page_of (room / var_count p k) (matches_of v p k d from)

  abbrev IsSound : Said Page → Type 0
  IsSound said = Sound (stage_in matches_stages) (MatchesApplies v p k d from room) page said

  -- the rung behind testing
  abbrev fitting : Said Page
  fitting = cond (ltb room (var_count p k)) (refused 16 0) (answered page)

  from-short : ((n q : ℕ) → TestApplies v p k d from n q → ⊥) → IsSound fitting
  unfolding stage_in elem
  from-short none =
      single (stage_in matches_stages) (MatchesApplies v p k d from room) page (ltb room (var_count p k)) 16 _ _ (ltb_decides room (var_count p k)) short (over-clear _ _ _ _ over none)
      (λ m q a e. ⊎_elim (λ w. absurd (none m q w)) (λ w. w) (of_call m q a))
      (λ c. end (stage_in matches_stages) (MatchesApplies v p k d from room) page (last c))
    where
      last : Clear (stage_in matches_stages) (MatchesApplies v p k d from room) 12 → (m q : ℕ) → MatchesApplies v p k d from room m q → ⊥
      last c m q a = let h = c m q a in ⊎_elim (none m q) (λ w. let z : 12 ≤ 11 = rw w.0 at h in omega arith) (of_call m q a)

  -- whether the tuple matches, and the answer behind that
  abbrev match : Bool
  match = matches_at (lists_of v) d (pattern_at p k) from

  as-tested : matches_answer v p k d from room ≡ behind (test_answer v p k d from) fitting
  unfolding matches_answer test_answer
  as-tested = go (verdict v p)
    where
      by-range : (t : Bool) → cond t (refused 17 0) fitting ≡ behind (cond t (refused 17 0) (answered match)) fitting
      by-range true = refl
      by-range false = refl

      go : (s : Said Sizes) → matches_by s k (pattern_at p k) d from room (matches_of v p k d from) ≡ behind (test_by s k (pattern_at p k) d from match) fitting
      go (refused n q) = refl
      go (answered s) = by-range (out_of_range s.patterns k (pattern_at p k) d from)

  pub matches-sound : IsSound (matches_answer v p k d from room)
  matches-sound = rw as-tested (⊎_elim accepted refusal tested.total)
    where
      tested : Sound (stage_in test_stages) (TestApplies v p k d from) match (test_answer v p k d from)
      tested = test-sound v p k d from

      accepted : test_answer v p k d from ≡ answered match → IsSound (behind (test_answer v p k d from) fitting)
      accepted e = rw e (from-short (tested.clear e))

      refusal : ((n : ℕ) × (q : ℕ) × (test_answer v p k d from ≡ refused n q)) → IsSound (behind (test_answer v p k d from) fitting)
      refusal w = rw w.2 (over-refused _ _ _ _ over match page w.0 w.1 (test_answer v p k d from) tested w.2)

  matches-first : FirstRefusal (stage_in matches_stages) (MatchesApplies v p k d from room) page (matches_answer v p k d from room)
  matches-first = first-refusal (stage_in matches_stages) (MatchesApplies v p k d from room) page (matches_answer v p k d from room) matches-sound

pub matches_call : (v p : List ℕ) (k d : ℕ) (from out : List ℕ) → MatchesCall v p k d from out
matches_call v p k d from out = record {
  first = matches-first v p k d from (length out);
  kept = out-refused v p k d from out;
  laid = out-answered v p k d from out;
}
