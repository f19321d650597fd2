-- The call that tests positions and the calculus. No contract cites this file.
--     in-range     a position of which the formula is true is at most 65,535
--     test_iff     the call says yes exactly if the pattern is true of the positions
-- Assumes nothing.
use Prim.Native.Nat.{ℕ, ◌<◌}
use native.Mathlib.Omega.{arith}
use mathlib.Core.Path.{◌≡◌, refl, sym, ap, ◌∙◌}
use mathlib.Core.Bool.{Bool, true, false}
use mathlib.Core.Logic.{⊎_elim, ◌↔◌}
use mathlib.Core.List.{List}
use lib.ListN.{length, get_or}
use Rattle.seq.specs.Refusals.{Said, refused, answered, stage_in}
use Rattle.seq.proofs.Laws.Refusals.{not-both}
use Rattle.seq.proofs.Laws.Tests.{both, below_or}
use Rattle.volume.specs.Layout.{lists_of}
use Rattle.plan.specs.Check.{sizes, Accepted}
use Rattle.plan.specs.Accepted.{pattern_at}
use Rattle.plan.proofs.Laws.CheckFirst.{check_sound}
use Rattle.fulltext.specs.Positions.{limit}
use Rattle.fulltext.specs.Calculus.{True, open_formula}
use Rattle.fulltext.specs.Matches.{all_hold, fits, starts_in, vars_in, matches_at}
use Rattle.fulltext.proofs.Laws.Least.{fits_iff}
use Rattle.fulltext.proofs.Laws.Calculus.{agrees}
use Rattle.matcher.specs.Testing.{test_answer}
use Rattle.matcher.specs.Demands.{IsTrue}
use Rattle.matcher.specs.Refusals.{TestApplies, test_stages, of_plan, no_pattern, wrong_number, wrong_doc, wrong_pos}
use Rattle.matcher.proofs.Laws.TestFirst.{test-first}

-- what an answer says, where it is not a refusal
abbrev bool_in : Said Bool → Bool
bool_in (refused n q) = false
bool_in (answered b) = b

module _ (v p : List ℕ) (ok : Accepted v p) (k d : ℕ) (ps : List ℕ) where
  abbrev match : Bool
  match = matches_at (lists_of v) d (pattern_at p k) ps

  -- positions that match stand in lists, so they are at most 65,535
  in-range : match ≡ true → (i : ℕ) → i < length ps → get_or ps i 0 < limit
  in-range m i q =
      let w = both (fits (vars_in (lists_of v) d (pattern_at p k).vars) ps) (all_hold (starts_in (lists_of v) d) (pattern_at p k).predicates ps) m in
      let f = (fits_iff (lists_of v) d (pattern_at p k).vars ps).0 w.0 in
      (f.1 i (omega (arith, f.0))).0

  true-matches : IsTrue v p k d ps → match ≡ true
  true-matches t = ((agrees v p ok).tuples k d ps).1 (t.number, t.formula)

  none-applies : IsTrue v p k d ps → (n q : ℕ) → TestApplies v p k d ps n q → ⊥
  none-applies t n q (of_plan m i a) = (check_sound v p).clear ok n q a
  none-applies t n q (no_pattern a) = let h = t.pattern in omega arith
  none-applies t n q (wrong_number a) = a t.number
  none-applies t n q (wrong_doc a) = let h = t.document in omega arith
  none-applies t n q (wrong_pos i a b) = let c = in-range (true-matches t) i a in omega arith

  -- where the call says yes no refusal applies, so that the pattern and the document are there
  yes_true : test_answer v p k d ps ≡ answered true → IsTrue v p k d ps
  yes_true e = record {
    pattern = ⊎_elim (λ h. h) (λ h. absurd (none 17 0 (no_pattern h))) (below_or k (sizes p).patterns);
    document = ⊎_elim (λ h. h) (λ h. absurd (none 17 0 (wrong_doc (omega arith)))) (below_or d limit);
    number = w.0;
    formula = w.1;
  }
    where
      answer-is : test_answer v p k d ps ≡ answered match
      answer-is = ⊎_elim (λ a. a) (λ r. absurd (not-both (test_answer v p k d ps) true r.0 r.1 e r.2)) (test-first v p k d ps).either

      none : (n q : ℕ) → TestApplies v p k d ps n q → ⊥
      none n q a = (test-first v p k d ps).answers.0 answer-is (stage_in test_stages n) n q (refl, a)

      w : (length ps ≡ length (pattern_at p k).vars) × True (lists_of v) d (open_formula (pattern_at p k)) ps
      w = ((agrees v p ok).tuples k d ps).0 (ap bool_in (sym answer-is ∙ e))

  pub test_iff : (test_answer v p k d ps ≡ answered true) ↔ IsTrue v p k d ps
  test_iff = (
    yes_true,
    λ t. (test-first v p k d ps).answers.1 (λ s n q a. none-applies t n q a.1) ∙ ap answered (true-matches t),
  )
