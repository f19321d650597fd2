-- Showing a pattern: when the part is empty, and what the parts are. No contract cites this file.
--     part-refuses     the part is empty exactly if a refusal applies
--     parted           the parts say the patterns, and with the operators between them they are the plan
-- Assumes nothing.
use Prim.Native.Nat.{ℕ, ◌+◌, ◌<◌, ◌≤◌}
use native.Mathlib.Omega.{arith}
use mathlib.Core.Path.{◌≡◌, sym, ap, ◌∙◌}
use mathlib.Core.Logic.{⊎_elim, ◌↔◌}
use mathlib.Core.List.{List, [], ◌++◌}
use Rattle.seq.specs.Lists.{joined}
use Rattle.seq.proofs.Laws.Tests.{below_or}
use Rattle.seq.proofs.Laws.Numbers.{run_ext}
use Rattle.volume.specs.Layout.{list_count}
use Rattle.plan.specs.Rows.{rows_of}
use Rattle.plan.specs.Check.{sizes, Accepted}
use Rattle.plan.specs.Parts.{span_at, part_at, part_of, gap}
use Rattle.plan.specs.Refusals.{PartApplies, of_plan, no_pattern}
use Rattle.plan.specs.Demands.{Parted}
use Rattle.plan.proofs.Laws.Passed.{Passed}
use Rattle.plan.proofs.Laws.Check.{verdict-passed}
use Rattle.plan.proofs.Laws.Parts.{part-rows, part-words, gaps-operate, parts_whole}
use Rattle.plan.proofs.Laws.Shown.{span-refused, span-missing, there-some, part-there, part-empty}
use Rattle.plan.proofs.Laws.CheckFirst.{check_sound}

module _ (v p : List ℕ) (k : ℕ) where
  -- a refusal applies where the part is empty
  refusal-of : part_of v p k ≡ [] → (n : ℕ) × (q : ℕ) × PartApplies v p k n q
  refusal-of e = ⊎_elim answers (λ w. (w.0, w.1, of_plan w.0 w.1 ((check_sound v p).first w.0 w.1 w.2).applies.1)) (check_sound v p).total
    where
      answers : Accepted v p → (n : ℕ) × (q : ℕ) × PartApplies v p k n q
      answers a =
          ⊎_elim (λ (h : k < (sizes p).patterns). absurd (there-some v p k (sizes p) a h (sym (part-there v p k a h) ∙ e)))
          (λ (h : (sizes p).patterns ≤ k). (17, 0, no_pattern h))
          (below_or k (sizes p).patterns)

  -- and the part is empty where one applies
  empty-at : (n q : ℕ) → PartApplies v p k n q → part_of v p k ≡ []
  empty-at n q (of_plan m i a) =
      ⊎_elim (λ e. absurd ((check_sound v p).clear e n q a)) (λ w. part-empty v p k (span-refused v p k w.0 w.1 w.2)) (check_sound v p).total
  empty-at n q (no_pattern h) =
      ⊎_elim (λ e. part-empty v p k (span-missing v p k (sizes p) e h)) (λ w. part-empty v p k (span-refused v p k w.0 w.1 w.2)) (check_sound v p).total

  pub part-refuses : (part_of v p k ≡ []) ↔ ((n : ℕ) × (q : ℕ) × PartApplies v p k n q)
  part-refuses = (refusal-of, λ w. empty-at w.0 w.1 w.2)

pub parted : (v p : List ℕ) → Accepted v p → Parted v p
unfolding sizes
parted v p e = record {
  rows = λ k h. ap rows_of (part-there v p k e h) ∙ part-rows (list_count v) p ok k h;
  words = λ k h. part-there v p k e h ∙ part-words (list_count v) p ok k h;
  whole =
      parts_whole (list_count v) p ok
      ∙ ap (λ (xs : List (List ℕ)). joined xs ++ gap p (sizes p).patterns) (run_ext (λ k. gap p k ++ part_at p (span_at p k)) (λ k. gap p k ++ part_of v p k) 0 0 (sizes p).patterns there);
  gaps = gaps-operate (list_count v) p ok;
}
  where
    ok : Passed (list_count v) p
    ok = verdict-passed v p (sizes p) e

    there : (k : ℕ) → k < (sizes p).patterns → gap p (0 + k) ++ part_at p (span_at p (0 + k)) ≡ gap p (0 + k) ++ part_of v p (0 + k)
    there k h = ap (λ (ws : List ℕ). gap p (0 + k) ++ ws) (sym (part-there v p (0 + k) e (omega arith)))
