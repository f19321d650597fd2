-- Writing a volume answers the first refusal that applies. No contract cites this file.
--     AtStage, at_stage            what a refusal of each stage says
--     write-sound, write-first     the answer is the first refusal that applies
-- Assumes nothing.
use Prim.Native.Nat.{ℕ, ◌*◌, ◌<◌, ◌≤◌}
use native.Mathlib.Omega.{arith}
use mathlib.Core.Path.{◌≡◌, refl, subst}
use mathlib.Core.Bool.{cond}
use mathlib.Core.Logic.{◌⊎◌, ◌≢◌}
use mathlib.Core.List.{List, [], ◌∷◌}
use lib.ListN.{length, get_or}
use Rattle.seq.specs.Lists.{elem, total, NotRising}
use Rattle.seq.specs.Refusals.{Said, refused, answered, stage_in, FirstRefusal}
use Rattle.seq.proofs.Laws.Tests.{contrary}
use Rattle.seq.proofs.Laws.Numbers.{first-before}
use Rattle.seq.proofs.Laws.Refusals.{Sound, end, first-refusal}
use Rattle.volume.specs.Layout.{extent_of, blocks_for}
use Rattle.volume.specs.Write.{given_list, counts_wrong, sum_wrong, given_wrong, bad_given, given_lists_wrong, too_large, short_output, write_answer}
use Rattle.volume.specs.Refusals.{LeastBlocks, WriteApplies, wrong_counts, wrong_sum, wrong_given, over_large, output_short, write_stages}
use Rattle.seq.proofs.Laws.Decides.{Decides, holds, same_decides}
use Rattle.volume.proofs.Laws.Check.{least-blocks_for, blocks_for-least}
use Rattle.volume.proofs.Laws.WriteAnswer.{counts_wrong_decides, sum_wrong_decides, given_wrong_decides, too_large_decides, short_output_decides, given-clear, given-found}
use Rattle.seq.proofs.Laws.Ladder.{Clear, searched, single}

module _ (counts postings : List ℕ) (room : ℕ) where
  -- what the writer answers
  abbrev value : ℕ
  value = blocks_for (extent_of (length counts) (length postings))

  -- the output is shorter than the least number of blocks
  abbrev Short : Type 0
  Short = (n : ℕ) × LeastBlocks (extent_of (length counts) (length postings)) n × (room < 512 * n)

  -- what a refusal of each stage says, by its number m and place q
  abbrev AtStage : ℕ → ℕ → ℕ → Type 0
  AtStage m q k =
      get_or
      (((m ≡ 5) × ((q ≡ 0) × ((length counts < 1) ⊎ (1024 < length counts))))
      ∷ ((m ≡ 18) × ((q ≡ 0) × (total (λ x. x) counts ≢ length postings)))
      ∷ ((m ≡ 7) × ((q < length counts) × NotRising (given_list counts postings q)))
      ∷ ((m ≡ 19) × ((q ≡ 0) × (1032192 < extent_of (length counts) (length postings))))
      ∷ ((m ≡ 20) × ((q ≡ 0) × Short))
      ∷ [])
      k
      ⊥

  -- each refusal says what its stage does
  at_stage : (m q : ℕ) → WriteApplies counts postings room m q → AtStage m q (stage_in write_stages m)
  unfolding stage_in elem
  at_stage m q (wrong_counts h) = (refl, (refl, h))
  at_stage m q (wrong_sum h) = (refl, (refl, h))
  at_stage m q (wrong_given i l h) = (refl, (l, h))
  at_stage m q (over_large h) = (refl, (refl, h))
  at_stage m q (output_short n l h) = (refl, (refl, (n, l, h)))

  -- the same for a stage that is known
  at_this : (k m q : ℕ) → WriteApplies counts postings room m q → stage_in write_stages m ≡ k → AtStage m q k
  at_this k m q a e = subst (λ (s : ℕ). AtStage m q s) e (at_stage m q a)

  -- there are five stages
  stage-le : (m q : ℕ) → WriteApplies counts postings room m q → stage_in write_stages m ≤ 4
  unfolding stage_in elem
  stage-le m q (wrong_counts h) = omega arith
  stage-le m q (wrong_sum h) = omega arith
  stage-le m q (wrong_given i l h) = omega arith
  stage-le m q (over_large h) = omega arith
  stage-le m q (output_short n l h) = omega arith

  -- the words of this call: no earlier stage applies, a sound answer
  abbrev IsClear : ℕ → Type 0
  IsClear k = Clear (stage_in write_stages) (WriteApplies counts postings room) k

  abbrev IsSound : Said ℕ → Type 0
  IsSound said = Sound (stage_in write_stages) (WriteApplies counts postings room) value said

  -- the rungs, from the last one up
  from_end : IsClear 5 → IsSound (answered value)
  from_end c = end (stage_in write_stages) (WriteApplies counts postings room) value (λ m q a. let h = c m q a in let l = stage-le m q a in omega arith)

  short_decides : Decides (short_output counts postings room) Short
  short_decides =
      same_decides (short_output_decides counts postings room)
      (λ h. (blocks_for (extent_of (length counts) (length postings)), least-blocks_for (extent_of (length counts) (length postings)), h))
      (λ w. let e : blocks_for (extent_of (length counts) (length postings)) ≡ w.0 = blocks_for-least (extent_of (length counts) (length postings)) w.0 w.1 in let h = w.2 in omega arith)

  from-order : IsClear 2 → (rest : Said ℕ) → (IsClear 3 → IsSound rest) → IsSound (cond (given_lists_wrong counts postings) (refused 7 (bad_given counts postings)) rest)
  unfolding stage_in elem
  from-order c rest later =
      searched (stage_in write_stages) (WriteApplies counts postings room) value (given_lists_wrong counts postings) 7 (bad_given counts postings) rest _ c (at_this 2)
      (λ e.
      let f = given-found counts postings e in (
        wrong_given (bad_given counts postings) f.0 ((given_wrong_decides counts postings (bad_given counts postings)).yes f.1),
        λ q w h. contrary (holds (given_wrong_decides counts postings q) w.1) (first-before (given_wrong counts postings) 0 (length counts) q (omega arith) h),
      ))
      (λ e q w. (given_wrong_decides counts postings q).no (given-clear counts postings e q w.0) w.1)
      later

  -- the whole ladder
  write-sound : IsSound (write_answer counts postings room)
  unfolding write_answer stage_in elem
  write-sound =
      single (stage_in write_stages) (WriteApplies counts postings room) value (counts_wrong counts) 5 _ _ (counts_wrong_decides counts postings) wrong_counts (λ m q a. omega arith) (at_this 0)
      (λ c1. single (stage_in write_stages) (WriteApplies counts postings room) value (sum_wrong counts postings) 18 _ _ (sum_wrong_decides counts postings) wrong_sum c1 (at_this 1)
      (λ c2. from-order c2 _
      (λ c3. single (stage_in write_stages) (WriteApplies counts postings room) value (too_large counts postings) 19 _ _ (too_large_decides counts postings) over_large c3 (at_this 3)
      (λ c4. single (stage_in write_stages) (WriteApplies counts postings room) value (short_output counts postings room) 20 _ _ short_decides (λ w. output_short w.0 w.1 w.2) c4 (at_this 4) from_end))))

  pub write-first : FirstRefusal (stage_in write_stages) (WriteApplies counts postings room) (blocks_for (extent_of (length counts) (length postings))) (write_answer counts postings room)
  write-first = first-refusal (stage_in write_stages) (WriteApplies counts postings room) value (write_answer counts postings room) write-sound
