-- Checking a volume answers the first refusal that applies. No contract cites this file.
--     AtStage, at_stage            what a refusal of each stage says
--     stage-le                     there are seven stages
--     volume-number                the numbers are 1 to 8
--     check_sound, check-first     the verdict is the first refusal that applies
-- Assumes nothing.
use Prim.Native.Nat.{ℕ, ◌-◌, ◌*◌, ◌%◌, ◌<◌, ◌≤◌}
use native.Mathlib.Omega.{arith}
use mathlib.Core.Path.{◌≡◌, refl, subst}
use mathlib.Core.Bool.{true, false, cond}
use mathlib.Core.Logic.{◌⊎◌, inl, inr, ⊎_elim, ◌≢◌}
use mathlib.Core.List.{List, [], ◌∷◌}
use lib.ListN.{length, get_or}
use Rattle.seq.specs.Lists.{elem, NotRising}
use Rattle.seq.specs.Refusals.{Said, refused, answered, stage_in, FirstRefusal}
use Rattle.seq.proofs.Laws.Tests.{either, neither, contrary}
use Rattle.seq.proofs.Laws.Numbers.{first-before}
use Rattle.seq.proofs.Laws.Refusals.{First, Sound, end, first-refusal}
use Rattle.volume.specs.Answers.{Sizes}
use Rattle.block.specs.Checksum.{check_a, check_b}
use Rattle.volume.specs.Layout.{blocks, block_number, covered, stored_a, stored_b, word, version, list_count, extent, postings_of}
use Rattle.volume.specs.Check.{length_wrong, number_wrong, checksum_wrong, block_wrong, bad_block, blocks_wrong, version_wrong, list_count_wrong, extent_wrong, order_wrong, bad_list, lists_wrong, padding_wrong, bad_word, tail_wrong, sizes, stream_verdict, verdict}
use Rattle.volume.specs.Refusals.{LeastBlocks, VolumeApplies, wrong_length, wrong_number, wrongChecksum, wrong_version, wrong_list_count, wrong_extent, wrong_order, wrong_padding, volume_stages}
use Rattle.seq.proofs.Laws.Decides.{holds}
use Rattle.seq.proofs.Laws.Ladder.{Clear, clear_next, first-of, searched, single, choice}
use Rattle.volume.proofs.Laws.Check.{length_wrong_decides, number_wrong_decides, checksum_wrong_decides, version_wrong_decides, list_count_wrong_decides, extent_wrong_decides, order_wrong_decides, padding_wrong_decides, blocks-clear, lists-clear, tail-clear, blocks-found, lists-found, tail-found}

module _ (v : List ℕ) where
  -- what a refusal of each stage says, by its number m and place q
  abbrev AtStage : ℕ → ℕ → ℕ → Type 0
  AtStage m q k =
      get_or
      (((m ≡ 1) × ((q ≡ 0) × ((length v ≡ 0) ⊎ ((length v % 512 ≢ 0) ⊎ (8192 < blocks v)))))
      ∷ ((q < blocks v) × (((m ≡ 2) × (block_number v q ≢ q)) ⊎ ((m ≡ 3) × ((stored_a v q ≢ check_a (covered v q)) ⊎ (stored_b v q ≢ check_b (covered v q))))))
      ∷ ((m ≡ 4) × ((q ≡ 0) × (version v ≢ 1)))
      ∷ ((m ≡ 5) × ((q ≡ 0) × ((list_count v < 1) ⊎ (1024 < list_count v))))
      ∷ ((m ≡ 6) × ((q ≡ 0) × (LeastBlocks (extent v) (blocks v) → ⊥)))
      ∷ ((m ≡ 7) × ((q < list_count v) × NotRising (postings_of v q)))
      ∷ ((m ≡ 8) × ((extent v ≤ q) × (q < 126 * blocks v) × (word v q ≢ 0)))
      ∷ [])
      k
      ⊥

  -- each refusal says what its stage does
  at_stage : (m q : ℕ) → VolumeApplies v m q → AtStage m q (stage_in volume_stages m)
  unfolding stage_in elem
  at_stage m q (wrong_length h) = (refl, (refl, h))
  at_stage m q (wrong_number k l h) = (l, inl (refl, h))
  at_stage m q (wrongChecksum k l h) = (l, inr (refl, h))
  at_stage m q (wrong_version h) = (refl, (refl, h))
  at_stage m q (wrong_list_count h) = (refl, (refl, h))
  at_stage m q (wrong_extent h) = (refl, (refl, h))
  at_stage m q (wrong_order i l h) = (refl, (l, h))
  at_stage m q (wrong_padding i l r h) = (refl, (l, r, h))

  -- the same for a stage that is known
  at_this : (k m q : ℕ) → VolumeApplies v m q → stage_in volume_stages m ≡ k → AtStage m q k
  at_this k m q a e = subst (λ (s : ℕ). AtStage m q s) e (at_stage m q a)

  -- there are seven stages
  pub stage-le : (m q : ℕ) → VolumeApplies v m q → stage_in volume_stages m ≤ 6
  unfolding stage_in elem
  stage-le m q (wrong_length h) = omega arith
  stage-le m q (wrong_number k l h) = omega arith
  stage-le m q (wrongChecksum k l h) = omega arith
  stage-le m q (wrong_version h) = omega arith
  stage-le m q (wrong_list_count h) = omega arith
  stage-le m q (wrong_extent h) = omega arith
  stage-le m q (wrong_order i l h) = omega arith
  stage-le m q (wrong_padding i l r h) = omega arith

  -- the numbers are 1 to 8
  pub volume-number : (m q : ℕ) → VolumeApplies v m q → (1 ≤ m) × (m ≤ 8)
  volume-number m q (wrong_length h) = (omega arith, omega arith)
  volume-number m q (wrong_number k l h) = (omega arith, omega arith)
  volume-number m q (wrongChecksum k l h) = (omega arith, omega arith)
  volume-number m q (wrong_version h) = (omega arith, omega arith)
  volume-number m q (wrong_list_count h) = (omega arith, omega arith)
  volume-number m q (wrong_extent h) = (omega arith, omega arith)
  volume-number m q (wrong_order i l h) = (omega arith, omega arith)
  volume-number m q (wrong_padding i l r h) = (omega arith, omega arith)

  -- the words of this call: no earlier stage applies, the first refusal, a sound answer
  abbrev IsClear : ℕ → Type 0
  IsClear k = Clear (stage_in volume_stages) (VolumeApplies v) k

  abbrev IsFirst : ℕ → ℕ → Type 0
  IsFirst n p = First (stage_in volume_stages) (VolumeApplies v) n p

  abbrev IsSound : Said Sizes → Type 0
  IsSound said = Sound (stage_in volume_stages) (VolumeApplies v) (sizes v) said

  -- the rungs, from the last one up
  from_end : IsClear 7 → IsSound (answered (sizes v))
  from_end c = end (stage_in volume_stages) (VolumeApplies v) (sizes v) (λ m q a. let h = c m q a in let l = stage-le m q a in omega arith)

  from_tail : IsClear 6 → IsSound (cond (tail_wrong v) (refused 8 (bad_word v)) (answered (sizes v)))
  unfolding stage_in elem
  from_tail c =
      searched (stage_in volume_stages) (VolumeApplies v) (sizes v) (tail_wrong v) 8 (bad_word v) (answered (sizes v)) _ c (at_this 6)
      (λ e.
      let f = tail-found v e in (
        wrong_padding (bad_word v) f.0 f.1 ((padding_wrong_decides v (bad_word v)).yes f.2),
        λ q w h. contrary (holds (padding_wrong_decides v q) w.2) (first-before (padding_wrong v) (extent v) (126 * blocks v - extent v) q w.0 h),
      ))
      (λ e q w. (padding_wrong_decides v q).no (tail-clear v e q w.0 w.1) w.2)
      from_end

  from-order : IsClear 5 → (rest : Said Sizes) → (IsClear 6 → IsSound rest) → IsSound (cond (lists_wrong v) (refused 7 (bad_list v)) rest)
  unfolding stage_in elem
  from-order c rest later =
      searched (stage_in volume_stages) (VolumeApplies v) (sizes v) (lists_wrong v) 7 (bad_list v) rest _ c (at_this 5)
      (λ e.
      let f = lists-found v e in (
        wrong_order (bad_list v) f.0 ((order_wrong_decides v (bad_list v)).yes f.1),
        λ q w h. contrary (holds (order_wrong_decides v q) w.1) (first-before (order_wrong v) 0 (list_count v) q (omega arith) h),
      ))
      (λ e q w. (order_wrong_decides v q).no (lists-clear v e q w.0) w.1)
      later

  -- what 2 or 3 says of block q
  abbrev InBlock : ℕ → ℕ → Type 0
  InBlock m q = ((m ≡ 2) × (block_number v q ≢ q)) ⊎ ((m ≡ 3) × ((stored_a v q ≢ check_a (covered v q)) ⊎ (stored_b v q ≢ check_b (covered v q))))

  -- a block that is not wrong has neither 2 nor 3
  in_order : (m q : ℕ) → block_wrong v q ≡ false → InBlock m q → ⊥
  unfolding block_wrong
  in_order m q e w =
      let f = neither (number_wrong v q) (checksum_wrong v q) e in
      ⊎_elim (λ (h : (m ≡ 2) × (block_number v q ≢ q)). (number_wrong_decides v q).no f.0 h.1) (λ h. (checksum_wrong_decides v q).no f.1 h.1) w

  -- nor has one before the lowest wrong block
  before-bad : (m q : ℕ) → InBlock m q → q < bad_block v → ⊥
  before-bad m q w h = in_order m q (first-before (block_wrong v) 0 (blocks v) q (omega arith) h) w

  -- 2 at the lowest wrong block, or 3 there
  first-number : IsClear 1 → blocks_wrong v ≡ true → number_wrong v (bad_block v) ≡ true → IsFirst 2 (bad_block v)
  unfolding stage_in elem
  first-number c e t =
      first-of (stage_in volume_stages) (VolumeApplies v) 2 (bad_block v) c
      (wrong_number (bad_block v) (blocks-found v e).0 ((number_wrong_decides v (bad_block v)).yes t))
      (λ m q a s w. ⊎_elim (before-bad m q (at_this 1 m q a s).1) (λ (h : (q ≡ bad_block v) × (m < 2)). not-less m q (at_this 1 m q a s).1 h.1) w)
    where
      not-less : (m q : ℕ) → InBlock m q → m < 2 → ⊥
      not-less m q w h = ⊎_elim (λ (x : (m ≡ 2) × (block_number v q ≢ q)). let y = x.0 in omega arith) (λ x. let y : m ≡ 3 = x.0 in omega arith) w

  first_checksum : IsClear 1 → blocks_wrong v ≡ true → number_wrong v (bad_block v) ≡ false → IsFirst 3 (bad_block v)
  unfolding stage_in elem block_wrong
  first_checksum c e t =
      first-of (stage_in volume_stages) (VolumeApplies v) 3 (bad_block v) c
      (wrongChecksum (bad_block v) (blocks-found v e).0 ((checksum_wrong_decides v (bad_block v)).yes (⊎_elim (λ x. absurd (contrary x t)) (λ x. x) (either (number_wrong v (bad_block v)) (checksum_wrong v (bad_block v)) (blocks-found v e).1))))
      (λ m q a s w. ⊎_elim (before-bad m q (at_this 1 m q a s).1) (λ (h : (q ≡ bad_block v) × (m < 3)). not-less m q (at_this 1 m q a s).1 h.0 h.1) w)
    where
      not-less : (m q : ℕ) → InBlock m q → q ≡ bad_block v → m < 3 → ⊥
      not-less m q w e h = ⊎_elim (λ (x : (m ≡ 2) × (block_number v q ≢ q)). contrary (holds (number_wrong_decides v q) x.1) (rw e t)) (λ x. let y : m ≡ 3 = x.0 in omega arith) w

  from-blocks : IsClear 1 → (rest : Said Sizes) → (IsClear 2 → IsSound rest) → IsSound (cond (blocks_wrong v) (cond (number_wrong v (bad_block v)) (refused 2 (bad_block v)) (refused 3 (bad_block v))) rest)
  unfolding stage_in elem
  from-blocks c rest later =
      choice (stage_in volume_stages) (VolumeApplies v) (sizes v) (blocks_wrong v) (number_wrong v (bad_block v)) 2 3 (bad_block v) rest (first-number c) (first_checksum c)
      (λ e. later (clear_next (stage_in volume_stages) (VolumeApplies v) 1 c (λ m q a s. let w = at_this 1 m q a s in in_order m q (blocks-clear v e q w.0) w.1)))

  -- the whole ladder
  pub check_sound : IsSound (verdict v)
  unfolding verdict stream_verdict stage_in elem
  check_sound =
      single (stage_in volume_stages) (VolumeApplies v) (sizes v) (length_wrong v) 1 _ _ (length_wrong_decides v) wrong_length (λ m q a. omega arith) (at_this 0)
      (λ c1. from-blocks c1 _
      (λ c2. single (stage_in volume_stages) (VolumeApplies v) (sizes v) (version_wrong v) 4 _ _ (version_wrong_decides v) wrong_version c2 (at_this 2)
      (λ c3. single (stage_in volume_stages) (VolumeApplies v) (sizes v) (list_count_wrong v) 5 _ _ (list_count_wrong_decides v) wrong_list_count c3 (at_this 3)
      (λ c4. single (stage_in volume_stages) (VolumeApplies v) (sizes v) (extent_wrong v) 6 _ _ (extent_wrong_decides v) wrong_extent c4 (at_this 4)
      (λ c5. from-order c5 _ from_tail)))))

  pub check-first : FirstRefusal (stage_in volume_stages) (VolumeApplies v) (sizes v) (verdict v)
  check-first = first-refusal (stage_in volume_stages) (VolumeApplies v) (sizes v) (verdict v) check_sound
