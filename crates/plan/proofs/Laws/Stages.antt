-- The refusals of a volume and a plan, by their numbers. No contract cites this file.
--     plan-number     they are 1 to 14
--     plan-stage      they have the first ten stages
-- Assumes nothing.
use Prim.Native.Nat.{ℕ, ◌≤◌}
use native.Mathlib.Omega.{arith}
use mathlib.Core.List.{List}
use Rattle.seq.specs.Lists.{elem}
use Rattle.seq.specs.Refusals.{stage_in}
use Rattle.volume.specs.Refusals.{VolumeApplies}
use Rattle.volume.specs.Refusals as volume
use Rattle.volume.proofs.Laws.CheckFirst.{volume-number}
use Rattle.plan.specs.Refusals.{PlanApplies, of_volume, wrong_length, wrong_form, wrong_list, ninth, wrong_order, unfinished, plan_stages}

volume-stage : (v : List ℕ) (n q : ℕ) → VolumeApplies v n q → stage_in plan_stages n ≤ 6
unfolding stage_in elem
volume-stage v n q (volume.wrong_length h) = omega arith
volume-stage v n q (volume.wrong_number k l h) = omega arith
volume-stage v n q (volume.wrongChecksum k l h) = omega arith
volume-stage v n q (volume.wrong_version h) = omega arith
volume-stage v n q (volume.wrong_list_count h) = omega arith
volume-stage v n q (volume.wrong_extent h) = omega arith
volume-stage v n q (volume.wrong_order i l h) = omega arith
volume-stage v n q (volume.wrong_padding i l r h) = omega arith

module _ (v p : List ℕ) where
  pub plan-number : (n q : ℕ) → PlanApplies v p n q → (1 ≤ n) × (n ≤ 14)
  plan-number n q (of_volume m i a) = let h = volume-number v n q a in (h.0, omega (arith, h.1))
  plan-number n q (wrong_length h) = (omega arith, omega arith)
  plan-number n q (wrong_form i l h) = (omega arith, omega arith)
  plan-number n q (wrong_list i l h) = (omega arith, omega arith)
  plan-number n q (ninth i l h) = (omega arith, omega arith)
  plan-number n q (wrong_order i l h) = (omega arith, omega arith)
  plan-number n q (unfinished h) = (omega arith, omega arith)

  pub plan-stage : (n q : ℕ) → PlanApplies v p n q → stage_in plan_stages n ≤ 9
  unfolding stage_in elem
  plan-stage n q (of_volume m i a) = let h = volume-stage v n q a in omega arith
  plan-stage n q (wrong_length h) = omega arith
  plan-stage n q (wrong_form i l h) = omega arith
  plan-stage n q (wrong_list i l h) = omega arith
  plan-stage n q (ninth i l h) = omega arith
  plan-stage n q (wrong_order i l h) = omega arith
  plan-stage n q (unfinished h) = omega arith
