-- Document 01's refusals of testing as relations, one line for each number: refusal n applies at place q. Assumes nothing.
use Rattle.std.specs.Prelude.{ℕ, ◌<◌, ◌≤◌, ◌≢◌, List, [], ◌∷◌, ◌++◌, length, get_or}
use Rattle.plan.specs.Check.{sizes}
use Rattle.plan.specs.Accepted.{pattern_at}
use Rattle.plan.specs.Refusals.{PlanApplies, plan_stages}

-- the refusals of testing positions ps of pattern k in document d: those of the volume and the plan, then 17
pub data TestApplies (v p : List ℕ) (k d : ℕ) (ps : List ℕ) : ℕ → ℕ → Type 0 where
  -- 1 to 14
  of_plan : (n q : ℕ) → PlanApplies v p n q → TestApplies v p k d ps n q
  -- 17: figure number not below F, wrong number of places, or a scene or place over 65,535
  no_pattern : (sizes p).patterns ≤ k → TestApplies v p k d ps 17 0
  wrong_number : length ps ≢ length (pattern_at p k).vars → TestApplies v p k d ps 17 0
  wrong_doc : 65535 < d → TestApplies v p k d ps 17 0
  wrong_pos : (i : ℕ) → i < length ps → 65535 < get_or ps i 0 → TestApplies v p k d ps 17 0

-- the stages of the call
abbrev pub test_stages : List (List ℕ)
test_stages = plan_stages ++ ((17 ∷ []) ∷ [])
