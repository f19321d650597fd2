-- The refusals of writing a plan as a line, as a relation: one line for each number. Assumes nothing.
use Rattle.std.specs.Prelude.{ℕ, ◌<◌, List, [], ◌∷◌, ◌++◌, length}
use Rattle.plan.specs.Refusals.{PlanApplies, plan_stages}
use Rattle.grammar.specs.Query.{plan_text}

-- writing a line
pub data WriteApplies (v p : List ℕ) (room : ℕ) : ℕ → ℕ → Type 0 where
  -- 1 to 14: the refusals of the volume and the plan
  of_plan : (n q : ℕ) → PlanApplies v p n q → WriteApplies v p room n q
  -- 16: the buffer is too short for the line
  short_line : room < length (plan_text p) → WriteApplies v p room 16 0

-- those of the check, then 16
abbrev pub write_stages : List (List ℕ)
write_stages = plan_stages ++ ((16 ∷ []) ∷ [])
