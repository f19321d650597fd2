-- Document 01's refusals of listing as a relation, one line for each number: refusal n applies at place q. Assumes nothing.
use Rattle.std.specs.Prelude.{ℕ, ◌<◌, List, [], ◌∷◌, ◌++◌}
use Rattle.plan.specs.Refusals.{PlanApplies, plan_stages}
use Rattle.fulltext.specs.Documents.{work}

-- the refusals of listing from document `start` on into a buffer of so many words: those of the volume and the plan, then 15, then 16
pub data ListApplies (v p : List ℕ) (start room : ℕ) : ℕ → ℕ → Type 0 where
  -- 1 to 14
  of_plan : (n q : ℕ) → PlanApplies v p n q → ListApplies v p start room n q
  -- 15: start scene over 65,535
  wrong_start : 65535 < start → ListApplies v p start room 15 0
  -- 16: buffer shorter than one row
  short : room < (work v p).width → ListApplies v p start room 16 0

-- the stages of the call
abbrev pub list_stages : List (List ℕ)
list_stages = plan_stages ++ ((15 ∷ []) ∷ (16 ∷ []) ∷ [])
