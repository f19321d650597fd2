-- The state in front of a row, told by counting the rows that have been read. Assumes nothing.
use Rattle.std.specs.Prelude.{ℕ, ◌+◌, ◌-◌, Bool, not, cond, List, [], ◌∷◌, length, ltb}
use Rattle.seq.specs.Lists.{keep, all, total}
use Rattle.plan.specs.declared.row.Kind.{Kind}
use Rattle.plan.specs.declared.row.Kind.TheVariants as kind
use Rattle.plan.specs.declared.row.Row.{Row}
use Rattle.plan.specs.declared.state.State.{State}
use Rattle.plan.specs.Rows.{is_voice, is_condition, is_end, is_operator}
use Rattle.plan.specs.State.{takes}

-- how many of some rows are of a sort
unfoldable pub count_of : (Kind → Bool) → List Row → ℕ
count_of sort rows = length (keep (λ (r : Row). sort r.kind) rows)

-- the rows behind the last END
unfoldable pub behind_end : List Row → List Row
behind_end [] = []
behind_end (r ∷ rows) = let rest = behind_end rows in cond (all (λ (x : Row). not (is_end x.kind)) (r ∷ rows)) (r ∷ rows) rest

-- how many answers a row takes
abbrev pub taken : Kind → ℕ
taken (kind.Voice list) = 0
taken (kind.Condition c) = 0
taken kind.End = 0
taken (kind.Operator o) = takes o

-- the state behind some rows: the variables of the open pattern are the VOICE rows behind the last END, its conditions have
-- begun if one stands there, each END has closed a pattern and stacked an answer, and each operator has taken some and stacked one
unfoldable pub counted : List Row → State
counted rows = record {
  vars = count_of is_voice (behind_end rows);
  begun = ltb 0 (count_of is_condition (behind_end rows));
  patterns = count_of is_end rows;
  answers = count_of is_end rows + count_of is_operator rows - total (λ (r : Row). taken r.kind) rows;
  total = count_of is_voice rows;
}
