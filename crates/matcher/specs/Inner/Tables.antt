-- The cursor of each variable of a plan before its documents are walked. Assumes nothing.
use Rattle.std.specs.Prelude.{ℕ, ◌*◌, ◌<◌, ◌≡◌, List, get_or}
use Rattle.volume.specs.Layout.{start}
use Rattle.plan.specs.Rows.{rows_of}
use Rattle.plan.specs.Patterns.{vars_of}
use Rattle.plan.specs.Check.{sizes}
use Rattle.matcher.specs.declared.cursor.Cursor.{Cursor}
use Rattle.matcher.specs.Inner.Cursors.{seek_from, list_end}

-- the list of variable x among those of the plan
abbrev pub var_at : List ℕ → ℕ → ℕ
var_at p x = get_or (vars_of (rows_of p)) x 0

-- the cursor on list l at its first posting in document d or a later one
abbrev pub cursor_on : List ℕ → ℕ → ℕ → Cursor
cursor_on v l d = record { at = seek_from v (d * 65536) (start v l) (list_end v l); end = list_end v l }

-- where each variable's cursor stands in front of document d, and where its list ends
pub record Placed (v p : List ℕ) (d x at end : ℕ) : Type 0 where
  pub at-is : at ≡ seek_from v (d * 65536) (start v (var_at p x)) (list_end v (var_at p x))
  pub end_is : end ≡ list_end v (var_at p x)

abbrev pub Cursors : List ℕ → List ℕ → ℕ → List ℕ → List ℕ → Type 0
Cursors v p d ats ends = (x : ℕ) → x < (sizes p).vars → Placed v p d x (get_or ats x 0) (get_or ends x 0)
