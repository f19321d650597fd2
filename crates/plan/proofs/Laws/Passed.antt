-- A plan that passes every test, over t lists. No contract cites this file. Assumes nothing.
use Prim.Native.Nat.{ℕ, ◌*◌, ◌<◌, ◌≤◌}
use mathlib.Core.Path.{◌≡◌}
use mathlib.Core.Bool.{false}
use mathlib.Core.List.{List}
use lib.ListN.{length}
use Rattle.plan.specs.Limits.{most_rows}
use Rattle.plan.specs.Rows.{row_count, row_at, form_wrong_at}
use Rattle.plan.specs.State.{list_wrong, too_many, order_wrong, state_at}

pub record Passed (t : ℕ) (p : List ℕ) : Type 0 where
  pub whole : length p ≡ 4 * row_count p
  pub some-rows : 1 ≤ row_count p
  pub most-rows : row_count p ≤ most_rows
  pub formed : (i : ℕ) → i < row_count p → form_wrong_at p i ≡ false
  pub listed : (i : ℕ) → i < row_count p → list_wrong t (row_at p i).kind ≡ false
  pub few : (i : ℕ) → i < row_count p → too_many (state_at p i) (row_at p i).kind ≡ false
  pub ordered : (i : ℕ) → i < row_count p → order_wrong (state_at p i) (row_at p i).kind ≡ false
  pub closed : (state_at p (row_count p)).vars ≡ 0
  pub single : (state_at p (row_count p)).answers ≡ 1
