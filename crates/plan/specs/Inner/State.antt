-- A bound on the numbers of a state, which keeps its sums within 32 bits. Assumes nothing.
use Rattle.std.specs.Prelude.{ℕ, ◌≤◌}
use Rattle.plan.specs.declared.state.State.{State}

-- no number of a state is above n
pub record AtMost (n : ℕ) (s : State) : Type 0 where
  pub vars : s.vars ≤ n
  pub patterns : s.patterns ≤ n
  pub answers : s.answers ≤ n
  pub total : s.total ≤ n
