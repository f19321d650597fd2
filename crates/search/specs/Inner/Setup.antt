-- What is set up before the documents are walked: the lists that a plan uses, and an order of each pattern's variables. Assumes nothing.
use Rattle.std.specs.Prelude.{ℕ, ◌<◌, ◌≤◌, List, drop}
use Rattle.plan.specs.Check.{sizes}
use Rattle.plan.specs.Accepted.{pattern_at}
use Rattle.plan.specs.Inner.Outline.{vars_before}
use Rattle.matcher.specs.Inner.Tables.{var_at}
use Rattle.matcher.specs.Inner.Order.{RarestFirst}

-- r is the least number above the lists of the first n variables of a plan
pub record ListsUsed (p : List ℕ) (n r : ℕ) : Type 0 where
  pub above : (x : ℕ) → x < n → var_at p x < r
  pub least : (m : ℕ) → ((x : ℕ) → x < n → var_at p x < m) → r ≤ m

-- `orders` has the variables of each pattern, the rarest first, from the pattern's first one on
abbrev pub RarestEach : List ℕ → List ℕ → List ℕ → Type 0
RarestEach v p orders = (k : ℕ) → k < (sizes p).patterns → RarestFirst v (pattern_at p k) (drop (vars_before p k) orders)
