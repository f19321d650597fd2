-- What is written of a list of which only so many fit. Assumes nothing.
use Rattle.std.specs.Prelude.{ℕ, List, take, drop}
use Rattle.std.proofs.Math.Option.{Option}
use Rattle.seq.specs.Lists.{first}

-- those that are written, and the first one left
pub record Portion (A : Type 0) : Type 0 where
  pub written : List A
  pub left : Option A

-- of a list of which m fit
abbrev pub portion : {A : Type 0} → ℕ → List A → Portion A
portion m xs = record { written = take m xs; left = first (drop m xs) }
