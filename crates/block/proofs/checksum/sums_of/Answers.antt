-- `checksum::sums_of` meets its contract: 64 bits hold the sums of any two halves. Assumes nothing.
use Prim.Native.Nat.{ℕ, ◌%◌}
use native.Mathlib.Omega.{arith}
use mathlib.Core.Path.{ap₂}
use Rattle.seq.specs.Lists.{total}
use Rattle.block.specs.Parts.{sums_of}
use Rattle.block.proofs.checksum.sums_of.Goals as goal

pub returns : goal.returns
unfolding sums_of total
returns c = ap₂ (λ (a b : ℕ). record { a = a % 65535; b = b % 65535 }) (omega arith) (omega arith)
