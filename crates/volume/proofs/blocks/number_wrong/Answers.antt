-- `blocks::number_wrong` meets its contract: a comparison with the number that the block holds. Assumes nothing.
use mathlib.Core.Path.{ap}
use mathlib.Core.Bool.{not}
use Prim.Native.Nat.{ℕ}
use lib.Dec.{eqb}
use Rattle.volume.specs.Check.{number_wrong}
use Rattle.volume.proofs.blocks.number_wrong.Goals as goal

pub returns : goal.returns
unfolding number_wrong
returns c = ap (λ (n : ℕ). not (eqb n c.args.k)) c.read32.ensures
