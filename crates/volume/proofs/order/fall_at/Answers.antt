-- `order::fall_at` meets its contract: behind the last word stands 0, which is above nothing. Assumes nothing.
use native.Mathlib.Omega.{arith}
use mathlib.Core.Path.{ap₂, ◌∙◌, sym}
use lib.ListN.{length}
use Prim.Native.Nat.{◌/◌}
use Rattle.volume.specs.Inner.Falls.{fall, fall_of}
use Rattle.volume.proofs.Laws.Falls.{fall-last}
use Rattle.volume.proofs.order.fall_at.Goals as goal

pub returns-then-next-volume : goal.returns-then-next-volume
returns-then-next-volume c = let a = c.args in record {
  value = sym (fall-last a.whole.now.bytes.now (length a.whole.now.bytes.now / 512) a.i c.args.whole.now.whole c.if-next-volume.true);
  upper_bound = omega arith;
}

pub returns-else-next-volume : goal.returns-else-next-volume
unfolding fall
returns-else-next-volume c = record {
  value = c.fall_of.ensures.value ∙ ap₂ fall_of c.word_at.ensures c.word_at-else-next-volume.ensures;
  upper_bound = c.fall_of.ensures.upper_bound;
}
