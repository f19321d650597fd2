use native.Mathlib.Omega.{arith}
use Prim.Native.Nat.{◌*◌}
use native.Mathlib.Nat.{add-zero}
use mathlib.Core.Path.{◌≡◌, ap₂, ◌∙◌, sym}
use Rattle.volume.specs.Inner.Falls.{fall, fall_of}
use Rattle.volume.specs.Layout.{word}
use Rattle.volume.proofs.Laws.Falls.{fall_in_block, falls-more}
use Rattle.volume.proofs.order.falls_in.Goals as goal

pub loop-i-init : goal.loop-i-init
loop-i-init c = (omega arith, rw (add-zero, add-zero))

pub loop-i-preserved : goal.loop-i-preserved
loop-i-preserved c =
    let l = c.loop-i in
    let a = c.args in
    let v = a.volume.now in (
      omega arith,
      falls-more (fall (word v)) (126 * a.k) l.i l.n c.fall_of-n.result l.invariant.1
          (c.fall_of-n.ensures.value ∙ ap₂ fall_of c.read32.ensures c.read32-in-loop-i.ensures ∙ sym (fall_in_block v a.k l.i c.loop-i-test.true)),
    )

pub returns : goal.returns
returns c =
    let l = c.loop-i in
    let e : l.i ≡ 125 = omega arith in
    record {
      result_value = rw e at l.invariant.1;
      upper_bound = omega arith;
    }
