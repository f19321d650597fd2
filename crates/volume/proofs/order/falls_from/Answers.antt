use native.Mathlib.Omega.{arith}
use Prim.Native.Nat.{◌+◌}
use mathlib.Core.Path.{◌≡◌}
use Rattle.volume.specs.Inner.Falls.{falls_before, fall}
use Rattle.volume.specs.Layout.{word}
use Rattle.seq.proofs.Laws.Numbers.{sum_step}
use Rattle.volume.proofs.order.falls_from.Goals as goal

pub loop-i-preserved : goal.loop-i-preserved
loop-i-preserved c =
    let l = c.loop-i in
    let v = c.args.whole.now.bytes.now in
    let step : falls_before v (l.i + 1) ≡ falls_before v l.i + fall (word v) l.i = sum_step (fall (word v)) l.i in
    omega arith

pub returns : goal.returns
returns c =
    let l = c.loop-i in
    let e : l.i ≡ c.args.end = omega arith in
    record {
      result_value = rw e at l.invariant.1;
      upper_bound = omega arith;
    }
