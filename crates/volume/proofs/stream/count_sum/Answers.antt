use native.Mathlib.Omega.{arith}
use mathlib.Core.Path.{◌≡◌, refl, ◌∙◌}
use Rattle.seq.specs.Numbers.{sum_to}
use Rattle.seq.proofs.Laws.Numbers.{sum_more}
use Rattle.volume.specs.Layout.{count}
use Rattle.volume.proofs.stream.count_sum.Goals as goal

pub loop-i-init : goal.loop-i-init
unfolding sum_to
loop-i-init c = (omega arith, refl)

pub loop-i-preserved : goal.loop-i-preserved
loop-i-preserved c =
    let l = c.loop-i in
    (omega arith, sum_more (count c.args.volume.now) l.i l.sum c.from-sum.result l.invariant.1 (c.from-sum.ensures ∙ c.count_at.ensures))

pub returns : goal.returns
returns c =
    let l = c.loop-i in
    let e : l.i ≡ c.args.n = omega arith in
    record {
      value = rw e at l.invariant.1;
      upper_bound = omega arith;
    }
