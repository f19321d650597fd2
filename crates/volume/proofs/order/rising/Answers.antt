use native.Mathlib.Omega.{arith}
use Prim.Native.Nat.{◌+◌, ◌-◌, ◌<◌}
use mathlib.Core.Path.{◌≡◌, sym, ◌∙◌}
use Rattle.volume.proofs.Laws.Falls.{falls_again, falls-done}
use Rattle.volume.proofs.order.rising.Goals as goal

pub loop-i-init : goal.loop-i-init
loop-i-init g c =
    let e : c.args.from + 1 - 1 ≡ c.args.from = omega arith in
    (omega arith, λ f value. rw e)

pub loop-i-preserved : goal.loop-i-preserved
loop-i-preserved g c =
    let l = c.loop-i in
    let here : l.i - 1 + 1 ≡ l.i = omega arith in
    let next : l.i + 1 - 1 ≡ l.i = omega arith in
    let before : l.i - 1 < c.args.end = omega arith in (
      omega arith,
      λ f value.
          let again = falls_again f l.falls (l.i - 1) c.args.end (omega arith) in
          rw (next, c.fall_of-falls.ensures.value, value _ _ before c.word.ensures, value _ _ c.loop-i-test.true c.word-in-loop-i.ensures)
          (sym (rw here at again) ∙ l.invariant.1 f value),
    )

pub returns : goal.returns
returns g c =
    let l = c.loop-i in
    λ f value. sym (falls-done f l.falls (l.i - 1) _ (omega arith)) ∙ l.invariant.1 f value
