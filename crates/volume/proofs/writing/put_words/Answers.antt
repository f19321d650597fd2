use native.Mathlib.Omega.{arith}
use Rattle.std.proofs.Common.{rules}
use mathlib.Core.Path.{◌≡◌}
use Rattle.volume.proofs.Laws.Storing.{filling-first, filling_again, filling-done}
use Rattle.volume.proofs.writing.put_words.Goals as goal

pub loop-j-init : goal.loop-j-init
loop-j-init g c = λ f from value. filling-first f from _ (search rules)

pub loop-j-preserved : goal.loop-j-preserved
loop-j-preserved g c =
    let l = c.loop-j in
    let p = c.put32 in
    λ f from value. filling_again f from _ l.out p.new.out l.j _ (l.invariant f from value) (omega arith) (value _ _ (omega arith) c.word.ensures) p.auto.out p.ensures

pub loop-j-2-init : goal.loop-j-2-init
loop-j-2-init g c =
    let e : c.loop-j.j ≡ 6 = omega arith in
    λ f from value. rw e at (c.loop-j.invariant f from value)

pub loop-j-2-preserved : goal.loop-j-2-preserved
loop-j-2-preserved g c =
    let l = c.loop-j-2 in
    let p = c.put32-in-loop-j-2 in
    λ f from value. filling_again f from _ l.out p.new.out l.j _ (l.invariant f from value) (omega arith) (value _ _ (omega arith) c.word-in-loop-j-2.ensures) p.auto.out p.ensures

pub returns : goal.returns
returns g c =
    let l = c.loop-j-2 in
    λ f from value. filling-done f from _ _ l.j (l.invariant f from value) c.loop-j-2-test.false
