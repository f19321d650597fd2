use Prim.Native.Nat.{◌<◌, ◌≤◌}
use native.Mathlib.Omega.{arith}
use mathlib.Core.Path.{◌≡◌}
use mathlib.Core.Logic.{⊎_elim}
use lib.ListN.{length}
use lib.Seq.{get_or-take, length-take-le}
use Rattle.seq.proofs.Laws.Tests.{below_or}
use Rattle.matcher.proofs.Laws.Shortfall.{window-short, window-few, window-kept}
use Rattle.matcher.proofs.predicates.window.Goals as goal

pub returns-then-largest-limit : goal.returns-then-largest-limit
returns-then-largest-limit c =
    let a = c.args in
    λ ss. window-few ss a.positions.now c.requires.in_document a.order.now c.requires.order a.largest a.limit c.requires.largest c.requires.le_limit c.if-largest-limit.true

pub returns-then-positions-x : goal.returns-then-positions-x
returns-then-positions-x c =
    let a = c.args in
    let l = c.loop-x in
    let r = c.requires in
    let n = length-take-le _ a.order.now r.order.room in
    let e = get_or-take (length a.positions.now) a.order.now l.x-index 0 (let t = c.loop-x-test.true in omega arith) in
    let b = r.order.below l.x-index (let t = c.loop-x-test.true in omega arith) in
    λ ss. window-short ss a.positions.now r.in_document a.order.now r.order a.largest a.limit r.largest _ (rw e b) c.if-positions-x.true c.if-largest-limit.false

pub loop-x-preserved : goal.loop-x-preserved
loop-x-preserved c =
    let a = c.args in
    let l = c.loop-x in
    let n = length-take-le _ a.order.now c.requires.order.room in
    let e = get_or-take (length a.positions.now) a.order.now l.x-index 0 (let t = c.loop-x-test.true in omega arith) in
    λ t h. ⊎_elim
    (λ (k : t < l.x-index). l.invariant t k)
    (λ (k : l.x-index ≤ t). let d : t ≡ l.x-index = omega arith in rw (d, ← e) c.if-positions-x.false)
    (below_or t l.x-index)

pub returns : goal.returns
returns c =
    let a = c.args in
    let e = length-take-le _ a.order.now c.requires.order.room in
    λ ss. window-kept ss a.positions.now c.requires.in_document a.order.now c.requires.order a.largest a.limit c.requires.largest c.if-largest-limit.false
    (λ i h. c.loop-x.invariant i (let t = c.loop-x-test.false in omega arith))
