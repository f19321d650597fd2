use native.Mathlib.Omega.{arith}
use Prim.Native.Nat.{ℕ, ◌+◌, ◌-◌, ◌<◌, ◌≤◌}
use mathlib.Core.Path.{◌≡◌, sym, ap, ◌∙◌}
use Rattle.seq.specs.Lists.{above, rises}
use Rattle.seq.specs.Numbers.{run}
use Rattle.seq.proofs.Laws.Rising.{rises-none, rises-start, above-next, above_stop, above-done}
use Rattle.volume.specs.Layout.{word}
use Rattle.volume.proofs.order.words_rise.Goals as goal

pub returns-then-n-eq0 : goal.returns-then-n-eq0
returns-then-n-eq0 c =
    let a = c.args in
    let w = word a.volume.now in
    sym (ap (λ (m : ℕ). rises (run w a.from m)) c.if-n-eq0.true ∙ rises-none w a.from)

pub loop-i-init : goal.loop-i-init
loop-i-init c =
    let a = c.args in
    let w = word a.volume.now in
    ap (λ (x : ℕ). above x (run w (a.from + 1) (a.from + a.n - (a.from + 1)))) c.word_at-last.ensures ∙ sym (rises-start w a.from a.n (omega arith))

pub returns-then-next-last : goal.returns-then-next-last
returns-then-next-last c =
    let l = c.loop-i in
    let a = c.args in
    let w = word a.volume.now in
    let next = c.word_at-next.ensures in
    let low : w l.i ≤ l.last = omega arith in
    sym (above_stop w l.last l.i (a.from + a.n) c.loop-i-test.true low) ∙ l.invariant

pub loop-i-preserved : goal.loop-i-preserved
loop-i-preserved c =
    let l = c.loop-i in
    let a = c.args in
    let w = word a.volume.now in
    let next = c.word_at-next.ensures in
    let up : l.last < w l.i = omega arith in
    ap (λ (x : ℕ). above x (run w (l.i + 1) (a.from + a.n - (l.i + 1)))) next ∙ sym (above-next w l.last l.i (a.from + a.n) c.loop-i-test.true up) ∙ l.invariant

pub returns : goal.returns
returns c =
    let l = c.loop-i in
    let a = c.args in
    sym (above-done (word a.volume.now) l.last l.i (a.from + a.n) c.loop-i-test.false) ∙ l.invariant
