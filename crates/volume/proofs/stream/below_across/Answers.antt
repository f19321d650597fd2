use native.Mathlib.Omega.{arith}
use native.Mathlib.Nat.{zero-add}
use Prim.Native.Nat.{ℕ, ◌+◌, ◌-◌}
use mathlib.Core.Path.{◌≡◌, refl, ap, ◌∙◌}
use mathlib.Core.List.{List}
use Rattle.seq.specs.Numbers.{sum_to}
use Rattle.seq.proofs.Laws.Numbers.{sum_step}
use Rattle.volume.specs.Layout.{word}
use Rattle.volume.specs.Inner.Below.{below_of, below_count}
use lib.Dec.{ltb}
use Rattle.volume.proofs.Laws.Truth.{as_number, at_most_one}
use Rattle.volume.proofs.stream.below_across.Goals as goal

pub loop-behind-init : goal.loop-behind-init
loop-behind-init c = (omega arith, rw zero-add)

pub loop-behind-preserved : goal.loop-behind-preserved
loop-behind-preserved c =
    let l = c.loop-behind in
    let a = c.args in
    let v = a.volume.now in
    let small = at_most_one (ltb c.from.result a.target) in
    let n = c.from-n.ensures in
    let place : a.i + 6 - l.behind ≡ a.i + (6 - l.behind) = omega arith in
    let one = n ∙ as_number _ ∙ ap (λ (x : ℕ). below_of x a.target) (c.from.ensures ∙ c.word_at.ensures ∙ ap (word v) place) in
    let step = sum_step (λ (j : ℕ). below_of (word v (a.i + j)) a.target) (6 - l.behind) in
    let here : 6 - l.behind + 1 ≡ 7 - l.behind = omega arith in
    let next : 7 - (l.behind + 1) ≡ 6 - l.behind = omega arith in
    let whole = rw here at step in
    (omega arith, rw next (omega (arith, one, whole, l.invariant.1)))

none_below : (v : List ℕ) (target i : ℕ) → below_count v target i 0 ≡ 0
unfolding sum_to
none_below v target i = refl

pub returns : goal.returns
returns c =
    let l = c.loop-behind in
    let a = c.args in
    let none = none_below a.volume.now a.target a.i in
    let e : 7 - l.behind ≡ 0 = omega arith in
    let all = rw e at l.invariant.1 in
    record {
      value = omega (arith, all, none);
      upper_bound = omega arith;
    }
