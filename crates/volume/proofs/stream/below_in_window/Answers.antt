use native.Mathlib.Omega.{arith}
use Prim.Native.Nat.{ℕ, ◌+◌, ◌%◌, ◌<◌}
use mathlib.Core.Path.{◌≡◌, refl, sym, ap, ◌∙◌}
use Rattle.seq.specs.Numbers.{sum_to}
use Rattle.seq.proofs.Laws.Numbers.{sum_more}
use Rattle.volume.specs.Layout.{word}
use Rattle.volume.specs.Inner.Below.{below_of}
use lib.Dec.{ltb}
use Rattle.volume.proofs.Laws.Truth.{as_number, at_most_one}
use Rattle.volume.proofs.Laws.Stream.{word-near}
use Rattle.volume.proofs.stream.below_in_window.Goals as goal

pub loop-j-init : goal.loop-j-init
unfolding sum_to
loop-j-init c = (omega arith, refl)

pub loop-j-preserved : goal.loop-j-preserved
loop-j-preserved c =
    let l = c.loop-j in
    let a = c.args in
    let v = a.volume.now in
    let near : a.i % 126 + l.j < 126 = omega arith in
    let one = at_most_one (ltb c.from.result a.target) in
    let n = c.from-n.ensures in (
      omega arith,
      sum_more (λ (j : ℕ). below_of (word v (a.i + j)) a.target) l.j l.n c.from-n.result l.invariant.1
          (n ∙ as_number _ ∙ ap (λ (x : ℕ). below_of x a.target) (c.from.ensures ∙ c.read32.ensures ∙ sym (word-near v a.i l.j near))),
    )

pub returns : goal.returns
returns c =
    let l = c.loop-j in
    let e : l.j ≡ 7 = omega arith in
    record {
      value = rw e at l.invariant.1;
      upper_bound = omega arith;
    }
