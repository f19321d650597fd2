use Prim.Native.Nat.{ℕ, ◌+◌}
use native.Mathlib.Nat.{add-zero}
use native.Mathlib.Omega.{arith}
use mathlib.Core.Path.{◌≡◌, refl, sym, ap, ◌∙◌}
use mathlib.Core.List.{List}
use lib.ListN.{set}
use Rattle.volume.specs.Layout.{word}
use Rattle.join.specs.Inner.Reading.{made}
use Rattle.join.proofs.Laws.Made.{made_none, made_more}
use Rattle.join.proofs.reading.copy_run.Goals as goal

pub loop-j-init : goal.loop-j-init
loop-j-init c =
    let a = c.args in
    rw (add-zero a.to) (sym (made_none _ a.from a.to a.words.now))

pub overflow_add-words : goal.overflow_add-words
overflow_add-words c =
    let l = c.loop-j in
    let h = c.requires.liftable.each l.j c.loop-j-test.true in
    let e = c.word_behind.ensures in
    omega arith

pub loop-j-preserved : goal.loop-j-preserved
loop-j-preserved c =
    let l = c.loop-j in
    let a = c.args in
    let f : ℕ → ℕ = λ i. word a.volume.now i + a.lift in
    let x = c.word_behind.result + a.lift in
    let next : a.to + l.j + 1 ≡ a.to + (l.j + 1) = omega arith in
    ap (λ (xs : List ℕ). set xs (a.to + l.j) x) l.invariant
    ∙ made_more f a.from a.to a.words.now l.j (a.to + l.j) x refl (omega arith) (ap (λ (y : ℕ). y + a.lift) c.word_behind.ensures)
    ∙ ap (λ (end : ℕ). made f a.from a.to end a.words.now) next

pub returns : goal.returns
returns c =
    let l = c.loop-j in
    let e : l.j ≡ c.args.n = omega arith in
    rw e at l.invariant
