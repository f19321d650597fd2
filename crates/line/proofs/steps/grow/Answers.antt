-- `steps::grow` meets its contract: a law of `Laws/States.antt` for each way through it. Assumes nothing.
use native.Mathlib.Omega.{arith}
use mathlib.Core.Path.{◌≡◌, refl, sym, ap, ◌∙◌}
use mathlib.Core.Bool.{true, false}
use borrow.Author.Tests.{lt-ltb}
use Rattle.std.proofs.Common.{ℕ, ◌<◌, Option, Some}
use Rattle.grammar.specs.Reading.{may_grow, grown}
use Rattle.line.proofs.Laws.States.{grow-no_digit, grow-zero, grow-over, grow-digit}
use Rattle.line.proofs.steps.grow.Goals as goal
use Rattle.line.proofs.steps.grow.Goals.{in-None, in-Some, Joined-number}

-- a zero may not grow
may-not : (x : Option ℕ) → x ≡ Some 0 → may_grow x ≡ false
may-not x e = rw e refl

-- the number may grow, and this is what it grows to
grows-to : (c : Joined-number) → (may_grow c.args.number ≡ true) × (c.match-number.value ≡ grown c.args.number c.args.byte)
grows-to c = elim c.match-number.branch [
  | in-None w ↦ rw w.in-None.is (refl, let e = w.value-is in let f = c.from-digit.ensures in omega arith)
  | in-Some w ↦
      let n = rw w.in-Some.is at w.in-Some.front-test.1 in
      let some : 0 < w.in-Some.front = omega arith in
      rw w.in-Some.is (lt-ltb 0 w.in-Some.front some, let e = w.value-is in let f = c.from-digit.ensures in omega arith)
]

pub returns-then-not-is_ascii_digit : goal.returns-then-not-is_ascii_digit
returns-then-not-is_ascii_digit c =
    let a = c.args in
    sym (grow-no_digit a.most a.number a.byte (sym c.is_ascii_digit.ensures.value ∙ c.if-not-is_ascii_digit.true))

pub returns-in-Some-eq0 : goal.returns-in-Some-eq0
returns-in-Some-eq0 c =
    let a = c.args in
    sym (grow-zero a.most a.number a.byte (may-not a.number (c.in-Some-eq0.is ∙ ap Some (sym c.in-Some-eq0.field-0-is ∙ c.in-Some-eq0.field-0-test))))

pub returns-then-most-value : goal.returns-then-most-value
returns-then-most-value c =
    let a = c.args in
    let d = sym c.is_ascii_digit.ensures.value ∙ c.if-not-is_ascii_digit.false in
    let g = grows-to (goal.at.returns-then-most-value c).Joined-number in
    sym (grow-over a.most a.number a.byte c.match-number.value d g.0 g.1 c.if-most-value.true)

pub returns : goal.returns
returns c =
    let a = c.args in
    let d = sym c.is_ascii_digit.ensures.value ∙ c.if-not-is_ascii_digit.false in
    let g = grows-to (goal.at.returns c).Joined-number in
    sym (grow-digit a.most a.number a.byte c.match-number.value d g.0 g.1 c.if-most-value.false)
