-- `showing::pattern_span` meets its contract: nowhere on a refusal, or the span of the pattern. Assumes nothing.
use native.Mathlib.Omega.{arith}
use mathlib.Core.Path.{sym, ap, ◌∙◌}
use Rattle.seq.specs.Refusals.{answered}
use Rattle.plan.specs.Answers.{Sizes, said_checked}
use Rattle.plan.proofs.Laws.Check.{verdict-sizes}
use Rattle.plan.proofs.Laws.Shown.{span-refused, span-missing, span-there}
use Rattle.plan.proofs.showing.pattern_span.Goals as goal

pub span_at-requires : goal.span_at-requires
span_at-requires c =
    let a = c.args in
    let v = a.volume.now in
    let p = a.plan.now in
    let e = sym (sym (ap said_checked c.in-Ok.is) ∙ c.check.ensures) in
    let same = ap (λ (s : Sizes). s.patterns) (verdict-sizes v p _ e) in
    record {
      by_index = (v, e ∙ ap answered (verdict-sizes v p _ e));
      pattern_bound = omega arith;
    }

pub returns-in-Ok : goal.returns-in-Ok
returns-in-Ok c =
    let e = sym (sym (ap said_checked c.in-Ok.is) ∙ c.check.ensures) in
    c.span_at.ensures ∙ sym (span-there _ _ _ _ e c.if-pattern-sizes.true)

pub returns-in_default : goal.returns-in_default
returns-in_default c =
    let e = sym (sym (ap said_checked c.in-Ok.is) ∙ c.check.ensures) in
    sym (span-missing _ _ _ _ e c.if-pattern-sizes.false)

pub returns-in_default-2 : goal.returns-in_default-2
returns-in_default-2 c = sym (span-refused _ _ _ _ _ (sym (sym (ap said_checked c.in_default.is) ∙ c.check.ensures)))
