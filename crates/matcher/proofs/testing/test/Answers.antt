-- `testing::test` meets its contract: the verdict first, then the number of the pattern. Assumes nothing.
use native.Mathlib.Omega.{arith}
use mathlib.Core.Path.{sym, ap}
use Rattle.std.proofs.lemmas.Result.{err_from_is_err_and}
use Rattle.plan.specs.declared.answers.Sizes.{Sizes}
use Rattle.plan.specs.Check.{sizes}
use Rattle.matcher.proofs.Laws.Testing.{test-refused, test-missing}
use Rattle.matcher.proofs.testing.test.Goals as goal

pub returns-then-query-pattern : goal.returns-then-query-pattern
returns-then-query-pattern c =
    let a = c.args in
    let q = c.in_ok-query.query in
    let e = c.in_ok-query.ensures in
    let n = ap (λ (s : Sizes). s.patterns) q.sizes_are in
    rw (← e.volume, ← e.plan)
    (sym (test-missing q.volume.bytes.now q.plan.now a.pattern a.doc a.positions.now (sizes q.plan.now) q.accepted (omega arith)))

pub returns-in_err-query : goal.returns-in_err-query
returns-in_err-query c =
    let a = c.args in
    let p = err_from_is_err_and c.from_residual.result c.from_residual.ensures.1 in
    rw (p.1, p.2) (sym (test-refused a.volume.now a.plan.now a.pattern a.doc a.positions.now _ _ (sym c.in_err-query.ensures.err)))

pub returns : goal.returns
returns c = let e = c.in_ok-query.ensures in rw (← e.volume, ← e.plan) c.test_pattern.ensures
