-- The verdict first, then the number of the pattern.
use native.Mathlib.Omega.{arith}
use mathlib.Core.Path.{sym, ap}
use Rattle.std.proofs.lemmas.Result.{err_from_is_err_and}
use Rattle.plan.specs.declared.answers.Sizes.{Sizes}
use Rattle.plan.specs.Check.{sizes}
use Rattle.matcher.proofs.Laws.Range.{range-missing}
use Rattle.enumeration.proofs.Laws.Enumerating.{matched-refused, matched_17, told-refused}
use Rattle.enumeration.proofs.enumerate.matches.Goals as goal

pub returns-then-query-pattern : goal.returns-then-query-pattern
returns-then-query-pattern c =
    let a = c.args in
    let q = c.in_ok-query.query in
    let e = c.in_ok-query.ensures in
    let n = ap (λ (s : Sizes). s.patterns) q.sizes_are in
    rw (← e.volume, ← e.plan)
    (told-refused q.volume.bytes.now q.plan.now a.pattern a.doc a.from.now a.out.now 17 0
    (matched_17 _ _ _ _ _ _ (sizes q.plan.now) q.accepted (range-missing _ _ _ _ _ (omega arith))))

pub returns-in_err-query : goal.returns-in_err-query
returns-in_err-query c =
    let a = c.args in
    let p = err_from_is_err_and c.from_residual.result c.from_residual.ensures.1 in
    rw (p.1, p.2) (told-refused a.volume.now a.plan.now a.pattern a.doc a.from.now a.out.now _ _ (matched-refused _ _ _ _ _ _ _ _ (sym c.in_err-query.ensures.err)))

pub returns : goal.returns
returns c = let e = c.in_ok-query.ensures in rw (← e.volume, ← e.plan) c.matches_of.ensures
