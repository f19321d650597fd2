-- `checking::check` meets its contract: the volume, then the plan over its lists. Assumes nothing.
use mathlib.Core.Path.{ap, ◌∙◌}
use Rattle.std.proofs.lemmas.Result.{err_from_is_err_and}
use Rattle.plan.specs.Check.{verdict_by, verdict}
use Rattle.plan.proofs.checking.check.Goals as goal

pub returns-in_err-sizes : goal.returns-in_err-sizes
unfolding verdict
returns-in_err-sizes c =
    let p = err_from_is_err_and c.from_residual.result c.from_residual.ensures.1 in
    rw (p.1, p.2) (ap (λ s. verdict_by s c.args.plan.now) c.in_err-sizes.ensures)

pub returns : goal.returns
unfolding verdict
returns c = c.check_plan.ensures ∙ ap (λ s. verdict_by s c.args.plan.now) c.in_ok-sizes.ensures
