-- `checking::check_plan` meets its contract: the length, then the rows. Assumes nothing.
use native.Mathlib.Omega.{arith}
use mathlib.Core.Path.{sym, ◌∙◌}
use mathlib.Core.Logic.{◌≢◌}
use lib.ListN.{length}
use Rattle.plan.specs.Refusals.{WrongLength}
use Rattle.plan.proofs.Laws.Check.{plan-length, plan-rows}
use Rattle.plan.proofs.checking.check_plan.Goals as goal

pub returns-then-is_empty : goal.returns-then-is_empty
returns-then-is_empty c = let e : WrongLength c.args.plan.now = grind arith in sym (plan-length _ _ e)

pub returns : goal.returns
returns c =
    let some : length c.args.plan.now ≢ 0 = grind arith in
    c.check_rows.ensures ∙ sym (plan-rows _ _ some c.if-plan-ne0.false (omega arith))
