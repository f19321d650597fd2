-- `Query::open` meets its contract: a volume and a plan whose check answers are accepted, with the sizes that are told. Assumes nothing.
use mathlib.Core.Path.{sym, ap, ◌∙◌}
use Rattle.seq.specs.Refusals.{answered}
use Rattle.plan.proofs.Laws.Check.{verdict-sizes, volume-accepted}
use Rattle.plan.proofs.query.Query.open.Goals as goal

pub invariant_of-volume : goal.invariant_of-volume
invariant_of-volume c = record { accepted = volume-accepted c.args.volume.now c.args.plan.now _ (sym c.in_ok-sizes.ensures) }

pub invariant_of-result : goal.invariant_of-result
invariant_of-result c =
    let s = verdict-sizes c.args.volume.now c.args.plan.now _ (sym c.in_ok-sizes.ensures) in
    record { accepted = sym c.in_ok-sizes.ensures ∙ ap answered s; sizes_are = s }
