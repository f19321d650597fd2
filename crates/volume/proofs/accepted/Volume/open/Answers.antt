-- `Volume::open` meets its contract: a volume whose check answers is accepted. Assumes nothing.
use mathlib.Core.Path.{sym}
use Rattle.volume.proofs.Laws.Check.{accepted_by}
use Rattle.volume.proofs.accepted.Volume.open.Goals as goal

pub invariant_of-result : goal.invariant_of-result
invariant_of-result c = record { accepted = accepted_by c.args.bytes.now _ (sym c.in_ok-check.ensures) }
