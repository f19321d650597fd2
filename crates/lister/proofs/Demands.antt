-- Each statement of `specs/Demands.antt`, proved. Assumes nothing.
use Rattle.lister.specs.Demands.{Whole, Seen, Cases}
use Rattle.lister.proofs.Laws.Whole as laws
use Rattle.lister.proofs.Laws.Cases.{starred}

pub whole : Whole
unfolding Whole
whole = laws.whole

pub seen : Seen
unfolding Seen
seen = laws.seen

pub cases : Cases
cases = starred
