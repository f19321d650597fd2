-- The loop's invariant: `sum` is the postings of the variables in front (`Tallied`).
use Rattle.search.proofs.Laws.Tally.{Tallied}
use Rattle.search.proofs.listing.tally.Given as goal

abbrev pub invariant-loop-cursor : goal.invariant-loop-cursor
invariant-loop-cursor l = Tallied l.query.volume.bytes.now l.query.plan.now l.start l.doc l.sum l.cursor-index
