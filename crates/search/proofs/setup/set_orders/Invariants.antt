-- `setup::set_orders` meets its contract. The invariant of the loop: the variables of the patterns in front are in order (`Ranking`). Assumes
-- nothing.
use lib.ListN.{length}
use Rattle.search.proofs.Laws.Orders.{Ranking}
use Rattle.search.proofs.setup.set_orders.Given as goal

abbrev pub invariant-loop-outline : goal.invariant-loop-outline
invariant-loop-outline l = Ranking l.query.volume.bytes.now l.query.plan.now (length l.initial.orders) l.orders l.outline-index
