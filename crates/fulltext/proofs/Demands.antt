-- Each statement of `specs/Demands.antt`, proved. Assumes nothing.
use Rattle.volume.specs.Layout.{lists_of}
use Rattle.fulltext.specs.Demands.{Demand2, ParaStartIs, SameparaIs, ProximityIs, OrderIs, MatchesFromIs}
use Rattle.fulltext.proofs.Laws.Positions.{lists-rise}
use Rattle.fulltext.proofs.Laws.Calculus.{agrees}
use Rattle.fulltext.proofs.Laws.Paragraphs.{para-starts}
use Rattle.fulltext.proofs.Laws.Needs.{sameparas, proximities}
use Rattle.fulltext.proofs.Laws.Order.{ordering}
use Rattle.fulltext.proofs.Laws.Enumeration.{enumerable}

pub demand2 : Demand2
unfolding Demand2
demand2 = agrees

pub para-start-is : ParaStartIs
unfolding ParaStartIs
para-start-is = para-starts

pub samepara-is : SameparaIs
unfolding SameparaIs
samepara-is = sameparas

pub proximity-is : ProximityIs
unfolding ProximityIs
proximity-is = proximities

pub order_is : OrderIs
unfolding OrderIs
order_is = ordering

pub matches-from-is : MatchesFromIs
unfolding MatchesFromIs
matches-from-is v a d f = enumerable (lists_of v) (lists-rise v a) d f
