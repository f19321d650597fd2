-- Each statement of `specs/Demands.antt`, proved. Assumes nothing.
use Rattle.lihambozy.specs.Demands.{Demand3, Enumerates, Typed, DoubleBill}
use Rattle.lihambozy.proofs.Laws.Search.{holds3}
use Rattle.lihambozy.proofs.Laws.Typed.{typed_search}
use Rattle.lihambozy.proofs.Laws.Matches.{every_enumeration}
use Rattle.lihambozy.proofs.Laws.Evening.{evening}

pub demand3 : Demand3
unfolding Demand3
demand3 = holds3

pub enumerates : Enumerates
unfolding Enumerates
enumerates = every_enumeration

pub typed : Typed
unfolding Typed
typed = typed_search

pub double_bill : DoubleBill
unfolding DoubleBill
double_bill = evening
