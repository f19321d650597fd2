-- Each statement of `specs/Demands.antt`, proved. Assumes nothing.
use Rattle.printer.specs.Demands.{WriteRefuses, RoundTrips, OneToOne}
use Rattle.printer.proofs.Laws.WriteFirst.{write_call}
use Rattle.printer.proofs.Laws.There.{plan-there}
use Rattle.printer.proofs.Laws.Answers as answers

pub write-refuses : WriteRefuses
unfolding WriteRefuses
write-refuses = write_call

pub round_trips : RoundTrips
unfolding RoundTrips
round_trips = plan-there

pub one-to-one : OneToOne
one-to-one = answers.one-to-one
