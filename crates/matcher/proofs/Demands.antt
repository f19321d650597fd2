-- Each statement of `specs/Demands.antt`, proved. Assumes nothing.
use Rattle.matcher.specs.Demands.{TestRefuses, Demand2, OneToOne}
use Rattle.matcher.proofs.Laws.TestFirst.{test-first}
use Rattle.matcher.proofs.Laws.Tests.{test_iff}
use Rattle.matcher.proofs.Laws.Answers as answers

pub test-refuses : TestRefuses
unfolding TestRefuses
test-refuses = test-first

pub demand2 : Demand2
unfolding Demand2
demand2 = test_iff

pub one-to-one : OneToOne
one-to-one = answers.one-to-one
