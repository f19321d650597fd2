-- Each statement of `specs/Demands.antt`, proved. Assumes nothing.
use mathlib.Core.Path.{refl}
use Rattle.seq.specs.Calls.{plain}
use Rattle.search.specs.Demands.{ListRefuses, Demand3, OneToOne}
use Rattle.search.proofs.Laws.ListFirst.{list_call}
use Rattle.search.proofs.Laws.Whole.{holds3}
use Rattle.search.proofs.Laws.Answers as answers

pub list-refuses : ListRefuses
unfolding ListRefuses
list-refuses = list_call

pub demand3 : Demand3
unfolding Demand3
demand3 v p ok = holds3 plain v p ok (λ s out. refl)

pub one-to-one : OneToOne
one-to-one = answers.one-to-one
