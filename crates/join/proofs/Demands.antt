-- Each statement of `specs/Demands.antt`, proved. Assumes nothing.
use Rattle.join.specs.Demands.{JoinRefuses, Joins, OneToOne}
use Rattle.join.proofs.Laws.JoinFirst.{join_call}
use Rattle.join.proofs.Laws.Joins.{joining}
use Rattle.join.proofs.Laws.Answers as answers

pub join-refuses : JoinRefuses
unfolding JoinRefuses
join-refuses = join_call

pub joins : Joins
unfolding Joins
joins h v w out bv bw n e = joining h v w out n e bv bw

pub one-to-one : OneToOne
one-to-one = answers.one-to-one
