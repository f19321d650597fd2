-- Each statement of `specs/Demands.antt`, proved. Assumes nothing.
use Rattle.line.specs.Demands.{ReadRefuses, Reads, OneToOne}
use Rattle.line.proofs.Laws.Whole.{read_call, read-answered}
use Rattle.line.proofs.Laws.Answers as answers

pub read-refuses : ReadRefuses
unfolding ReadRefuses
read-refuses = read_call

pub reads : Reads
unfolding Reads
reads = read-answered

pub one-to-one : OneToOne
one-to-one = answers.one-to-one
