-- `figure::figure` meets its contract. The invariant of its loop: the pattern has been read up to `at`, the state follows it and its whole
-- rows are stored (`Within`). Assumes nothing.
use Rattle.line.proofs.Laws.Figure.{Within}
use Rattle.line.proofs.figure.figure.Given as goal

abbrev pub invariant-loop-at : goal.invariant-loop-at
invariant-loop-at l = Within l.text l.from l.first l.initial.out l.at l.state l.rows l.out
