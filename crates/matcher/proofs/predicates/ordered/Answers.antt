-- `predicates::ordered` meets its contract. Assumes nothing.
use Rattle.fulltext.proofs.Laws.Needs.{ordered-holds}
use Rattle.matcher.proofs.Laws.Shortfall.{ordered-second}
use Rattle.matcher.proofs.predicates.ordered.Goals as goal

pub returns-then-first-positions : goal.returns-then-first-positions
returns-then-first-positions c = let a = c.args in λ ss. ordered-holds ss a.positions.now a.a a.b c.if-first-positions.true

pub returns : goal.returns
returns c = let a = c.args in λ ss. ordered-second ss a.positions.now c.requires.in_document a.a a.b c.requires.a_in_bounds c.requires.b_in_bounds c.if-first-positions.false
