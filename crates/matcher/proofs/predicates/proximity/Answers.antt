-- `predicates::proximity` meets its contract. Assumes nothing.
use native.Mathlib.Omega.{arith}
use mathlib.Core.Logic.{⊎_elim}
use Rattle.fulltext.proofs.Laws.Needs.{proximity-holds}
use Rattle.matcher.proofs.Laws.Shortfall.{proximity-alone, proximity-behind, proximity-second, proximity-first}
use Rattle.matcher.proofs.predicates.proximity.Goals as goal

pub returns-then-a-b : goal.returns-then-a-b
returns-then-a-b c =
    let a = c.args in
    λ ss.
    ⊎_elim
    (λ x. proximity-alone ss a.positions.now c.requires.in_document a.a a.b a.least a.most c.requires.a_in_bounds c.requires.b_in_bounds x)
    (λ x. proximity-behind ss a.positions.now c.requires.in_document a.a a.b a.least a.most c.requires.a_in_bounds c.requires.b_in_bounds (rw c.from.ensures at x.1)) c.then-a-b.either

pub returns-then-second-nearest : goal.returns-then-second-nearest
returns-then-second-nearest c =
    let a = c.args in
    λ ss. rw c.from.ensures (proximity-second ss a.positions.now c.requires.in_document a.a a.b a.least a.most c.requires.a_in_bounds c.requires.b_in_bounds (omega arith) (omega arith))

pub returns-then-first-span : goal.returns-then-first-span
returns-then-first-span c =
    let a = c.args in
    λ ss. rw c.from-span.ensures (proximity-first ss a.positions.now c.requires.in_document a.a a.b a.least a.most c.requires.a_in_bounds c.requires.b_in_bounds (omega arith))

pub returns : goal.returns
returns c =
    let a = c.args in
    λ ss. proximity-holds ss a.positions.now a.a a.b a.least a.most (omega arith) (omega arith)
