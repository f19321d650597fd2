-- `predicates::distance` meets its contract: of the two, the earlier one is left short. Assumes nothing.
use native.Mathlib.Omega.{arith}
use mathlib.Core.Path.{◌≡◌}
use Rattle.fulltext.specs.Calculus.{at}
use Rattle.fulltext.proofs.Laws.Needs.{distance-holds}
use Rattle.matcher.proofs.Laws.Shortfall.{distance-first, distance-second}
use Rattle.matcher.proofs.predicates.distance.Goals as goal

pub returns-then-far-min : goal.returns-then-far-min
returns-then-far-min c =
    let a = c.args in
    let t = c.if-far-min.true in
    λ ss. distance-holds ss a.positions.now a.a a.b a.limit (omega arith) (omega arith)

pub returns-then-first-second : goal.returns-then-first-second
returns-then-first-second c =
    let a = c.args in
    let p = c.requires in
    let t = c.if-far-min.false in
    let far : c.max-far.result ≡ at a.positions.now a.b = omega arith in
    λ ss. rw far (distance-first ss a.positions.now p.in_document a.a a.b a.limit p.a_in_bounds p.b_in_bounds (omega arith))

pub returns-else-first-second : goal.returns-else-first-second
returns-else-first-second c =
    let a = c.args in
    let p = c.requires in
    let t = c.if-far-min.false in
    let far : c.max-far.result ≡ at a.positions.now a.a = omega arith in
    λ ss. rw far (distance-second ss a.positions.now p.in_document a.a a.b a.limit p.a_in_bounds p.b_in_bounds (omega arith))
