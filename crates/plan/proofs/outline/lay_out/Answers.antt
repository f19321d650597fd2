use native.Mathlib.Omega.{arith}
use mathlib.Core.Bool.{not}
use Rattle.std.proofs.Common.{rules}
use lib.ListN.{length}
use Rattle.plan.specs.Rows.{is_voice}
use Rattle.plan.proofs.Laws.Accepted.{given}
use Rattle.plan.proofs.Laws.Outline.{vars-within, Spanned, spanned, laid-first, laid_next, laid_done}
use Rattle.plan.proofs.outline.lay_out.Goals as goal
use Rattle.plan.proofs.outline.lay_out.Goals.{After-first_of-condition}

-- the rows of a pattern, as a turn finds them
turn : (c : After-first_of-condition) →
    Spanned c.args.plan.now c.loop-pattern.pattern c.span_at-span.result.start c.span_at-span.result.len c.first_of-condition.result
turn c =
    spanned _ _ c.requires.by_index.1 c.loop-pattern.pattern (omega arith) c.span_at-span.result c.first_of-condition.result c.span_at-span.ensures (c.first_of-condition.ensures (λ k. not (is_voice k)) (λ kind held h. search rules))

pub loop-pattern-init : goal.loop-pattern-init
loop-pattern-init c = laid-first c.args.plan.now c.args.table.now

pub overflow_sub-vars : goal.overflow_sub-vars
overflow_sub-vars c =
    let s = turn c in
    omega arith

pub overflow_add-first : goal.overflow_add-first
overflow_add-first c =
    let s = turn (goal.at.overflow_add-first c).After-first_of-condition in
    let w = vars-within c.args.plan.now c.loop-pattern.pattern (omega arith) in
    let m = (given _ _ c.requires.by_index.1).most-vars in
    omega arith

pub loop-pattern-preserved : goal.loop-pattern-preserved
loop-pattern-preserved c =
    let l = c.loop-pattern in
    let s = c.span_at-span.result in
    laid_next c.requires.by_index.0 c.args.plan.now c.requires.by_index.1 (length c.args.table.now) l.table l.first l.pattern s.start s.len c.first_of-condition.result l.invariant (omega arith) (omega arith) (turn (goal.at.loop-pattern-preserved c).After-first_of-condition)

pub returns : goal.returns
returns c =
    let l = c.loop-pattern in
    let a = c.args in
    laid_done a.plan.now (length a.table.now) l.table l.first l.pattern l.invariant (omega arith)
