-- The verdict first, then the start and the buffer.
use native.Mathlib.Omega.{arith}
use mathlib.Core.Path.{sym, ap}
use Rattle.plan.specs.declared.answers.Sizes.{Sizes}
use Rattle.std.proofs.lemmas.Result.{err_from_is_err_and}
use Rattle.search.proofs.Laws.Listing.{refused-kept, start-kept, short-kept}
use Rattle.search.proofs.Laws.Seen.{work-words}
use Rattle.search.proofs.listing.list.Goals as goal

pub returns-then-start-gt-LAST_DOC : goal.returns-then-start-gt-LAST_DOC
returns-then-start-gt-LAST_DOC c =
    let q = c.in_ok-query.query in
    let e = c.in_ok-query.ensures in
    rw (← e.volume, ← e.plan) (start-kept _ _ _ _ _ q.accepted c.if-start-gt-LAST_DOC.true)

pub returns-then-out-row_words : goal.returns-then-out-row_words
returns-then-out-row_words c =
    let q = c.in_ok-query.query in
    let e = c.in_ok-query.ensures in
    let f = ap (λ (s : Sizes). s.patterns) q.sizes_are in
    let g = ap (λ (s : Sizes). s.vars) q.sizes_are in
    let w = work-words q.volume.bytes.now q.plan.now in
    let r = c.row_words.ensures in
    rw (← e.volume, ← e.plan) (short-kept _ _ _ c.args.out.now _ q.accepted c.if-start-gt-LAST_DOC.false (omega arith))

pub returns-in_err-query : goal.returns-in_err-query
returns-in_err-query c =
    let p = err_from_is_err_and c.from_residual.result c.from_residual.ensures.1 in
    rw (p.1, p.2) (refused-kept _ _ _ _ _ _ (sym c.in_err-query.ensures.err))

pub returns : goal.returns
returns c = let e = c.in_ok-query.ensures in rw (← e.volume, ← e.plan) c.list_from.ensures
