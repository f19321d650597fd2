-- `testing::cursor_at` meets its contract: the posting that is reached is that of the position, or the list does not hold it. Assumes nothing.
use mathlib.Core.Path.{sym, ap, ◌∙◌}
use Prim.Native.Nat.{◌+◌, ◌*◌}
use Rattle.volume.specs.declared.posting.Posting.{Posting}
use Rattle.matcher.specs.Inner.Cursors.{Arrived}
use Rattle.matcher.proofs.Laws.Testing.{list-before, found-none, found-there, found-not}
use Rattle.matcher.proofs.testing.cursor_at.Goals as goal
use Rattle.matcher.proofs.testing.cursor_at.Goals.{After-advance-reached}

pub advance-reached-requires : goal.advance-reached-requires
advance-reached-requires c =
    list-before c.args.volume.now.bytes.now c.args.volume.now.accepted c.args.list c.requires.list_bound _ c.list_cursor-first.ensures

-- the bound is that of the position
arrived : (c : After-advance-reached)
    →
    Arrived c.args.volume.now.bytes.now (c.args.doc * 65536 + c.args.pos) c.list_cursor-first.result.at c.list_cursor-first.result.end c.advance-reached.result
arrived c = rw (c.from.ensures ∙ ap (λ (q : Posting). q.bits) c.new-sought.ensures) at c.advance-reached.ensures

pub returns-in_err-posting : goal.returns-in_err-posting
returns-in_err-posting c =
    let a = c.args in
    let r = c.requires in
    rw c.from_residual.ensures
    (found-none a.volume.now.bytes.now a.volume.now.accepted a.list r.list_bound _ c.list_cursor-first.ensures a.doc a.pos _ r.pos_bound (arrived (goal.at.returns-in_err-posting c).After-advance-reached) c.in_err-posting.was)

pub returns-then-posting-sought : goal.returns-then-posting-sought
returns-then-posting-sought c =
    let a = c.args in
    let r = c.requires in
    found-there a.volume.now.bytes.now a.volume.now.accepted a.list r.list_bound _ c.list_cursor-first.ensures a.doc a.pos _ r.pos_bound (arrived (goal.at.returns-then-posting-sought c).After-advance-reached) _ c.in_ok-posting.was
    (c.if-posting-sought.true ∙ ap (λ (q : Posting). q.bits) c.new-sought.ensures)

pub returns : goal.returns
returns c =
    let a = c.args in
    let r = c.requires in
    found-not a.volume.now.bytes.now a.volume.now.accepted a.list r.list_bound _ c.list_cursor-first.ensures a.doc a.pos _ r.pos_bound (arrived (goal.at.returns c).After-advance-reached) _ c.in_ok-posting.was (λ q. c.if-posting-sought.false (q ∙ sym (ap (λ (p : Posting). p.bits) c.new-sought.ensures)))
