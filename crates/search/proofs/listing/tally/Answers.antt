use native.Mathlib.Omega.{arith}
use Prim.Native.Nat.{◌*◌}
use mathlib.Core.Path.{◌≡◌, ap}
use lib.ListN.{get_or}
use Rattle.plan.proofs.Laws.Accepted.{given}
use Rattle.matcher.specs.declared.cursor.Cursor.{Cursor}
use Rattle.matcher.specs.Inner.Cursors.{seek_from, no_cursor, ats_of, ends_of}
use Rattle.matcher.proofs.Laws.Cursors.{ats-at, ends-at}
use Rattle.search.proofs.Laws.Tally.{Turn, turn, tallied-first, tallied-next, tallied-done}
use Rattle.search.proofs.listing.tally.Goals as goal
use Rattle.search.proofs.listing.tally.Goals.{After-seek, In-loop-cursor}

-- what a turn knows of its variable
turned : (c : In-loop-cursor) → let cursor = get_or c.args.firsts.now c.loop-cursor.cursor-index no_cursor in
    Turn c.args.query.now.volume.bytes.now c.args.query.now.plan.now c.args.start c.args.doc c.loop-cursor.cursor-index cursor.at cursor.end
turned c =
    let a = c.args in
    let x = c.loop-cursor.cursor-index in
    let e = c.requires.firsts_len in
    rw (ats-at a.firsts.now x, ends-at a.firsts.now x) at
    (turn a.query.now.volume.bytes.now a.query.now.plan.now c.args.query.now.accepted a.start a.doc c.requires.start_le_doc (ats_of a.firsts.now) (ends_of a.firsts.now) c.requires.cursors x (omega arith))

-- where its cursor comes to
at-is : (c : After-seek) → let cursor = get_or c.args.firsts.now c.loop-cursor.cursor-index no_cursor in
    c.seek.result.at ≡ seek_from c.args.query.now.volume.bytes.now (c.args.doc * 65536) cursor.at cursor.end
at-is c = ap (λ (r : Cursor). r.at) c.seek.ensures.value

pub loop-cursor-init : goal.loop-cursor-init
loop-cursor-init c =
    let a = c.args in
    tallied-first a.query.now.volume.bytes.now a.query.now.plan.now a.start a.doc

pub seek-requires : goal.seek-requires
seek-requires c = (turned (goal.at.seek-requires c).In-loop-cursor).stretch

pub overflow_sub-sum : goal.overflow_sub-sum
overflow_sub-sum c =
    let t = turned (goal.at.overflow_sub-sum c).In-loop-cursor in
    let e = at-is (goal.at.overflow_sub-sum c).After-seek in
    omega arith

pub overflow_add-sum : goal.overflow_add-sum
overflow_add-sum c =
    let t = turned (goal.at.overflow_add-sum c).In-loop-cursor in
    let e = at-is (goal.at.overflow_add-sum c).After-seek in
    let g = (given _ _ c.args.query.now.accepted).most-vars in
    let n = c.requires.firsts_len in
    omega arith

pub loop-cursor-preserved : goal.loop-cursor-preserved
loop-cursor-preserved c =
    let l = c.loop-cursor in
    let a = c.args in
    let cursor = get_or a.firsts.now l.cursor-index no_cursor in
    let n = c.requires.firsts_len in
    tallied-next a.query.now.volume.bytes.now a.query.now.plan.now a.start a.doc cursor.at cursor.end l.sum l.cursor-index c.seek.result.at l.invariant (omega arith)
    (turned (goal.at.loop-cursor-preserved c).In-loop-cursor) (at-is (goal.at.loop-cursor-preserved c).After-seek)

pub overflow_cast-result : goal.overflow_cast-result
overflow_cast-result c =
    let g = (given _ _ c.args.query.now.accepted).most-vars in
    let n = c.requires.firsts_len in
    omega arith

pub returns : goal.returns
returns c =
    let l = c.loop-cursor in
    let a = c.args in
    let n = c.requires.firsts_len in
    tallied-done a.query.now.volume.bytes.now a.query.now.plan.now a.start a.doc l.sum l.cursor-index l.invariant (omega arith)
