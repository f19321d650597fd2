use native.Mathlib.Omega.{arith}
use Prim.Native.Nat.{◌+◌, ◌*◌, ◌/◌, ◌<◌, ◌≤◌}
use mathlib.Core.Path.{◌≡◌}
use lib.ListN.{length}
use Rattle.volume.specs.Layout.{list_count, count}
use Rattle.volume.proofs.Laws.Falls.{lists-first, lists-none, lists-some, lists-done}
use Rattle.volume.proofs.Laws.Check.{list-within}
use Rattle.volume.proofs.order.list_falls.Goals as goal
use Rattle.volume.proofs.order.list_falls.Goals.{After-count_at-size, else-size-gt0, then-size-gt0}

-- the list that is read ends inside the blocks
in_blocks : (c : After-count_at-size)
    → c.loop-i.end + c.count_at-size.result ≤ 126 * (length c.args.whole.now.bytes.now / 512)
in_blocks c =
    let l = c.loop-i in
    let v = c.args.whole.now.bytes.now in
    let here = l.invariant.1.here in
    let size : c.count_at-size.result ≡ count v l.i = c.count_at-size.ensures in
    let w = list-within v l.i (omega arith) in
    omega arith

pub loop-i-init : goal.loop-i-init
loop-i-init c = let p = c.requires.lists_value in (p, rw (c.lead-end.ensures, p) (lists-first _))

pub overflow_add-end : goal.overflow_add-end
overflow_add-end c = let w = in_blocks c in omega arith

pub fall_at-requires : goal.fall_at-requires
fall_at-requires c = let w = in_blocks (goal.at.fall_at-requires c).After-count_at-size in omega arith

pub overflow_add-n : goal.overflow_add-n
overflow_add-n c = let f = c.loop-i.invariant.1.few in omega arith

pub loop-i-preserved : goal.loop-i-preserved
loop-i-preserved c =
    let l = c.loop-i in
    let v = c.args.whole.now.bytes.now in
    let size : c.count_at-size.result ≡ count v l.i = c.count_at-size.ensures in
    let in-lists : l.i < list_count v = omega arith in (
      l.invariant.0,
      elim c.if-size-gt0.branch [ then-size-gt0 w ↦ rw w.n-is (lists-some v l.n l.end l.i c.count_at-size.result w.fall_at.result l.invariant.1 in-lists size w.if-size-gt0.true w.fall_at.ensures.upper_bound w.fall_at.ensures.value) | else-size-gt0 w ↦ rw w.n-is (lists-none v l.n l.end l.i c.count_at-size.result l.invariant.1 in-lists size w.if-size-gt0.false) ],
    )

pub returns : goal.returns
returns c =
    let l = c.loop-i in
    let r = l.invariant.1.reached in
    lists-done _ l.n l.end l.i l.invariant.1 (omega arith) (omega arith)
