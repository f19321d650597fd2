use Prim.Native.Nat.{ℕ, ◌+◌, ◌*◌, ◌/◌, ◌<◌, ◌≤◌}
use native.Mathlib.Omega.{arith}
use mathlib.Core.Path.{◌≡◌}
use mathlib.Core.List.{List}
use lib.ListN.{length, get_or, length-set}
use Rattle.volume.specs.Layout.{stream_length}
use Rattle.volume.specs.Check.{Accepted}
use Rattle.matcher.specs.declared.cursor.Document.{Document}
use Rattle.matcher.specs.Inner.Cursors.{seek_from, AtDocument}
use Rattle.matcher.proofs.Laws.Cursors.{seek-le}
use Rattle.matcher.proofs.Laws.Starts.{stands-stretch}
use Rattle.search.proofs.Laws.Rows.{pairing-first, pairing-next, pairing-done}
use Rattle.search.proofs.rows.write_pairs.Goals as goal
use Rattle.search.proofs.rows.write_pairs.Goals.{In-loop-x}

-- the block of a sought start begins within the stream
block_within : (v : List ℕ) (document : Document) → Accepted v → AtDocument v document → (target block : ℕ)
    → block ≡ seek_from v target document.starts.at document.starts.end / 126 → 126 * block ≤ stream_length v
block_within v document ok placed target block e =
    let s = stands-stretch ok placed in
    let l = seek-le v target document.starts.at document.starts.end s.order in
    let w = s.within in
    omega arith

-- the buffer reaches the pair of position x
reach : (c : In-loop-x) → c.args.to + 2 * c.loop-x.x + 1 < length c.loop-x.out
reach c =
    let words = c.requires.positions_in_bounds in
    let t = c.loop-x-test.true in
    let w = c.loop-x.invariant.0.stored.same_length in
    omega arith

pub loop-x-init : goal.loop-x-init
loop-x-init c =
    let a = c.args in
    (pairing-first _ _ a.out.now a.to, c.requires.block_bound)

pub offset_bounds-positions-x : goal.offset_bounds-positions-x
offset_bounds-positions-x c = let t = c.loop-x-test.true in omega arith

pub bounds-positions-x : goal.bounds-positions-x
bounds-positions-x c = c.loop-x-test.true

pub para_near-para-requires : goal.para_near-para-requires
para_near-para-requires c =
    let p = c.requires in
    record {
      pos_bound = p.in_document c.loop-x.x c.loop-x-test.true;
      whole = p.whole;
      block_bound = c.loop-x.invariant.1;
    }

pub bounds-out-to : goal.bounds-out-to
bounds-out-to c = let r = reach (goal.at.bounds-out-to c).In-loop-x in omega arith

pub overflow_mul-out : goal.overflow_mul-out
overflow_mul-out c = let r = reach (goal.at.overflow_mul-out c).In-loop-x in omega arith

pub bounds-out-to-in-loop-x : goal.bounds-out-to-in-loop-x
bounds-out-to-in-loop-x c =
    let r = reach (goal.at.bounds-out-to-in-loop-x c).In-loop-x in
    let n = length-set c.loop-x.out (c.args.to + 2 * c.loop-x.x) (get_or c.args.positions.now c.loop-x.x 0) in
    omega arith

pub loop-x-preserved : goal.loop-x-preserved
loop-x-preserved c =
    let l = c.loop-x in
    let p = c.requires in
    let o = c.args.opened.now in
    let n = c.para_near-para in (
      pairing-next _ _ _ _ l.out l.x l.invariant.0 c.loop-x-test.true p.positions_in_bounds n.result.start
          n.ensures.start_value,
      block_within _ _ o.volume.accepted o.at_document _ n.result.block n.ensures.block_value,
    )

pub shape_of-out : goal.shape_of-out
shape_of-out c = c.loop-x.invariant.0.stored.same_length

pub returns : goal.returns
returns c =
    let l = c.loop-x in
    record {
      out_after = pairing-done _ _ _ _ l.out l.x l.invariant.0 c.loop-x-test.false;
      result_bound = l.invariant.1;
    }
