-- `walk::settle` meets its contract: the pattern's parts of the buffers are lent, and come back settled. Assumes nothing.
use Prim.Native.Nat.{◌≤◌}
use native.Mathlib.Omega.{arith}
use mathlib.Core.Path.{refl}
use lib.ListN.{length}
use Rattle.matcher.specs.Inner.Cursors.{ats_of}
use Rattle.matcher.proofs.Laws.Cursors.{length-ats}
use Rattle.search.proofs.Laws.Lent.{lent_length, back-length, ats-lent, ends-lent, ats-back, ends-back}
use Rattle.search.proofs.Laws.Settled.{ready-within, ready-first, ready-order, ready-posed, ready-standing}
use Rattle.search.proofs.Laws.Settled.{settled-bare, settled-moved}
use Rattle.search.proofs.walk.settle.Goals as goal
use Rattle.search.proofs.walk.settle.Goals.{Else-outline}

pub returns-then-outline : goal.returns-then-outline
returns-then-outline c =
    record {
      settled = settled-bare _ _ _ _ _ _ _ _ c.requires.ready c.if-outline.true;
      ends_unchanged = refl;
      paras_len_unchanged = refl;
    }

-- the buffers reach the pattern's first variable
reach : (c : Else-outline) → let a = c.args in let first = a.outline.first in
    (first ≤ length a.orders.now) × ((first ≤ length a.cursors.now) × ((first ≤ length a.positions.now) × (first ≤ length a.paras.now)))
reach c =
    let r = ready-first _ _ _ _ _ _ _ _ c.requires.ready in
    let w = ready-within _ _ _ _ _ _ _ _ c.requires.ready in
    let e = length-ats c.args.cursors.now in
    (r.0, (omega arith, (r.1.1.1, omega arith)))

pub offset_bounds-orders-first : goal.offset_bounds-orders-first
offset_bounds-orders-first c = let r = reach (goal.at.offset_bounds-orders-first c).Else-outline in omega arith

pub slice_bounds-match_from-count : goal.slice_bounds-match_from-count
slice_bounds-match_from-count c = let r = reach (goal.at.slice_bounds-match_from-count c).Else-outline in omega arith

pub slice_bounds-match_from-start : goal.slice_bounds-match_from-start
slice_bounds-match_from-start c = let r = reach (goal.at.slice_bounds-match_from-start c).Else-outline in omega arith

pub offset_bounds-cursors-first : goal.offset_bounds-cursors-first
offset_bounds-cursors-first c = let r = reach (goal.at.offset_bounds-cursors-first c).Else-outline in omega arith

pub slice_bounds-match_from-count-2 : goal.slice_bounds-match_from-count-2
slice_bounds-match_from-count-2 c = let r = reach (goal.at.slice_bounds-match_from-count-2 c).Else-outline in omega arith

pub slice_bounds-match_from-start-2 : goal.slice_bounds-match_from-start-2
slice_bounds-match_from-start-2 c = let r = reach (goal.at.slice_bounds-match_from-start-2 c).Else-outline in omega arith

pub offset_bounds-positions-first : goal.offset_bounds-positions-first
offset_bounds-positions-first c = let r = reach (goal.at.offset_bounds-positions-first c).Else-outline in omega arith

pub slice_bounds-match_from-count-3 : goal.slice_bounds-match_from-count-3
slice_bounds-match_from-count-3 c = let r = reach (goal.at.slice_bounds-match_from-count-3 c).Else-outline in omega arith

pub slice_bounds-match_from-start-3 : goal.slice_bounds-match_from-start-3
slice_bounds-match_from-start-3 c = let r = reach (goal.at.slice_bounds-match_from-start-3 c).Else-outline in omega arith

pub offset_bounds-paras-first : goal.offset_bounds-paras-first
offset_bounds-paras-first c = let r = reach (goal.at.offset_bounds-paras-first c).Else-outline in omega arith

pub slice_bounds-match_from-count-4 : goal.slice_bounds-match_from-count-4
slice_bounds-match_from-count-4 c = let r = reach (goal.at.slice_bounds-match_from-count-4 c).Else-outline in omega arith

pub slice_bounds-match_from-start-4 : goal.slice_bounds-match_from-start-4
slice_bounds-match_from-start-4 c = let r = reach (goal.at.slice_bounds-match_from-start-4 c).Else-outline in omega arith

pub match_from-requires : goal.match_from-requires
match_from-requires c =
    let a = c.args in
    let ready = c.requires.ready in
    let first = a.outline.first in
    let w = ready-within _ _ _ _ _ _ _ _ ready in
    let n = ready.positions-room in
    let k = lent_length first a.positions.now in
    let j = lent_length first a.paras.now in record {
      posed = rw (ends-lent first a.cursors.now) (ready-posed _ _ _ _ _ _ _ _ ready);
      order = ready-order _ _ _ _ _ _ _ _ ready;
      positions_in_bounds = omega arith;
      standing = rw (ats-lent first a.cursors.now) (ready-standing _ _ _ _ _ _ _ _ ready);
      held_le_vars = omega arith;
      paras_in_bounds = omega arith;
    }

pub returns : goal.returns
returns c =
    let a = c.args in
    let first = a.outline.first in
    let e = c.match_from.ensures in
    let w = ready-within _ _ _ _ _ _ _ _ c.requires.ready in record {
      settled = rw (ats-back first a.cursors.now c.match_from.new.cursors)
          (settled-moved _ _ _ _ _ _ _ _ c.requires.ready c.match_from.result (ats_of c.match_from.new.cursors) c.match_from.new.positions
          e.held_match e.standing_2 (rw (ats-lent first a.cursors.now) at e.within) e.within_2);
      ends_unchanged = ends-back first a.cursors.now c.match_from.new.cursors e.ends_unchanged;
      paras_len_unchanged = back-length first a.paras.now c.match_from.new.paras (omega arith) e.paras_len_unchanged;
    }
