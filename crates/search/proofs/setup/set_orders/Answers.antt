use Prim.Native.Nat.{◌+◌, ◌≤◌}
use native.Mathlib.Omega.{arith}
use mathlib.Core.Path.{refl}
use Rattle.plan.specs.Inner.Outline.{outline_at}
use lib.ListN.{length}
use Rattle.plan.proofs.Laws.Accepted.{given}
use Rattle.plan.proofs.Laws.Outline.{vars-within, Outlined, outlined}
use Rattle.search.proofs.Laws.Lent.{lent_length}
use Rattle.search.proofs.Laws.Orders.{ranking-first, ranking-next, ranking-done}
use Rattle.search.proofs.setup.set_orders.Goals as goal
use Rattle.search.proofs.setup.set_orders.Goals.{In-loop-outline}

-- the outline of the pattern
outline : (c : In-loop-outline)
    → Outlined c.args.query.now.plan.now c.loop-outline.outline-index (outline_at c.args.table.now c.loop-outline.outline-index)
outline c = outlined c.args.table.now c.requires.tabled c.loop-outline.outline-index (omega arith) refl

-- the buffer has room for its variables
room : (c : In-loop-outline)
    → (outline_at c.args.table.now c.loop-outline.outline-index).first + (outline_at c.args.table.now c.loop-outline.outline-index).vars ≤ length c.loop-outline.orders
room c =
    let o = outline c in
    let f = o.first-is in
    let n = o.vars_are in
    let w = vars-within c.args.query.now.plan.now c.loop-outline.outline-index (omega arith) in
    let m = (given _ _ c.args.query.now.accepted).most-vars in
    let r = c.requires.most_vars_in_bounds in
    let l = c.loop-outline.invariant.same_length in
    omega arith

pub loop-outline-init : goal.loop-outline-init
loop-outline-init c = ranking-first _ _ _ _ refl

pub offset_bounds-orders-outline : goal.offset_bounds-orders-outline
offset_bounds-orders-outline c = let r = room (goal.at.offset_bounds-orders-outline c).In-loop-outline in let l = c.loop-outline.invariant.same_length in omega arith

pub slice_bounds-rarest_first-count : goal.slice_bounds-rarest_first-count
slice_bounds-rarest_first-count c = let r = room (goal.at.slice_bounds-rarest_first-count c).In-loop-outline in omega arith

pub slice_bounds-rarest_first-start : goal.slice_bounds-rarest_first-start
slice_bounds-rarest_first-start c = let r = room (goal.at.slice_bounds-rarest_first-start c).In-loop-outline in omega arith

pub slice_bounds-rarest_first-end : goal.slice_bounds-rarest_first-end
slice_bounds-rarest_first-end c = let r = room (goal.at.slice_bounds-rarest_first-end c).In-loop-outline in omega arith

pub rarest_first-requires-clause-vars_in_bounds : goal.rarest_first-requires-clause-vars_in_bounds
rarest_first-requires-clause-vars_in_bounds c =
    let r = room (goal.at.rarest_first-requires-clause-vars_in_bounds c).In-loop-outline in
    let l = lent_length (outline_at c.args.table.now c.loop-outline.outline-index).first c.loop-outline.orders in
    omega arith

pub loop-outline-preserved : goal.loop-outline-preserved
loop-outline-preserved c =
    let l = c.loop-outline in
    let o = outline (goal.at.loop-outline-preserved c).In-loop-outline in
    let r = room (goal.at.loop-outline-preserved c).In-loop-outline in
    let sorted = c.rarest_first in
    ranking-next _ _ _ l.orders l.outline-index (outline_at c.args.table.now c.loop-outline.outline-index).first sorted.new.order l.invariant (omega arith)
    o.first-is (omega arith) sorted.ensures.order_len_unchanged (rw o.pattern-is at sorted.ensures.rarest_first)

pub returns : goal.returns
returns c =
    let l = c.loop-outline in
    record {
      rarest_each = ranking-done _ _ _ l.orders l.outline-index l.invariant (omega arith);
      orders_len_unchanged = l.invariant.same_length;
    }
