use Prim.Native.Nat.{◌<◌, ◌≤◌}
use native.Mathlib.Omega.{arith}
use mathlib.Core.Path.{◌≡◌, refl, ◌∙◌}
use mathlib.Core.Bool.{true}
use mathlib.Core.Logic.{◌⊎◌, inl, inr}
use lib.ListN.{length, get_or}
use Rattle.plan.specs.Check.{sizes}
use Rattle.plan.specs.Inner.Outline.{outline_at}
use Rattle.matcher.specs.Inner.Cursors.{ats_of}
use Rattle.search.proofs.Laws.Walk.{walk-within, walk-few, walk_first, walk-order, walk-stretch, bringing-first, bringing-kept, bringing-due, bringing-next}
use Rattle.search.proofs.walk.next_docs.Goals as goal
use Rattle.search.proofs.walk.next_docs.Goals.{In-loop-k, Joined-else-not-fresh, else-not-fresh-via-then-not-fresh+else-doc-docs, else-not-fresh-via-else-not-fresh}

-- it is one of the plan's patterns
inside : (c : In-loop-k) → c.loop-k.k < (sizes c.args.query.now.plan.now).patterns
inside c = let l = c.requires.walks.table-length in let t = c.loop-k-test.true in omega arith

-- the pattern's variables have their order
first-room : (c : In-loop-k) → (outline_at c.args.table.now c.loop-k.k).first ≤ length c.args.orders.now
first-room c = walk_first _ _ _ _ _ c.requires.walks _ (inside c)

-- why pattern k is due: no pattern has a document yet, or its own is in front of the document
due : (c : Joined-else-not-fresh) → (c.args.fresh ≡ true) ⊎ (get_or c.loop-k.docs c.loop-k.k 0 < c.args.doc)
due c =
    elim c.else-not-fresh.branch [
      | else-not-fresh-via-then-not-fresh+else-doc-docs w ↦ inr w.if-doc-docs.false
      | else-not-fresh-via-else-not-fresh w ↦ inl w.if-not-fresh.false
    ]

pub loop-k-init : goal.loop-k-init
loop-k-init c =
    (bringing-first _ _ _ _ _ _ _ _ c.requires.by_index, refl)

pub bounds-docs-k : goal.bounds-docs-k
bounds-docs-k c =
    let r = c.requires.docs_len in
    let l = c.loop-k.invariant.0.docs-length in
    let i = inside (goal.at.bounds-docs-k c).In-loop-k in
    omega arith

pub loop-k-preserved-then-doc-docs : goal.loop-k-preserved-then-doc-docs
loop-k-preserved-then-doc-docs c =
    let l = c.loop-k in (
      bringing-kept _ _ _ _ _ _ _ _ (ats_of l.cursors) l.positions l.docs l.k l.invariant.0 (inside (goal.at.loop-k-preserved-then-doc-docs c).In-loop-k)
          c.if-not-fresh.true c.if-doc-docs.true,
      l.invariant.1,
    )

pub offset_bounds-orders-first : goal.offset_bounds-orders-first
offset_bounds-orders-first c =
    let f = walk-within _ _ _ _ _ c.requires.walks _ (inside (goal.at.offset_bounds-orders-first c).In-loop-k) in
    let r = c.requires.plan_in_bounds in
    omega arith

pub slice_bounds-align-count : goal.slice_bounds-align-count
slice_bounds-align-count c = first-room (goal.at.slice_bounds-align-count c).In-loop-k

pub slice_bounds-align-start : goal.slice_bounds-align-start
slice_bounds-align-start c = let r = first-room (goal.at.slice_bounds-align-start c).In-loop-k in omega arith

pub slice_bounds-align-end : goal.slice_bounds-align-end
slice_bounds-align-end c = let r = first-room (goal.at.slice_bounds-align-end c).In-loop-k in omega arith

pub align-requires : goal.align-requires
align-requires c =
    let l = c.loop-k in
    let w = c.requires.walks in
    let i = inside (goal.at.align-requires c).In-loop-k in
    let t = walk-within _ _ _ _ _ w l.k i in
    let f = walk-few _ _ _ _ _ w l.k i in
    let n = l.auto.cursors in
    let m = l.invariant.0.positions-length in
    let r = c.requires.plan_in_bounds in
    let s = c.requires.plan_in_bounds_2 in
    let stood = bringing-due _ _ _ _ _ _ _ _ (ats_of l.cursors) l.positions l.docs l.k l.invariant.0 i (due (goal.at.align-requires c).Joined-else-not-fresh) in
    record {
      n_in_bounds = omega arith;
      n_in_bounds_2 = omega arith;
      le_n = f.0;
      n_le_most_pattern_vars = f.1;
      doc_bound = c.requires.doc_bound;
      order = walk-order _ _ _ _ _ w l.k i;
      by_index = rw l.invariant.1 (walk-stretch _ _ _ _ _ w l.k i (ats_of l.cursors) c.args.doc stood);
    }

pub bounds-docs-k-in-loop-k : goal.bounds-docs-k-in-loop-k
bounds-docs-k-in-loop-k c =
    let r = c.requires.docs_len in
    let l = c.loop-k.invariant.0.docs-length in
    let i = inside (goal.at.bounds-docs-k-in-loop-k c).In-loop-k in
    omega arith

pub loop-k-preserved : goal.loop-k-preserved
loop-k-preserved c =
    let l = c.loop-k in
    let r = c.requires.docs_len in (
      bringing-next _ _ _ _ _ _ _ _ (ats_of l.cursors) l.positions l.docs l.k l.invariant.0 (inside (goal.at.loop-k-preserved c).In-loop-k) c.args.table.now
          c.args.orders.now c.requires.walks (omega arith) c.align.result (ats_of c.align.new.cursors) c.align.new.positions
          (due (goal.at.loop-k-preserved c).Joined-else-not-fresh) (rw l.invariant.1 at c.align.ensures.aligned),
      c.align.ensures.ends_unchanged ∙ l.invariant.1,
    )

pub shape_of-positions : goal.shape_of-positions
shape_of-positions c = c.loop-k.invariant.0.positions-length

pub shape_of-docs : goal.shape_of-docs
shape_of-docs c = c.loop-k.invariant.0.docs-length

pub returns : goal.returns
returns c =
    let l = c.loop-k in
    let w = c.requires.walks.table-length in
    let t = c.loop-k-test.false in
    record {
      brought = record {
        ats-length = l.invariant.0.ats-length;
        positions-length = l.invariant.0.positions-length;
        docs-length = l.invariant.0.docs-length;
        each = λ k h. l.invariant.0.brought k (omega arith);
      };
      ends_unchanged = l.invariant.1;
    }
