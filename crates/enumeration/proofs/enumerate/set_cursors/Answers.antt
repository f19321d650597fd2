use Prim.Native.Nat.{◌+◌, ◌<◌}
use native.Mathlib.Omega.{arith}
use mathlib.Core.Path.{◌≡◌, ap}
use lib.ListN.{get_or}
use Rattle.volume.specs.Layout.{list_count}
use Rattle.volume.proofs.Laws.Check.{good}
use Rattle.plan.specs.declared.answers.Sizes.{Sizes}
use Rattle.plan.specs.Accepted.{pattern_at}
use Rattle.matcher.specs.Inner.Cursors.{list_cursor}
use Rattle.matcher.proofs.Laws.Placed.{voiced, voiced-list}
use Rattle.enumeration.proofs.Laws.Placing.{starts_cursor, cursor-stretch, cursor-placed, placing-next}
use Rattle.enumeration.proofs.enumerate.set_cursors.Goals as goal
use Rattle.enumeration.proofs.enumerate.set_cursors.Goals.{After-list_at-list}

pub word_at-lists-requires : goal.word_at-lists-requires
word_at-lists-requires c = let g = good _ c.args.query.now.volume.accepted in omega arith

pub list_starts-requires : goal.list_starts-requires
list_starts-requires c =
    let m = (good _ c.args.query.now.volume.accepted).lists-most in
    let e = c.word_at-lists.ensures in
    record {
      n_bound = omega arith;
      n_in_bounds = omega arith;
    }

-- its list, one of the volume's
the-list : (c : After-list_at-list)
    → let a = c.args in
    (c.list_at-list.result ≡ get_or (pattern_at a.query.now.plan.now a.outline.pattern).vars c.loop-x.x 0) × (c.list_at-list.result < list_count a.query.now.volume.bytes.now)
the-list c =
    let p = c.requires in
    let t = voiced c.args.query.now.volume.bytes.now c.args.query.now.plan.now c.args.query.now.accepted c.args.outline (let n = ap (λ (s : Sizes). s.patterns) c.args.query.now.sizes_are in let b = p.pattern_bound in omega arith) p.outlines c.loop-x.x (omega arith) in
    let e = voiced-list t c.list_at-list.result c.list_at-list.ensures in
    (e, rw e t.there)

pub list_at-list-requires : goal.list_at-list-requires
list_at-list-requires c =
    let p = c.requires in
    let t = voiced c.args.query.now.volume.bytes.now c.args.query.now.plan.now c.args.query.now.accepted c.args.outline (let n = ap (λ (s : Sizes). s.patterns) c.args.query.now.sizes_are in let b = p.pattern_bound in omega arith) p.outlines c.loop-x.x (omega arith) in
    record {
      row_bound = t.inside;
      row_value = t.formed;
      by_index = (_, t.kind-is);
    }

pub bounds-starts-list : goal.bounds-starts-list
bounds-starts-list c =
    let h = (the-list c).1 in
    let m = (good _ c.args.query.now.volume.accepted).lists-most in
    omega arith

pub bounds-starts-list-in-loop-x : goal.bounds-starts-list-in-loop-x
bounds-starts-list-in-loop-x c =
    let h = (the-list c).1 in
    let m = (good _ c.args.query.now.volume.accepted).lists-most in
    omega arith

-- the cursor on it
on_list : (c : After-list_at-list)
    → let i = c.list_at-list.result in let t = c.list_starts.new.starts in
    record { at = get_or t i 0; end = get_or t (i + 1) 0 } ≡ list_cursor c.args.query.now.volume.bytes.now i
on_list c =
    let h = (the-list c).1 in
    let e = c.word_at-lists.ensures in
    starts_cursor _ c.list_starts.new.starts _ c.list_starts.ensures.by_index c.list_at-list.result (omega arith)

pub seek-requires : goal.seek-requires
seek-requires c = cursor-stretch _ c.args.query.now.volume.accepted _ (the-list c).1 _ (on_list c)

pub loop-x-preserved : goal.loop-x-preserved
loop-x-preserved c =
    let l = (goal.at.loop-x-preserved c).After-list_at-list in
    let p = cursor-placed _ c.args.query.now.volume.accepted _ (the-list l).1 _ (on_list l) _ c.seek.result c.seek.ensures.value in
    placing-next _ _ _ _ c.loop-x.cursors c.loop-x.x _ c.loop-x.invariant (omega arith) (rw (← (the-list l).0) p)
