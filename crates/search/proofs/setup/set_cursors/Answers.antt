use native.Mathlib.Omega.{arith}
use Prim.Native.Nat.{ℕ, ◌+◌, ◌-◌, ◌<◌, ◌≤◌}
use mathlib.Core.Path.{◌≡◌, refl, sym, ap, ◌∙◌}
use lib.ListN.{length}
use Rattle.volume.specs.Layout.{list_count}
use Rattle.volume.proofs.Laws.Check.{good}
use Rattle.plan.specs.Limits.{most_vars}
use Rattle.plan.specs.Check.{sizes}
use Rattle.plan.specs.Inner.Outline.{vars_before, outline_at}
use Rattle.plan.proofs.Laws.Accepted.{given}
use Rattle.plan.proofs.Laws.Outline.{vars_before-next, outlined}
use Rattle.matcher.specs.Inner.Cursors.{ats_of, ends_of}
use Rattle.matcher.specs.Inner.Tables.{var_at, cursor_on}
use Rattle.matcher.proofs.Laws.Cursors.{length-ats, length-ends, ats-set, ends-set}
use Rattle.matcher.proofs.Laws.Placed.{Voiced, voiced-list}
use Rattle.matcher.proofs.Laws.Placed.{placing-first, placing_as, placing-next, placing-done}
use Rattle.search.proofs.Laws.Setup.{used-within, voice-at, voice-few, voice-place}
use Rattle.search.proofs.setup.set_cursors.Goals as goal
use Rattle.search.proofs.setup.set_cursors.Goals.{After-list_at-list, After-lists_used-used, In-loop-i}

-- the VOICE row of a variable, which an inner turn reads
turn : (c : In-loop-i)
    → let o = outline_at c.args.table.now c.loop-outline.outline-index in
    Voiced c.args.query.now.volume.bytes.now c.args.query.now.plan.now ((o.condition - o.vars) + c.loop-i.i)
    (var_at c.args.query.now.plan.now (vars_before c.args.query.now.plan.now c.loop-outline.outline-index + c.loop-i.i))
turn c =
    voice-at c.args.query.now.volume.bytes.now c.args.query.now.plan.now c.args.query.now.accepted c.args.table.now c.requires.tabled c.loop-outline.outline-index c.loop-i.i
    (omega arith) c.loop-i-test.true

-- its place among those of the plan
place : (c : In-loop-i)
    → let o = outline_at c.args.table.now c.loop-outline.outline-index in
    let x = vars_before c.args.query.now.plan.now c.loop-outline.outline-index + c.loop-i.i in
    (o.first + c.loop-i.i ≡ x) × (x < (sizes c.args.query.now.plan.now).vars)
place c =
    voice-place c.args.query.now.volume.bytes.now c.args.query.now.plan.now c.args.query.now.accepted c.args.table.now c.requires.tabled c.loop-outline.outline-index
    c.loop-i.i (omega arith) c.loop-i-test.true

room : (c : In-loop-i) → (outline_at c.args.table.now c.loop-outline.outline-index).first + c.loop-i.i < most_vars
room c =
    voice-few c.args.query.now.volume.bytes.now c.args.query.now.plan.now c.args.query.now.accepted c.args.table.now c.requires.tabled c.loop-outline.outline-index c.loop-i.i
    (omega arith) c.loop-i-test.true

-- the lists whose starts are stored are lists of the volume
few-used : (c : After-lists_used-used)
    → let v = c.args.query.now.volume.bytes.now in
    (c.lists_used-used.result ≤ list_count v) × (list_count v ≤ 1024)
few-used c =
    let q = c.args.query.now in
    (used-within _ _ q.accepted c.lists_used-used.result c.lists_used-used.ensures, (good _ q.volume.accepted).lists-most)

pub list_starts-requires : goal.list_starts-requires
list_starts-requires c =
    let few = few-used (goal.at.list_starts-requires c).After-lists_used-used in
    record {
      n_bound = omega arith;
      n_in_bounds = omega arith;
    }

pub loop-outline-init : goal.loop-outline-init
loop-outline-init c =
    let a = c.args in
    placing-first a.query.now.volume.bytes.now a.query.now.plan.now a.start (ats_of a.cursors.now) (ends_of a.cursors.now)

pub overflow_sub-row : goal.overflow_sub-row
overflow_sub-row c = let o = (outlined c.args.table.now c.requires.tabled c.loop-outline.outline-index (omega arith) refl).room in omega arith

pub loop-i-init : goal.loop-i-init
loop-i-init c =
    let l = c.loop-outline in
    let a = c.args in
    let p = a.query.now.plan.now in
    placing_as a.query.now.volume.bytes.now p a.start (length (ats_of a.cursors.now)) (length (ends_of a.cursors.now)) (vars_before p l.outline-index)
    (length (ats_of l.cursors)) (length (ends_of l.cursors)) (vars_before p l.outline-index + 0) (ats_of l.cursors) (ends_of l.cursors) l.invariant
    (sym l.invariant.same_ats) (sym l.invariant.same_ends) (omega arith)

pub overflow_add-row : goal.overflow_add-row
overflow_add-row c =
    let t = (turn (goal.at.overflow_add-row c).In-loop-i).inside in
    let g = (given _ _ c.args.query.now.accepted).most-rows in
    omega arith

pub list_at-list-requires : goal.list_at-list-requires
list_at-list-requires c = let t = turn (goal.at.list_at-list-requires c).In-loop-i in record {
  row_bound = t.inside;
  row_value = t.formed;
  by_index = (_, t.kind-is);
}

-- the list that it reads, that of the variable among those of the plan
read : (c : After-list_at-list)
    → c.list_at-list.result ≡ var_at c.args.query.now.plan.now (vars_before c.args.query.now.plan.now c.loop-outline.outline-index + c.loop-i.i)
read c =
    voiced-list
    (voice-at c.args.query.now.volume.bytes.now c.args.query.now.plan.now c.args.query.now.accepted c.args.table.now c.requires.tabled c.loop-outline.outline-index c.loop-i.i
    (omega arith) c.loop-i-test.true)
    c.list_at-list.result c.list_at-list.ensures

pub cursor_on-requires : goal.cursor_on-requires
cursor_on-requires c =
    let begun = c.list_starts.ensures in
    let t = turn (goal.at.cursor_on-requires c).In-loop-i in
    let p = place (goal.at.cursor_on-requires c).In-loop-i in
    let list = read (goal.at.cursor_on-requires c).After-list_at-list in
    let above = c.lists_used-used.ensures.above _ p.1 in
    let few = few-used (goal.at.cursor_on-requires c).After-lists_used-used in record {
      list_bound = rw list t.there;
      list_in_bounds = omega arith;
      list_value = begun.by_index _ (omega arith);
      list_value_2 = begun.by_index _ (omega arith);
    }

pub overflow_add-outline : goal.overflow_add-outline
overflow_add-outline c = let t = room (goal.at.overflow_add-outline c).In-loop-i in omega arith

-- there is a cursor for the variable
reach : (c : In-loop-i) → let x = (outline_at c.args.table.now c.loop-outline.outline-index).first + c.loop-i.i in
    (x < length c.loop-i.cursors) × ((x < length (ats_of c.loop-outline.cursors)) × (x < length (ends_of c.loop-outline.cursors)))
reach c =
    let t = room c in
    let w = c.requires.most_vars_in_bounds in
    let l = c.loop-i.invariant.same_ats ∙ c.loop-outline.invariant.same_ats in
    let m = c.loop-i.invariant.same_ends ∙ c.loop-outline.invariant.same_ends in
    let a = length-ats c.args.cursors.now in
    let b = length-ats c.loop-i.cursors in
    let d = length-ends c.args.cursors.now in
    let e = c.loop-outline.invariant.same_ats in
    let f = c.loop-outline.invariant.same_ends in
    (omega arith, (omega arith, omega arith))

pub offset_bounds-cursors-outline : goal.offset_bounds-cursors-outline
offset_bounds-cursors-outline c = let t = room (goal.at.offset_bounds-cursors-outline c).In-loop-i in omega arith

pub bounds-cursors-outline : goal.bounds-cursors-outline
bounds-cursors-outline c = let t = reach (goal.at.bounds-cursors-outline c).In-loop-i in omega arith

pub loop-i-preserved : goal.loop-i-preserved
loop-i-preserved c =
    let l = c.loop-i in
    let outer = c.loop-outline in
    let a = c.args in
    let v = a.query.now.volume.bytes.now in
    let t = reach (goal.at.loop-i-preserved c).In-loop-i in
    let p = place (goal.at.loop-i-preserved c).In-loop-i in
    let x = vars_before a.query.now.plan.now outer.outline-index + l.i in
    let list = read (goal.at.loop-i-preserved c).After-list_at-list in
    let e : x + 1 ≡ vars_before a.query.now.plan.now outer.outline-index + (l.i + 1) = omega arith in
    let next = placing-next v a.query.now.plan.now a.start (length (ats_of outer.cursors)) (length (ends_of outer.cursors)) (ats_of l.cursors) (ends_of l.cursors) x l.invariant in
    let seeks = c.cursor_on.ensures ∙ ap (λ (list : ℕ). cursor_on v list a.start) list in
    rw (p.0, ← e, ats-set l.cursors x _, ends-set l.cursors x _) (next (omega (arith, t, p)) (omega (arith, t, p)) c.cursor_on.result seeks)

pub loop-outline-preserved : goal.loop-outline-preserved
loop-outline-preserved c =
    let l = c.loop-i in
    let outer = c.loop-outline in
    let a = c.args in
    let p = a.query.now.plan.now in
    let k = outer.outline-index in
    let h : k < (sizes p).patterns = omega arith in
    let m = (outlined a.table.now c.requires.tabled k h refl).vars_are in
    let next = vars_before-next p k h in
    placing_as a.query.now.volume.bytes.now p a.start (length (ats_of outer.cursors)) (length (ends_of outer.cursors)) (vars_before p k + l.i)
    (length (ats_of a.cursors.now)) (length (ends_of a.cursors.now)) (vars_before p (k + 1)) (ats_of l.cursors) (ends_of l.cursors) l.invariant
    outer.invariant.same_ats outer.invariant.same_ends (omega arith)

pub returns : goal.returns
returns c =
    let l = c.loop-outline in
    let a = c.args in
    placing-done a.query.now.volume.bytes.now a.query.now.plan.now a.start (length (ats_of a.cursors.now)) (length (ends_of a.cursors.now)) (ats_of l.cursors)
    (ends_of l.cursors) l.outline-index l.invariant (omega arith)
