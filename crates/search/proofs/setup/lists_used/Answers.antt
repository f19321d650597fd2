use Prim.Native.Nat.{◌+◌, ◌-◌, ◌<◌}
use native.Mathlib.Omega.{arith}
use mathlib.Core.Path.{◌≡◌, ap, ◌∙◌, refl}
use Rattle.plan.specs.Check.{sizes}
use Rattle.plan.specs.Inner.Outline.{vars_before, outline_at}
use Rattle.plan.proofs.Laws.Accepted.{given}
use Rattle.plan.proofs.Laws.Outline.{vars_before-first, vars_before-next, vars_before-end, outlined}
use Rattle.matcher.specs.Inner.Tables.{var_at}
use Rattle.matcher.proofs.Laws.Placed.{Voiced, voiced-list}
use Rattle.search.proofs.Laws.Setup.{used-first, used-next, voice-at}
use Rattle.search.proofs.setup.lists_used.Goals as goal
use Rattle.search.proofs.setup.lists_used.Goals.{In-loop-i}

-- the VOICE row of a variable, which an inner turn reads
turn : (c : In-loop-i)
    → let o = outline_at c.args.table.now c.loop-outline.outline-index in
    Voiced c.args.query.now.volume.bytes.now c.args.query.now.plan.now ((o.condition - o.vars) + c.loop-i.i)
    (var_at c.args.query.now.plan.now (vars_before c.args.query.now.plan.now c.loop-outline.outline-index + c.loop-i.i))
turn c =
    voice-at c.args.query.now.volume.bytes.now c.args.query.now.plan.now c.args.query.now.accepted c.args.table.now c.requires.tabled c.loop-outline.outline-index
    c.loop-i.i (omega arith) c.loop-i-test.true

pub loop-outline-init : goal.loop-outline-init
loop-outline-init c = let p = c.args.query.now.plan.now in rw (vars_before-first p) (used-first p)

pub overflow_sub-row : goal.overflow_sub-row
overflow_sub-row c = let o = (outlined c.args.table.now c.requires.tabled c.loop-outline.outline-index (omega arith) refl).room in omega arith

pub loop-i-init : goal.loop-i-init
loop-i-init c =
    let p = c.args.query.now.plan.now in
    let e : vars_before p c.loop-outline.outline-index ≡ vars_before p c.loop-outline.outline-index + 0 = omega arith in
    rw e at c.loop-outline.invariant

pub overflow_add-row : goal.overflow_add-row
overflow_add-row c =
    let t = (turn (goal.at.overflow_add-row c).In-loop-i).inside in
    let g = (given c.args.query.now.volume.bytes.now _ c.args.query.now.accepted).most-rows in
    omega arith

pub list_at-list-requires : goal.list_at-list-requires
list_at-list-requires c = let t = turn (goal.at.list_at-list-requires c).In-loop-i in record {
  row_bound = t.inside;
  row_value = t.formed;
  by_index = (_, t.kind-is);
}

pub loop-i-preserved : goal.loop-i-preserved
loop-i-preserved c =
    let l = c.loop-i in
    let p = c.args.query.now.plan.now in
    let x = vars_before p c.loop-outline.outline-index + l.i in
    let e : x + 1 ≡ vars_before p c.loop-outline.outline-index + (l.i + 1) = omega arith in
    let t = turn (goal.at.loop-i-preserved c).In-loop-i in
    rw (← e, c.max-used.ensures) (used-next p x l.used _ l.invariant (voiced-list t c.list_at-list.result c.list_at-list.ensures))

pub loop-outline-preserved : goal.loop-outline-preserved
loop-outline-preserved c =
    let p = c.args.query.now.plan.now in
    let k = c.loop-outline.outline-index in
    let h : k < (sizes p).patterns = omega arith in
    let m = (outlined c.args.table.now c.requires.tabled k h refl).vars_are in
    let next = vars_before-next p k h in
    let e : vars_before p k + c.loop-i.i ≡ vars_before p (k + 1) = omega arith in
    rw e at c.loop-i.invariant

pub returns : goal.returns
returns c =
    let l = c.loop-outline in
    let p = c.args.query.now.plan.now in
    let e : l.outline-index ≡ (sizes p).patterns = omega arith in
    rw (ap (vars_before p) e ∙ vars_before-end p) at l.invariant
