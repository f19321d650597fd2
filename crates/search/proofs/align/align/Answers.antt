use Prim.Native.Nat.{ℕ, ◌+◌, ◌*◌, ◌<◌, ◌≤◌}
use native.Mathlib.Omega.{arith}
use mathlib.Core.Path.{refl, ◌∙◌}
use lib.ListN.{length, get_or}
use Rattle.matcher.specs.Inner.Cursors.{Stretch, Arrived, ats_of, ends_of}
use Rattle.matcher.proofs.Laws.Cursors.{arrived-none, length-ats, ats-at, ends-at, ats-set, ends-kept}
use Rattle.search.proofs.Laws.Align.{came, leap-first, leap-inside, leap-stretch, leap-out, leap-here, leap-later, leap-lead, leap-back, leap-done}
use Rattle.search.proofs.align.align.Goals as goal
use Rattle.search.proofs.align.align.Goals.{After-enter-moved, In-loop-i}

-- the variable whose cursor leaps
abbrev var-of : In-loop-i → ℕ
var-of c = c.args.first + get_or c.args.order.now c.loop-i.i 0

inside : (c : In-loop-i) → var-of c < c.args.first + c.args.n
inside c =
    leap-inside _ _ _ _ _ _ _ _ c.requires.order c.requires.by_index _ _ _ _ c.loop-i.invariant.0 c.loop-i-test.true _ refl

-- there is a cursor for it, and a position
reach : (c : In-loop-i) → (var-of c < length c.loop-i.cursors) × (var-of c < length c.loop-i.positions)
reach c =
    let i = inside c in
    let r = c.requires.n_in_bounds in
    let s = c.requires.n_in_bounds_2 in
    let l = c.loop-i.invariant.0.same_length in
    let m = c.loop-i.invariant.0.positions-length in
    let a = length-ats c.loop-i.cursors in
    let b = length-ats c.args.cursors.now in
    (omega arith, omega arith)

stretch : (c : In-loop-i) → Stretch c.args.volume.now (get_or (ats_of c.loop-i.cursors) (var-of c) 0) (get_or (ends_of c.args.cursors.now) (var-of c) 0)
stretch c =
    leap-stretch _ _ _ _ _ _ _ _ c.requires.order c.requires.by_index _ _ _ _ c.loop-i.invariant.0 c.loop-i-test.true _ refl

-- where the cursor stands behind its leap
arrived : (c : After-enter-moved) → let x = c.args.first + get_or c.args.order.now c.loop-i.i 0 in
    Arrived c.args.volume.now (c.loop-i.d * 65536) (get_or (ats_of c.loop-i.cursors) x 0)
    (get_or (ends_of c.args.cursors.now) x 0) c.enter-moved.result
arrived c =
    let x = c.args.first + get_or c.args.order.now c.loop-i.i 0 in
    rw (ats-at c.loop-i.cursors x, ← c.loop-i.invariant.1, ends-at c.loop-i.cursors x) c.enter-moved.ensures

-- there is a cursor for each variable
room : (c : In-loop-i) → c.args.first + c.args.n ≤ length (ats_of c.args.cursors.now)
room c = let r = c.requires.n_in_bounds in let a = length-ats c.args.cursors.now in omega arith

pub loop-i-init : goal.loop-i-init
loop-i-init c = (leap-first _ _ _ _ _ _ _ _ c.requires.doc_bound c.requires.by_index, refl)

pub enter-moved-requires : goal.enter-moved-requires
enter-moved-requires c =
    let x = c.args.first + get_or c.args.order.now c.loop-i.i 0 in
    rw (ats-at c.loop-i.cursors x, ← c.loop-i.invariant.1, ends-at c.loop-i.cursors x) at (stretch (goal.at.enter-moved-requires c).In-loop-i)

pub returns-in_default : goal.returns-in_default
returns-in_default c =
    let a = arrived (goal.at.returns-in_default c).After-enter-moved in
    record {
      aligned = rw (ats-set c.loop-i.cursors (var-of (goal.at.returns-in_default c).In-loop-i) _)
          (leap-out _ _ _ _ _ _ _ _ c.requires.order c.requires.by_index _ _ _ _ c.loop-i.invariant.0 c.loop-i-test.true _ refl (room (goal.at.returns-in_default c).In-loop-i)
          c.requires.n_in_bounds_2 _ a.at-is (arrived-none a c.in_default.is));
      ends_unchanged = ends-kept c.loop-i.cursors (var-of (goal.at.returns-in_default c).In-loop-i) _ refl ∙ c.loop-i.invariant.1;
    }

pub loop-i-smaller-then-here-d : goal.loop-i-smaller-then-here-d
loop-i-smaller-then-here-d c = let t = c.loop-i-test.true in omega arith

pub loop-i-preserved-then-here-d : goal.loop-i-preserved-then-here-d
loop-i-preserved-then-here-d c =
    let k = came c.args.volume.now (λ i. let h = c.type_inv.volume i in omega arith) (arrived (goal.at.loop-i-preserved-then-here-d c).After-enter-moved) c.in-Some.is _ _ c.pos.ensures c.doc-here.ensures in (
      rw (ats-set c.loop-i.cursors (var-of (goal.at.loop-i-preserved-then-here-d c).In-loop-i) _)
          (leap-here _ _ _ _ _ _ _ _ c.requires.order c.requires.by_index _ _ _ _ c.loop-i.invariant.0 c.loop-i-test.true _ refl (room (goal.at.loop-i-preserved-then-here-d c).In-loop-i)
          c.requires.n_in_bounds_2 _ (arrived (goal.at.loop-i-preserved-then-here-d c).After-enter-moved).at-is k.inside _ k.pos-is
          (k.doc-is ∙ c.if-here-d.true)),
      ends-kept c.loop-i.cursors (var-of (goal.at.loop-i-preserved-then-here-d c).In-loop-i) _ refl ∙ c.loop-i.invariant.1,
    )

pub loop-i-smaller-then-i-eq0 : goal.loop-i-smaller-then-i-eq0
loop-i-smaller-then-i-eq0 c =
    let k = came c.args.volume.now (λ i. let h = c.type_inv.volume i in omega arith) (arrived (goal.at.loop-i-smaller-then-i-eq0 c).After-enter-moved) c.in-Some.is _ _ c.pos.ensures c.doc-here.ensures in
    let r = k.small in
    let later = leap-later _ _ _ _ _ _ _ _ c.requires.order c.requires.by_index _ _ _ _ c.loop-i.invariant.0 c.loop-i-test.true _ refl (room (goal.at.loop-i-smaller-then-i-eq0 c).In-loop-i)
    c.requires.n_in_bounds_2 _ (arrived (goal.at.loop-i-smaller-then-i-eq0 c).After-enter-moved).at-is
    k.inside _ k.pos-is _ k.doc-is c.if-here-d.false (omega arith) in
    let n = c.requires.n_le_most_pattern_vars in
    omega arith

pub loop-i-smaller : goal.loop-i-smaller
loop-i-smaller c =
    let k = came c.args.volume.now (λ i. let h = c.type_inv.volume i in omega arith) (arrived (goal.at.loop-i-smaller c).After-enter-moved) c.in-Some.is _ _ c.pos.ensures c.doc-here.ensures in
    let r = k.small in
    let later = leap-later _ _ _ _ _ _ _ _ c.requires.order c.requires.by_index _ _ _ _ c.loop-i.invariant.0 c.loop-i-test.true _ refl (room (goal.at.loop-i-smaller c).In-loop-i)
    c.requires.n_in_bounds_2 _ (arrived (goal.at.loop-i-smaller c).After-enter-moved).at-is
    k.inside _ k.pos-is _ k.doc-is c.if-here-d.false (omega arith) in
    let n = c.requires.n_le_most_pattern_vars in
    omega arith

pub loop-i-preserved-then-i-eq0 : goal.loop-i-preserved-then-i-eq0
loop-i-preserved-then-i-eq0 c =
    let k = came c.args.volume.now (λ i. let h = c.type_inv.volume i in omega arith) (arrived (goal.at.loop-i-preserved-then-i-eq0 c).After-enter-moved) c.in-Some.is _ _ c.pos.ensures c.doc-here.ensures in
    let r = k.small in (
      rw (ats-set c.loop-i.cursors (var-of (goal.at.loop-i-preserved-then-i-eq0 c).In-loop-i) _)
          (leap-lead _ _ _ _ _ _ _ _ c.requires.order c.requires.by_index _ _ _ _ c.loop-i.invariant.0 c.loop-i-test.true _ refl (room (goal.at.loop-i-preserved-then-i-eq0 c).In-loop-i)
          c.requires.n_in_bounds_2 _ (arrived (goal.at.loop-i-preserved-then-i-eq0 c).After-enter-moved).at-is k.inside _ k.pos-is _ k.doc-is
          c.if-here-d.false (omega arith) c.if-i-eq0.true),
      ends-kept c.loop-i.cursors (var-of (goal.at.loop-i-preserved-then-i-eq0 c).In-loop-i) _ refl ∙ c.loop-i.invariant.1,
    )

pub loop-i-preserved : goal.loop-i-preserved
loop-i-preserved c =
    let k = came c.args.volume.now (λ i. let h = c.type_inv.volume i in omega arith) (arrived (goal.at.loop-i-preserved c).After-enter-moved) c.in-Some.is _ _ c.pos.ensures c.doc-here.ensures in
    let r = k.small in (
      rw (ats-set c.loop-i.cursors (var-of (goal.at.loop-i-preserved c).In-loop-i) _)
          (leap-back _ _ _ _ _ _ _ _ c.requires.order c.requires.by_index _ _ _ _ c.loop-i.invariant.0 c.loop-i-test.true _ refl (room (goal.at.loop-i-preserved c).In-loop-i)
          c.requires.n_in_bounds_2 _ (arrived (goal.at.loop-i-preserved c).After-enter-moved).at-is k.inside _ k.pos-is _ k.doc-is
          c.if-here-d.false (omega arith)),
      ends-kept c.loop-i.cursors (var-of (goal.at.loop-i-preserved c).In-loop-i) _ refl ∙ c.loop-i.invariant.1,
    )

pub returns : goal.returns
returns c =
    record {
      aligned = leap-done _ _ _ _ _ _ _ _ c.requires.order _ _ _ _ c.loop-i.invariant.0 c.loop-i-test.false;
      ends_unchanged = c.loop-i.invariant.1;
    }
