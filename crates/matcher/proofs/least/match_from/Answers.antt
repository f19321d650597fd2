use native.Mathlib.Omega.{arith}
use Prim.Native.Nat.{◌-◌, ◌<◌, max}
use mathlib.Core.Bool.{Bool}
use mathlib.Core.Path.{◌≡◌, refl, ap, subst, ◌∙◌}
use lib.ListN.{length, get_or, take}
use lib.Seq.{length-take-le}
use Rattle.volume.specs.Layout.{lists_of}
use Rattle.fulltext.specs.Matches.{starts_in}
use Rattle.matcher.specs.Inner.Cursors.{ats_of, ends_of}
use Rattle.matcher.specs.Inner.Settling.{Jumped}
use Rattle.matcher.specs.Inner.Shortfall.{LeftShort, Told}
use Rattle.matcher.proofs.Laws.Cursors.{length-ends, ats-room}
use Rattle.matcher.proofs.Laws.Shortfall.{largest-front}
use Rattle.matcher.proofs.Laws.Tried.{slack, Tried, some-vars, tried-turn, tried-first, tried-last, tried_asks, predicate_asks, tried-holds, jump-var, jump-stretch, tried-held, tried-out, tried-jump, tried-done}
use Rattle.matcher.proofs.least.match_from.Goals as goal
use Rattle.matcher.proofs.least.match_from.Goals.{After-falls_short, Else-not-jump, In-Some}

-- `paras` keeps its length
kept : (c : After-falls_short) → length c.falls_short.new.paras ≡ length c.args.paras.now
kept c = c.falls_short.ensures.paras_len_unchanged ∙ c.loop-left.invariant.paras

-- the variable that is left short
short : (c : In-Some)
    → let l = c.loop-left in let a = c.args in
    LeftShort (starts_in (lists_of a.volume.now.bytes.now) a.document.doc) c.predicate_at-predicate.result (take a.outline.vars l.positions) c.in-Some.short.var c.in-Some.short.need
short c = subst (Told _ _ _) c.in-Some.is c.falls_short.ensures.told

pub invariant_of-opened : goal.invariant_of-opened
invariant_of-opened c = record { at_document = c.requires.posed.document }

pub overflow_sub-count : goal.overflow_sub-count
overflow_sub-count c = let e = c.requires.posed.outlines.last-is in omega arith

pub largest_of-largest-requires : goal.largest_of-largest-requires
largest_of-largest-requires c =
    let s = c.requires in
    let n = some-vars _ _ _ _ _ s.posed in
    let e = length-take-le c.args.outline.vars c.args.positions.now s.positions_in_bounds in
    omega arith

pub loop-left-init : goal.loop-left-init
loop-left-init c = let s = c.requires in record {
  tried = tried-first _ _ _ _ _ s.posed _ _ _ s.positions_in_bounds s.standing _
      (largest-front c.args.positions.now c.args.outline.vars _ s.positions_in_bounds c.largest_of-largest.ensures);
  paras = refl;
  ends = refl;
}

pub overflow_add-outline : goal.overflow_add-outline
overflow_add-outline c =
    let w = tried-turn c.loop-left.invariant.tried c.loop-left-test.true in
    let most = tried-last _ _ _ _ _ c.requires.posed in
    omega arith

pub predicate_at-predicate-requires : goal.predicate_at-predicate-requires
predicate_at-predicate-requires c =
    let l = c.loop-left in
    let w = tried_asks _ _ _ _ _ c.requires.posed l.turn (tried-turn l.invariant.tried c.loop-left-test.true) in
    record { row_bound = w.0; row_value = w.1.0; row_value_2 = w.1.1 }

pub falls_short-requires : goal.falls_short-requires
falls_short-requires c =
    let l = c.loop-left in
    let s = c.requires in
    let e = l.invariant.paras in
    let w = l.invariant.tried.ps-within.same_length in
    let p = s.positions_in_bounds in
    let q = s.paras_in_bounds in
    let t = length-take-le c.args.outline.vars l.positions (omega arith) in
    let a = predicate_asks _ _ _ _ _ s.posed l.turn (tried-turn l.invariant.tried c.loop-left-test.true) _ c.predicate_at-predicate.ensures _ _ _ _ _ _ _ l.invariant.tried s.positions_in_bounds _ s.order in
    record {
      in_document = a.in_document;
      predicate_value = a.names;
      in_range = a.range;
      order = a.order;
      largest = a.largest;
      paras_in_bounds = omega arith;
    }

pub next_turn-turn-requires : goal.next_turn-turn-requires
next_turn-turn-requires c = tried-turn c.loop-left.invariant.tried c.loop-left-test.true

pub loop-left-preserved-in-None : goal.loop-left-preserved-in-None
loop-left-preserved-in-None c =
    let l = c.loop-left in record {
      tried = rw c.next_turn-turn.ensures
          (tried-holds _ _ _ _ _ c.requires.posed l.turn (tried-turn l.invariant.tried c.loop-left-test.true) _ c.predicate_at-predicate.ensures _ _ _ _ _ _ _ l.invariant.tried c.loop-left-test.true
          (subst (Told _ _ _) c.in-None.is c.falls_short.ensures.told));
      paras = kept (goal.at.loop-left-preserved-in-None c).After-falls_short;
      ends = l.invariant.ends;
    }

pub returns-then-x-held : goal.returns-then-x-held
returns-then-x-held c =
    let l = c.loop-left in
    let s = c.requires in record {
      held_match = tried-held _ _ _ _ _ s.posed l.turn (tried-turn l.invariant.tried c.loop-left-test.true) _ c.predicate_at-predicate.ensures _ _ _ _ _ _ _ l.invariant.tried (ats-room c.args.cursors.now _ s.posed.room) s.positions_in_bounds _ _ (short (goal.at.returns-then-x-held c).In-Some) c.if-x-held.true _;
      standing_2 = record { each = l.invariant.tried.low.standing };
      within = l.invariant.tried.here-within;
      within_2 = l.invariant.tried.ps-within;
      ends_unchanged = l.invariant.ends;
      paras_len_unchanged = kept (goal.at.returns-then-x-held c).After-falls_short;
    }

pub jump-requires : goal.jump-requires
jump-requires c =
    let l = c.loop-left in
    let s = c.requires in
    let i = short (goal.at.jump-requires c).In-Some in
    let x = jump-var _ _ _ _ _ s.posed l.turn (tried-turn l.invariant.tried c.loop-left-test.true) _ c.predicate_at-predicate.ensures _ _ _ _ _ _ _ l.invariant.tried (ats-room c.args.cursors.now _ s.posed.room) s.positions_in_bounds _ _ i in
    let w = l.invariant.tried.ps-within.same_length in
    let p = s.positions_in_bounds in
    let q = s.posed.room in
    let e = ap length l.invariant.ends in
    let z = length-ends l.cursors in
    record {
      x_in_bounds = omega arith;
      x_in_bounds_2 = omega arith;
      stretch = rw l.invariant.ends (jump-stretch _ _ _ _ _ s.posed l.turn (tried-turn l.invariant.tried c.loop-left-test.true) _ c.predicate_at-predicate.ensures _ _ _ _ _ _ _ l.invariant.tried (ats-room c.args.cursors.now _ s.posed.room) s.positions_in_bounds _ _ i);
    }

pub returns-then-not-jump : goal.returns-then-not-jump
returns-then-not-jump c =
    let l = c.loop-left in
    let s = c.requires in
    let a = c.args in
    let x = c.in-Some.short.var in
    let j = subst (λ (r : Bool). Jumped a.volume.now.bytes.now a.document.doc (get_or (ends_of a.cursors.now) x 0) c.in-Some.short.need x (ats_of l.cursors) l.positions r (ats_of c.jump.new.cursors) c.jump.new.positions) c.if-not-jump.true (rw l.invariant.ends at c.jump.ensures.jumped) in
    record {
      held_match = tried-out _ _ _ _ _ s.posed l.turn (tried-turn l.invariant.tried c.loop-left-test.true) _ c.predicate_at-predicate.ensures _ _ _ _ _ _ _ l.invariant.tried (ats-room c.args.cursors.now _ s.posed.room) s.positions_in_bounds _ _ (short (goal.at.returns-then-not-jump c).In-Some) _ _ j _;
      standing_2 = rw (j.1.0, j.1.1) (record { each = l.invariant.tried.low.standing });
      within = rw j.1.0 l.invariant.tried.here-within;
      within_2 = rw j.1.1 l.invariant.tried.ps-within;
      ends_unchanged = c.jump.ensures.ends_unchanged ∙ l.invariant.ends;
      paras_len_unchanged = kept (goal.at.returns-then-not-jump c).After-falls_short;
    }

-- behind a move
moved : (c : Else-not-jump)
    → let l = c.loop-left in let a = c.args in
    Tried a.volume.now.bytes.now a.plan.now a.outline a.document.doc a.held (ats_of a.cursors.now) a.positions.now (ats_of c.jump.new.cursors) c.jump.new.positions
    (max l.largest (get_or c.jump.new.positions c.in-Some.short.var 0)) l.turn (a.outline.last - a.outline.condition)
    × (slack c.jump.new.positions < slack l.positions)
moved c =
    let l = c.loop-left in
    let s = c.requires in
    let a = c.args in
    let x = c.in-Some.short.var in
    let j = subst (λ (r : Bool). Jumped a.volume.now.bytes.now a.document.doc (get_or (ends_of a.cursors.now) x 0) c.in-Some.short.need x (ats_of l.cursors) l.positions r (ats_of c.jump.new.cursors) c.jump.new.positions) c.if-not-jump.false (rw l.invariant.ends at c.jump.ensures.jumped) in
    tried-jump _ _ _ _ _ s.posed l.turn (tried-turn l.invariant.tried c.loop-left-test.true) _ c.predicate_at-predicate.ensures _ _ _ _ _ _ _ l.invariant.tried (ats-room c.args.cursors.now _ s.posed.room) s.positions_in_bounds _ _ (subst (Told _ _ _) c.in-Some.is c.falls_short.ensures.told) c.if-x-held.false _ _ j

pub bounds-positions-x : goal.bounds-positions-x
bounds-positions-x c =
    let l = c.loop-left in
    let s = c.requires in
    let x = jump-var _ _ _ _ _ s.posed l.turn (tried-turn l.invariant.tried c.loop-left-test.true) _ c.predicate_at-predicate.ensures _ _ _ _ _ _ _ l.invariant.tried (ats-room c.args.cursors.now _ s.posed.room) s.positions_in_bounds _ _ (short (goal.at.bounds-positions-x c).In-Some) in
    let w = l.invariant.tried.ps-within.same_length in
    let j = c.jump.auto.positions in
    let p = s.positions_in_bounds in
    omega arith

pub loop-left-smaller : goal.loop-left-smaller
loop-left-smaller c =
    let less = (moved (goal.at.loop-left-smaller c).Else-not-jump).1 in
    let most = tried-last _ _ _ _ _ c.requires.posed in
    omega arith

pub loop-left-preserved : goal.loop-left-preserved
loop-left-preserved c = record {
  tried = rw c.max-largest.ensures (moved (goal.at.loop-left-preserved c).Else-not-jump).0;
  paras = kept (goal.at.loop-left-preserved c).After-falls_short;
  ends = c.jump.ensures.ends_unchanged ∙ c.loop-left.invariant.ends;
}

pub returns : goal.returns
returns c =
    let l = c.loop-left in
    let s = c.requires in record {
      held_match = tried-done _ _ _ _ _ s.posed _ _ _ (ats_of l.cursors) l.positions l.largest l.turn l.left s.held_le_vars s.positions_in_bounds l.invariant.tried (let t = c.loop-left-test.false in omega arith);
      standing_2 = record { each = l.invariant.tried.low.standing };
      within = l.invariant.tried.here-within;
      within_2 = l.invariant.tried.ps-within;
      ends_unchanged = l.invariant.ends;
      paras_len_unchanged = l.invariant.paras;
    }
