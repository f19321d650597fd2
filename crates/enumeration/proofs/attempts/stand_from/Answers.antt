use Prim.Native.Nat.{◌<◌}
use native.Mathlib.Omega.{arith}
use mathlib.Core.Path.{◌≡◌, refl, ◌∙◌}
use lib.ListN.{length, get_or, take}
use lib.Seq.{length-take-le, get_or-take}
use borrow.Author.Rules.{rules}
use Rattle.matcher.specs.Inner.Cursors.{ats_of, ends_of}
use Rattle.matcher.proofs.Laws.Cursors.{length-ats}
use Rattle.enumeration.proofs.Laws.Attempts.{posed-few, mark-stretch, mark-start, standing-next, standing-out, standing-done, set-ats, set-at-ends, jumps-from}
use Rattle.enumeration.proofs.attempts.stand_from.Goals as goal
use Rattle.enumeration.proofs.attempts.stand_from.Goals.{Start, In-loop-x}

-- arrays have their lengths
here-long : (s : Start) → length (ats_of s.args.here.now) ≡ 8
here-long s = let e : length s.args.here.now ≡ 8 = search rules in length-ats s.args.here.now ∙ e

positions-long : (s : Start) → length s.args.positions.now ≡ 8
positions-long s = search rules

-- the variable of a turn is one of the pattern's
var : (c : In-loop-x) → get_or (take c.args.pattern.now.outline.vars c.args.pattern.now.order) c.loop-x.x-index 0 < c.args.pattern.now.outline.vars
var c =
    let o = c.requires.sought.order_is in
    let n = c.args.pattern.now.outline.vars in
    let e = length-take-le n c.args.pattern.now.order o.room in
    let i : c.loop-x.x-index < n = omega arith in
    let t = get_or-take n c.args.pattern.now.order c.loop-x.x-index 0 i in
    let b = o.below c.loop-x.x-index i in
    omega arith

-- the cursors are on the pattern's lists
ends : (c : In-loop-x) → ends_of c.loop-x.here ≡ ends_of c.args.pattern.now.firsts
ends c = c.loop-x.invariant.ends ∙ c.requires.here_end

pub jump-requires-clause-stretch : goal.jump-requires-clause-stretch
jump-requires-clause-stretch c =
    let p = c.requires in
    let i = (goal.at.jump-requires-clause-stretch c).In-loop-x in
    let v = var i in
    let f = posed-few _ _ _ _ _ p.sought.posed in
    let h = here-long (goal.at.jump-requires-clause-stretch c).Start in
    let q = positions-long (goal.at.jump-requires-clause-stretch c).Start in
    let x = get_or (take c.args.pattern.now.outline.vars c.args.pattern.now.order) c.loop-x.x-index 0 in
    rw (set-ats c.loop-x.here c.args.marks.now x, set-at-ends c.loop-x.here c.args.marks.now x ∙ ends i)
    (mark-start _ _ _ _ _ _ _ _ (ats_of c.loop-x.here) c.loop-x.positions c.loop-x.x-index c.loop-x.invariant.standing (omega arith) (omega arith) _ (mark-stretch _ _ _ _ _ p.sought.posed _ _ p.marked _ v))

pub returns-then-not-jump-clause-stood_from : goal.returns-then-not-jump-clause-stood_from
returns-then-not-jump-clause-stood_from c =
    let p = c.requires in
    let i = (goal.at.returns-then-not-jump-clause-stood_from c).In-loop-x in
    let v = var i in
    let f = posed-few _ _ _ _ _ p.sought.posed in
    let h = here-long (goal.at.returns-then-not-jump-clause-stood_from c).Start in
    let q = positions-long (goal.at.returns-then-not-jump-clause-stood_from c).Start in
    let x = get_or (take c.args.pattern.now.outline.vars c.args.pattern.now.order) c.loop-x.x-index 0 in
    standing-out _ _ _ _ _ _ _ _ (ats_of c.loop-x.here) c.loop-x.positions c.loop-x.x-index c.loop-x.invariant.standing (omega arith) (omega arith) _ _ _ v c.jump.result
    (jumps-from c.loop-x.here c.args.marks.now x _ _ _ _ _ _ _ _ (ends i) c.jump.ensures.jumped) c.if-not-jump.true

pub returns-then-not-jump-clause-ends_unchanged : goal.returns-then-not-jump-clause-ends_unchanged
returns-then-not-jump-clause-ends_unchanged c =
    let i = (goal.at.returns-then-not-jump-clause-ends_unchanged c).In-loop-x in
    c.jump.ensures.ends_unchanged ∙ set-at-ends c.loop-x.here c.args.marks.now _ ∙ c.loop-x.invariant.ends

pub loop-x-preserved : goal.loop-x-preserved
loop-x-preserved c =
    let p = c.requires in
    let i = (goal.at.loop-x-preserved c).In-loop-x in
    let v = var i in
    let f = posed-few _ _ _ _ _ p.sought.posed in
    let h = here-long (goal.at.loop-x-preserved c).Start in
    let q = positions-long (goal.at.loop-x-preserved c).Start in
    let x = get_or (take c.args.pattern.now.outline.vars c.args.pattern.now.order) c.loop-x.x-index 0 in
    record {
      standing =
          standing-next _ _ _ _ _ _ _ _ (ats_of c.loop-x.here) c.loop-x.positions c.loop-x.x-index c.loop-x.invariant.standing (omega arith) (omega arith) _ _ c.jump.result
          (jumps-from c.loop-x.here c.args.marks.now x _ _ _ _ _ _ _ _ (ends i) c.jump.ensures.jumped) c.if-not-jump.false;
      ends = c.jump.ensures.ends_unchanged ∙ set-at-ends c.loop-x.here c.args.marks.now x ∙ c.loop-x.invariant.ends;
    }

pub returns-clause-stood_from : goal.returns-clause-stood_from
returns-clause-stood_from c =
    let o = c.requires.sought.order_is in
    let e = length-take-le c.args.pattern.now.outline.vars c.args.pattern.now.order o.room in
    standing-done _ _ _ _ _ _ _ _ _ _ c.args.pattern.now.order _ _ refl (omega arith) o c.loop-x.invariant.standing
