use native.Mathlib.Omega.{arith}
use mathlib.Core.Path.{refl}
use Rattle.join.specs.declared.reading.Merge.{Merge}
use Rattle.join.specs.Inner.Reading.{StandsAt}
use Rattle.join.proofs.Laws.Reading.{Bounds, bounds, turned_none, turned_then}
use Rattle.join.proofs.sources.Sources.fill.Goals as goal
use Rattle.join.proofs.sources.Sources.fill.Goals.{After-turn-next, Start}

-- where a merge stands
standing : (s : Start) (c : Merge) → let a = s.args in StandsAt a.self.now.first.now a.self.now.second.now c
    → Bounds a.self.now.first.now a.self.now.second.now c
standing s c h = let a = s.args in bounds a.self.now.first.now a.self.now.second.now s.args.self.now.joinable c h

pub loop-to-init : goal.loop-to-init
loop-to-init c =
    let a = c.args in
    let stands = c.requires.stands_at in
    (turned_none a.self.now.lift a.self.now.first.now a.self.now.second.now c.args.self.now.joinable a.merge a.from a.words.now stands (omega arith), omega arith, refl)

pub overflow_add-here : goal.overflow_add-here
overflow_add-here c =
    let b = standing (goal.at.overflow_add-here c).Start c.loop-to.here c.loop-to.invariant.0.stands in
    omega arith

-- where the merge stands behind a turn
after : (c : After-turn-next) → let a = c.args in Bounds a.self.now.first.now a.self.now.second.now c.turn-next.result
after c =
    let a = c.args in
    bounds a.self.now.first.now a.self.now.second.now c.args.self.now.joinable c.turn-next.result c.turn-next.ensures.turned.stands

pub overflow_add-to : goal.overflow_add-to
overflow_add-to c =
    let b = after (goal.at.overflow_add-to c).After-turn-next in
    omega arith

pub overflow_add-to-in-loop-to : goal.overflow_add-to-in-loop-to
overflow_add-to-in-loop-to c =
    let b = standing (goal.at.overflow_add-to-in-loop-to c).Start c.loop-to.here c.loop-to.invariant.0.stands in
    omega arith

pub loop-to-smaller : goal.loop-to-smaller
loop-to-smaller c =
    let e = c.args.self.now.all_is in
    let b = after (goal.at.loop-to-smaller c).After-turn-next in
    let h = c.turn-next.ensures.turned.stands.lists in
    let m = c.turn-next.ensures.merge_bound_2 in
    omega arith

pub loop-to-preserved : goal.loop-to-preserved
loop-to-preserved c =
    let a = c.args in
    let i = c.loop-to.invariant in
    let o = i.0.onward in
    let n = c.turn-next.ensures.turned.onward in (
      turned_then a.self.now.lift a.self.now.first.now a.self.now.second.now c.args.self.now.joinable a.merge c.loop-to.here c.turn-next.result a.from c.loop-to.to
          a.words.now c.loop-to.words _ c.requires.stands_at c.requires.words_len i.1 i.0 c.turn-next.ensures.turned,
      omega arith,
      omega arith,
    )

pub returns-else-here-self : goal.returns-else-here-self
returns-else-here-self c =
    let h = c.if-here-self.false in
    let e = c.args.self.now.all_is in
    let i = c.loop-to.invariant.0 in
    let b = standing (goal.at.returns-else-here-self c).Start c.loop-to.here i.stands in
    let o = i.onward in
    let n = i.inside in
    record {
      turned = i;
      result_value = omega arith;
    }

pub returns-after-loop-to : goal.returns-after-loop-to
returns-after-loop-to c =
    let e = c.args.self.now.all_is in
    let i = c.loop-to.invariant.0 in
    let b = standing (goal.at.returns-after-loop-to c).Start c.loop-to.here i.stands in
    let o = i.onward in
    let n = i.inside in
    record {
      turned = i;
      result_value = omega arith;
    }
