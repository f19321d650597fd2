-- `Sources::enter` meets its contract. Assumes nothing.
use native.Mathlib.Omega.{arith}
use mathlib.Core.Path.{refl}
use Rattle.join.proofs.Laws.Reading.{Bounds, bounds, entered}
use Rattle.join.proofs.sources.Sources.enter.Goals as goal
use Rattle.join.proofs.sources.Sources.enter.Goals.{Start}

-- where the merge stands
standing : (s : Start) → Bounds s.args.self.now.first.now s.args.self.now.second.now s.args.merge
standing s = bounds s.args.self.now.first.now s.args.self.now.second.now s.args.self.now.joinable s.args.merge s.requires.stands_at

pub count_at-requires : goal.count_at-requires
count_at-requires c =
    let b = standing (goal.at.count_at-requires c).Start in
    let l = c.requires.lists_bound in
    omega arith

pub overflow_add-result-2 : goal.overflow_add-result-2
overflow_add-result-2 c =
    let b = standing (goal.at.overflow_add-result-2 c).Start in
    omega arith

pub count_at-requires-2 : goal.count_at-requires-2
count_at-requires-2 c =
    let b = standing (goal.at.count_at-requires-2 c).Start in
    let l = c.requires.lists_bound in
    omega arith

pub overflow_add-result-3 : goal.overflow_add-result-3
overflow_add-result-3 c =
    let b = standing (goal.at.overflow_add-result-3 c).Start in
    omega arith

pub returns : goal.returns
returns c =
    let a = c.args in
    let r = c.requires in record {
      stands_at_2 = entered a.self.now.first.now a.self.now.second.now c.args.self.now.joinable a.merge _ _ r.stands_at r.first_value r.second_value r.lists_bound
          c.count_at.ensures c.count_at-2.ensures;
      result_value = refl;
      lists_value = refl;
    }
