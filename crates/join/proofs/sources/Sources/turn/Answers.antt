-- `Sources::turn` meets its contract: a run of the first volume, a run of the second, or a list entered. Assumes nothing.
use Prim.Native.Nat.{◌+◌}
use native.Mathlib.Omega.{arith}
use mathlib.Core.Path.{◌≡◌}
use Rattle.join.proofs.Laws.Reading.{Bounds, bounds, more-lists, second-lifts, turned-first, turned-second, turned-entered}
use Rattle.join.proofs.sources.Sources.turn.Goals as goal
use Rattle.join.proofs.sources.Sources.turn.Goals.{Else-merge, Start}

-- where the merge stands
standing : (s : Start) → Bounds s.args.self.now.first.now s.args.self.now.second.now s.args.merge
standing s = bounds s.args.self.now.first.now s.args.self.now.second.now s.args.self.now.joinable s.args.merge s.requires.stands_at

-- the list is read in the first volume
first_read : (c : Else-merge) → let a = c.args in a.merge.first ≡ a.merge.stop
first_read c = let h = c.requires.stands_at.first-high in let l = c.if-merge.false in omega arith

pub copy_run-requires : goal.copy_run-requires
copy_run-requires c =
    let a = c.args in
    let b = standing (goal.at.copy_run-requires c).Start in
    let e = c.run_length-n.ensures in
    let words = a.self.now.words in record {
      n_bound = omega arith;
      n_bound_2 = omega arith;
      n_in_bounds = omega arith;
      liftable = record { each = λ k l. words.each (a.merge.first + k) (omega arith) (omega arith) };
    }

pub returns-then-merge : goal.returns-then-merge
returns-then-merge c =
    let a = c.args in
    let e = c.run_length-n.ensures in
    let h = c.if-merge.true in record {
      turned = turned-first a.self.now.lift a.self.now.first.now a.self.now.second.now c.args.self.now.joinable a.merge _ a.to a.words.now _
          c.requires.stands_at (omega arith) (omega arith) c.copy_run.ensures;
      merge_bound_2 = omega arith;
    }

pub copy_run-requires-then-merge-2 : goal.copy_run-requires-then-merge-2
copy_run-requires-then-merge-2 c =
    let a = c.args in
    let b = standing (goal.at.copy_run-requires-then-merge-2 c).Start in
    let e = c.run_length-n-then-merge-2.ensures in
    let h = c.if-merge-2.true in record {
      n_bound = omega arith;
      n_bound_2 = omega arith;
      n_in_bounds = omega arith;
      liftable = second-lifts a.self.now.first.now a.self.now.second.now c.args.self.now.joinable a.self.now.lift a.merge _ c.args.self.now.lifts c.requires.stands_at (omega arith);
    }

pub returns-then-merge-2 : goal.returns-then-merge-2
returns-then-merge-2 c =
    let a = c.args in
    let e = c.run_length-n-then-merge-2.ensures in
    let h = c.if-merge-2.true in record {
      turned = turned-second a.self.now.lift a.self.now.first.now a.self.now.second.now c.args.self.now.joinable a.merge _ a.to a.words.now _
          c.requires.stands_at (first_read (goal.at.returns-then-merge-2 c).Else-merge) (omega arith) (omega arith) c.copy_run-then-merge-2.ensures;
      merge_bound_2 = omega arith;
    }

pub enter-requires : goal.enter-requires
enter-requires c =
    let a = c.args in
    let j = c.args.self.now.joinable in
    let stands = c.requires.stands_at in
    let p = first_read (goal.at.enter-requires c).Else-merge in
    let q : a.merge.second ≡ a.merge.end = let h = stands.second-high in let l = c.if-merge-2.false in omega arith in
    record {
      stands_at = stands;
      first_value = p;
      second_value = q;
      lists_bound = more-lists a.self.now.first.now a.self.now.second.now j a.merge stands p q c.requires.merge_bound;
    }

pub returns : goal.returns
returns c =
    let a = c.args in
    let r = c.enter.ensures in
    let lists = r.lists_value in
    let read = r.result_value in
    record {
      turned = turned-entered a.self.now.lift a.self.now.first.now a.self.now.second.now c.args.self.now.joinable a.merge _ a.to a.words.now r.stands_at_2 read (omega arith);
      merge_bound_2 = omega arith;
    }
