use Prim.Native.Nat.{◌≤◌}
use native.Mathlib.Omega.{arith}
use mathlib.Core.Path.{◌≡◌, sym, ◌∙◌}
use lib.ListN.{length}
use borrow.Author.Rules.{rules}
use Rattle.matcher.specs.Inner.Cursors.{ats_of}
use Rattle.matcher.proofs.Laws.Cursors.{length-ats, ats-at, ats-set}
use Rattle.enumeration.proofs.Laws.Attempts.{posed-vars, posed-some, posed-few, posed-rise, set-ends}
use Rattle.enumeration.proofs.Laws.Carries.{carried_first, carried_hit, carried-out, carried-next}
use Rattle.enumeration.proofs.next.next_match.Goals as goal
use Rattle.enumeration.proofs.next.next_match.Goals.{Start}

-- there is room for the variables
lows-room : (s : Start) → s.args.pattern.now.outline.vars ≤ length s.args.walk.now.lows
lows-room s =
    let f = posed-few _ _ _ _ _ s.requires.sought.posed in
    let e : length s.args.walk.now.lows ≡ 8 = search rules in
    omega arith

marks-room : (s : Start) → s.args.pattern.now.outline.vars ≤ length (ats_of s.args.walk.now.marks)
marks-room s =
    let f = posed-few _ _ _ _ _ s.requires.sought.posed in
    let e : length s.args.walk.now.marks ≡ 8 = search rules in
    let l = length-ats s.args.walk.now.marks in
    omega arith

pub overflow_sub-held : goal.overflow_sub-held
overflow_sub-held c = let s = posed-some _ _ _ _ _ c.requires.sought.posed in omega arith

pub loop-held-init : goal.loop-held-init
loop-held-init c =
    let p = c.requires in
    let q = p.sought.posed in
    let n = posed-some _ _ _ _ _ q in
    let s = (goal.at.loop-held-init c).Start in
    record {
      carried = carried_first _ (posed-rise _ _ _ _ _ q) _ _ _ (posed-vars _ _ _ _ _ q) _ _ (lows-room s) (marks-room s) _ (omega arith) p.by_index p.walking.marked;
      marks_end = p.walking.marks_end;
      here_end = p.walking.here_end;
      positions_length = search rules;
    }

pub returns-then-held-eq0-clause-next_value : goal.returns-then-held-eq0-clause-next_value
returns-then-held-eq0-clause-next_value c =
    let l = c.loop-held in
    let q = c.requires.sought.posed in
    let s = (goal.at.returns-then-held-eq0-clause-next_value c).Start in
    carried-out _ (posed-rise _ _ _ _ _ q) _ _ _ (posed-vars _ _ _ _ _ q) _ _ (lows-room s) (marks-room s) l.walk.lows (ats_of l.walk.marks) l.held l.invariant.carried _ c.match_held.result
    c.match_held.ensures.held_match c.loop-held-test.true (omega arith)

pub loop-held-preserved : goal.loop-held-preserved
loop-held-preserved c =
    let l = c.loop-held in
    let p = c.requires in
    let q = p.sought.posed in
    let s = (goal.at.loop-held-preserved c).Start in
    let firsts = c.args.pattern.now.firsts in
    let e = c.match_held.ensures in
    record {
      carried =
          rw (e.lows_unchanged, e.marks_unchanged, ats-set)
          (rw (ats-at firsts l.held) at
          (carried-next _ (posed-rise _ _ _ _ _ q) _ _ _ (posed-vars _ _ _ _ _ q) _ _ (lows-room s) (marks-room s) l.walk.lows (ats_of l.walk.marks) l.held l.invariant.carried _ c.match_held.result
          e.held_match (ats_of firsts) (p.sought.firsts_are l.held l.invariant.carried.var) c.loop-held-test.true (λ z. omega arith)));
      marks_end = rw e.marks_unchanged (set-ends l.walk.marks firsts l.held (sym l.invariant.marks_end) ∙ l.invariant.marks_end);
      here_end = e.ends_unchanged ∙ l.invariant.here_end;
      positions_length = e.positions_len_unchanged ∙ l.invariant.positions_length;
    }

pub returns-clause-next_value : goal.returns-clause-next_value
returns-clause-next_value c =
    let l = c.loop-held in
    let q = c.requires.sought.posed in
    let s = (goal.at.returns-clause-next_value c).Start in
    carried_hit _ (posed-rise _ _ _ _ _ q) _ _ _ (posed-vars _ _ _ _ _ q) _ _ (lows-room s) (marks-room s) l.walk.lows (ats_of l.walk.marks) l.held l.invariant.carried _ c.match_held.result
    c.match_held.ensures.held_match c.loop-held-test.false
