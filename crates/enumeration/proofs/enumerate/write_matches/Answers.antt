use Prim.Native.Nat.{◌≤◌}
use native.Mathlib.Omega.{arith}
use mathlib.Core.Path.{◌≡◌, refl, ap, ◌∙◌}
use mathlib.Core.Bool.{Bool, true, false}
use mathlib.Core.List.{List, ◌++◌}
use lib.ListN.{length, take, drop, replicate}
use Rattle.seq.specs.Lists.{first}
use Rattle.volume.specs.Layout.{lists_of}
use Rattle.fulltext.specs.Order.{matches_from}
use Rattle.matcher.specs.Inner.Settling.{given_if}
use Rattle.enumeration.specs.Inner.Walking.{form_of}
use Rattle.enumeration.proofs.Laws.Attempts.{posed-some, posed-few}
use Rattle.enumeration.proofs.Laws.Writing.{begins, room-count, fits_more, wrote, stops, ends_there, wrote_kept}
use Rattle.enumeration.proofs.enumerate.write_matches.Goals as goal
use Rattle.enumeration.proofs.enumerate.write_matches.Goals.{After-next_match, Start}

-- how many variables there are
some-vars : (s : Start) → 1 ≤ s.args.pattern.now.outline.vars
some-vars s = posed-some _ _ _ _ _ s.requires.sought.posed

few-vars : (s : Start) → s.args.pattern.now.outline.vars ≤ 8
few-vars s = posed-few _ _ _ _ _ s.requires.sought.posed

pub nonzero_div-room : goal.nonzero_div-room
nonzero_div-room c = let s = some-vars (goal.at.nonzero_div-room c).Start in omega arith

pub loop-walk-init : goal.loop-walk-init
loop-walk-init c =
    let p = c.requires in
    let e = ap (λ (xs : List _). xs ++ drop c.args.pattern.now.outline.vars (replicate 8 0)) c.copy_from_slice.ensures.after in
    record {
      writing = begins _ _ _ _ _ _ _ p.sought _ _ _ p.from_len (few-vars (goal.at.loop-walk-init c).Start) p.in_document e;
      marks_end = refl;
      here_end = refl;
      positions_long = refl;
    }

-- what was sought, by whether there is one
sought : (m : After-next_match) (t : Bool) → m.next_match.result ≡ t
    → let a = m.args.pattern.now in
    first (matches_from (lists_of a.query.volume.bytes.now) a.document.doc (form_of a) (take a.outline.vars m.loop-walk.walk.lows))
    ≡ given_if t (take a.outline.vars m.next_match.new.walk.positions)
sought m t q =
    let n = m.args.pattern.now.outline.vars in
    m.next_match.ensures.next_value ∙ ap (λ (b : Bool). given_if b (take n m.next_match.new.walk.positions)) q

positions-long : (m : After-next_match) → length m.next_match.new.walk.positions ≡ 8
positions-long m = m.next_match.ensures.positions_len_unchanged ∙ m.loop-walk.invariant.positions_long

pub returns-then-count-room : goal.returns-then-count-room
returns-then-count-room c =
    let p = c.requires in
    let m = (goal.at.returns-then-count-room c).After-next_match in
    let w = stops _ _ _ _ _ _ _ p.sought _ _ _ _ _ _ c.loop-walk.invariant.writing _ (positions-long m) (sought m true c.loop-walk-test.true) (omega arith) _ c.copy_from_slice-then-count-room.ensures.after in
    wrote_kept _ _ _ _ _ _ _ p.sought _ _ p.from_len p.in_document p.vars_in_bounds _ _ w

pub put_row-requires : goal.put_row-requires
put_row-requires c =
    let k = room-count _ _ _ _ _ _ _ c.requires.sought _ _ _ _ _ _ c.loop-walk.invariant.writing in
    let r = fits_more c.loop-walk.count c.args.pattern.now.outline.vars (length c.args.out.now) (some-vars (goal.at.put_row-requires c).Start) (omega arith) in
    let f = few-vars (goal.at.put_row-requires c).Start in
    let p = positions-long (goal.at.put_row-requires c).After-next_match in
    record { n_in_bounds = omega arith; n_in_bounds_2 = omega arith }

pub set_marks-requires : goal.set_marks-requires
set_marks-requires c = few-vars (goal.at.set_marks-requires c).Start

pub loop-walk-preserved : goal.loop-walk-preserved
loop-walk-preserved c =
    let i = c.loop-walk.invariant in
    let m = (goal.at.loop-walk-preserved c).After-next_match in
    let k = room-count _ _ _ _ _ _ _ c.requires.sought _ _ _ _ _ _ i.writing in
    let t = c.loop-walk-test.true in
    let e = c.next_match.ensures in
    record {
      writing =
          wrote _ _ _ _ _ _ _ c.requires.sought _ _ _ _ _ _ i.writing _ (positions-long m) (sought m true t) (few-vars (goal.at.loop-walk-preserved c).Start) _ _
          (e.standing t) c.set_marks.ensures.by_index (omega arith) _ _ _ c.put_row.ensures e.lows_len_unchanged c.step_past.ensures;
      marks_end = c.set_marks.ensures.ends_unchanged ∙ e.marks_end;
      here_end = e.ends_unchanged ∙ i.here_end;
      positions_long = positions-long m;
    }

pub returns : goal.returns
returns c =
    let p = c.requires in
    let w = ends_there _ _ _ _ _ _ _ p.sought _ _ _ _ _ _ c.loop-walk.invariant.writing (sought (goal.at.returns c).After-next_match false c.loop-walk-test.false) in
    wrote_kept _ _ _ _ _ _ _ p.sought _ _ p.from_len p.in_document p.vars_in_bounds _ _ w
