-- `testing::is_match` meets its contract: each variable stands at its position, and a search with all of them held finds them. Assumes nothing.
use Prim.Native.Nat.{ℕ}
use native.Mathlib.Omega.{arith}
use mathlib.Core.Path.{◌≡◌, subst}
use mathlib.Core.List.{List}
use lib.ListN.{length, take}
use lib.Seq.{length-take-le}
use Rattle.volume.specs.Layout.{lists_of}
use Rattle.plan.specs.Accepted.{pattern_at}
use Rattle.fulltext.specs.Inner.Bounds.{HeldMatch}
use Rattle.matcher.proofs.Laws.Cursors.{length-ends}
use Rattle.matcher.proofs.Laws.Testing.{posed-given, few-vars, at-posed, front-take, front-standing, held-match, match-not}
use Rattle.matcher.proofs.testing.is_match.Goals as goal
use Rattle.matcher.proofs.testing.is_match.Goals.{After-put_row}

-- the positions at the front of the array that is searched from
front : (c : After-put_row) → let a = c.args in take (length a.positions.now) c.put_row.new.out ≡ a.positions.now
front c = let a = c.args in front-take a.positions.now _ _ c.put_row.ensures

pub stand_at-requires : goal.stand_at-requires
stand_at-requires c = let q = few-vars c.requires in record {
  asked = c.requires;
  positions_in_bounds = omega arith;
}

pub returns-then-not-stand_at : goal.returns-then-not-stand_at
returns-then-not-stand_at c =
    let a = c.args in
    match-not (lists_of a.query.now.volume.bytes.now) a.doc (pattern_at a.query.now.plan.now a.outline.pattern) a.positions.now _ c.stand_at.ensures.stood_at.fits_are (c.if-not-stand_at.true)

pub rarest_first-requires : goal.rarest_first-requires
rarest_first-requires c =
    let s = c.requires in
    let n = s.number in
    let m = s.outlines.vars_are in
    let q = few-vars s in
    record {
      accepted = c.args.query.now.accepted;
      pattern_bound = s.pattern;
      outlines = s.outlines;
      vars_in_bounds = omega arith;
    }

pub match_from-requires : goal.match_from-requires
match_from-requires c =
    let s = c.requires in
    let a = c.args in
    let stood = c.stand_at in
    let yes = c.if-not-stand_at.false in
    let n = s.number in
    let m = s.outlines.vars_are in
    let q = few-vars s in
    let cursors = stood.ensures.cursors_len_unchanged in
    let e = length-ends stood.new.cursors in
    let put = c.put_row.auto.out in
    let f = pattern_at a.query.now.plan.now a.outline.pattern in record {
      posed = at-posed s _ (omega arith) (stood.ensures.stood_at.ends_are yes) _ c.starts_of-starts.ensures;
      order = rw m c.rarest_first.ensures.rarest_first.each;
      positions_in_bounds = omega arith;
      standing = front-standing a.query.now.volume.bytes.now a.doc f _ a.positions.now _ n (front (goal.at.match_from-requires c).After-put_row) (stood.ensures.stood_at.standing yes);
      held_le_vars = omega arith;
      paras_in_bounds = omega arith;
    }

pub returns : goal.returns
returns c =
    let s = c.requires in
    let a = c.args in
    let ps = a.positions.now in
    let n = s.number in
    let m = s.outlines.vars_are in
    let q = few-vars s in
    let put = c.put_row.auto.out in
    let found = c.match_from in
    let w = found.ensures.within_2.same_length in
    let qs = found.new.positions in
    let e : a.outline.vars ≡ length ps = omega arith in
    held-match a.query.now.volume.bytes.now (posed-given s).volume-accepted a.doc (pattern_at a.query.now.plan.now a.outline.pattern) ps found.result (take (length ps) qs)
    (length-take-le (length ps) qs (omega arith))
    (subst (λ (ls : List ℕ). HeldMatch (lists_of a.query.now.volume.bytes.now) a.doc (pattern_at a.query.now.plan.now a.outline.pattern) ls (length ps) found.result (take (length ps) qs)) (front (goal.at.returns c).After-put_row)
    (rw e at found.ensures.held_match))
