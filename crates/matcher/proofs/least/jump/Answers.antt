-- `least::jump` meets its contract: the cursor seeks the position; each way out tells what is there. Assumes nothing.
use Prim.Native.Nat.{◌+◌, ◌*◌}
use mathlib.Core.Path.{refl, sym, ◌∙◌}
use lib.ListN.{get_or}
use Rattle.matcher.specs.Inner.Cursors.{Arrived, ats_of, ends_of}
use Rattle.matcher.proofs.Laws.Cursors.{ats-at, ends-at, ats-set, ends-kept}
use Rattle.matcher.proofs.Laws.Tried.{jumped-out, jumped-away, jumped-there}
use Rattle.matcher.proofs.least.jump.Goals as goal
use Rattle.matcher.proofs.least.jump.Goals.{After-advance-moved}

pub advance-moved-requires : goal.advance-moved-requires
advance-moved-requires c = let a = c.args in rw (ats-at a.cursors.now a.x, ends-at a.cursors.now a.x) at c.requires.stretch

-- where the cursor has come to
reached : (c : After-advance-moved)
    → let a = c.args in Arrived a.volume.now (a.doc * 65536 + a.need) (get_or (ats_of a.cursors.now) a.x 0) (get_or (ends_of a.cursors.now) a.x 0) c.advance-moved.result
reached c = let a = c.args in rw (ats-at a.cursors.now a.x, ends-at a.cursors.now a.x, ← c.bound_of.ensures) c.advance-moved.ensures

pub returns-in_default : goal.returns-in_default
returns-in_default c =
    let a = c.args in
    record {
      jumped = jumped-out _ _ _ _ a.x (ats_of a.cursors.now) a.positions.now _ (reached (goal.at.returns-in_default c).After-advance-moved) c.in_default.is;
      ends_unchanged = refl;
    }

pub returns-then-doc : goal.returns-then-doc
returns-then-doc c =
    let a = c.args in
    record {
      jumped = jumped-away _ _ _ _ a.x (ats_of a.cursors.now) a.positions.now _ (reached (goal.at.returns-then-doc c).After-advance-moved) _ c.in-Some.is (λ e. c.if-doc.true (c.doc.ensures ∙ e));
      ends_unchanged = refl;
    }

pub returns : goal.returns
returns c =
    let a = c.args in
    record {
      jumped = rw (ats-set a.cursors.now a.x _, c.pos.ensures) (jumped-there _ _ _ _ a.x (ats_of a.cursors.now) a.positions.now _ (reached (goal.at.returns c).After-advance-moved) _ c.in-Some.is (sym c.doc.ensures ∙ c.if-doc.false));
      ends_unchanged = ends-kept a.cursors.now a.x _ refl;
    }
