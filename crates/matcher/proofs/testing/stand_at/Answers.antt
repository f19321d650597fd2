use Prim.Native.Nat.{◌<◌}
use native.Mathlib.Omega.{arith}
use mathlib.Core.Path.{refl, ◌∙◌}
use lib.ListN.{length-set}
use Rattle.volume.specs.Layout.{list_count}
use Rattle.matcher.specs.Inner.Cursors.{ats_of, ends_of}
use Rattle.matcher.proofs.Laws.Placed.{voiced-list}
use Rattle.matcher.proofs.Laws.Testing.{vars-order, voice-of, voice-few, at_next, at-not, at_all}
use Rattle.matcher.proofs.testing.stand_at.Goals as goal
use Rattle.matcher.proofs.testing.stand_at.Goals.{After-list_at-list}

-- the list that a turn reads is one of the volume
there : (c : After-list_at-list) → c.list_at-list.result < list_count c.args.query.now.volume.bytes.now
there c =
    let w = voice-of c.requires.asked c.loop-x.x c.loop-x-test.true in
    rw (voiced-list w c.list_at-list.result c.list_at-list.ensures) w.there

pub loop-x-init : goal.loop-x-init
loop-x-init c = record {
  brought = record { at_are = λ y h. absurd (let z : ⊥ = omega arith in z); ends_are = λ y h. absurd (let z : ⊥ = omega arith in z) };
  same_length = refl;
}

pub overflow_sub-row : goal.overflow_sub-row
overflow_sub-row c = vars-order c.requires.asked

pub overflow_add-row : goal.overflow_add-row
overflow_add-row c = let w = voice-few c.requires.asked c.loop-x.x c.loop-x-test.true in omega arith

pub list_at-list-requires : goal.list_at-list-requires
list_at-list-requires c =
    let w = voice-of c.requires.asked c.loop-x.x c.loop-x-test.true in
    record {
      row_bound = w.inside;
      row_value = w.formed;
      by_index = (_, w.kind-is);
    }

pub cursor_at-requires : goal.cursor_at-requires
cursor_at-requires c =
    let s = c.requires.asked in
    record {
      list_bound = there (goal.at.cursor_at-requires c).After-list_at-list;
      doc_bound = s.doc-small;
      pos_bound = s.small c.loop-x.x c.loop-x-test.true;
    }

pub returns-in_default : goal.returns-in_default
returns-in_default c =
    let l = c.loop-x in record {
      stood_at = at-not c.requires.asked l.x c.loop-x-test.true _ c.list_at-list.ensures (rw c.in_default.is at c.cursor_at.ensures) (ends_of l.cursors) (ats_of l.cursors);
      cursors_len_unchanged = l.invariant.same_length;
    }

pub bounds-cursors-x : goal.bounds-cursors-x
bounds-cursors-x c = let e = c.loop-x.invariant.same_length in let p = c.requires.positions_in_bounds in omega arith

pub loop-x-preserved : goal.loop-x-preserved
loop-x-preserved c =
    let l = c.loop-x in
    let e = l.invariant.same_length in
    let p = c.requires.positions_in_bounds in record {
      brought = at_next c.requires.asked l.x c.loop-x-test.true _ c.list_at-list.ensures (rw c.in-Some.is at c.cursor_at.ensures) l.cursors l.invariant.brought (omega arith);
      same_length = length-set l.cursors l.x _ ∙ e;
    }

pub returns : goal.returns
returns c = let l = c.loop-x in record {
  stood_at = at_all c.requires.asked l.x (ends_of l.cursors) (ats_of l.cursors) c.loop-x-test.false l.invariant.brought;
  cursors_len_unchanged = l.invariant.same_length;
}
