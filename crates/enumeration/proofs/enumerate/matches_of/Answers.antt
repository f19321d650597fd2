-- The tests of refusal 17 in order, then 16, then the matches.
use Prim.Native.Nat.{◌≤◌}
use native.Mathlib.Omega.{arith}
use mathlib.Core.Path.{refl, sym, ap, ◌∙◌}
use mathlib.Core.Bool.{true, false}
use Rattle.plan.specs.declared.answers.Sizes.{Sizes}
use Rattle.plan.specs.Check.{sizes}
use Rattle.plan.specs.Inner.Outline.{outline_at}
use Rattle.matcher.specs.declared.cursor.Cursor.{Cursor}
use Rattle.plan.proofs.Laws.Accepted.{given}
use Rattle.plan.proofs.Laws.Outline.{Outlined, outlined}
use Rattle.matcher.proofs.Laws.Cursors.{length-ats, length-ends, ats-at, ends-at}
use Rattle.matcher.proofs.Laws.Range.{range-number, range_doc, range_small}
use Rattle.matcher.proofs.Laws.Testing.{small_decides}
use Rattle.volume.proofs.Laws.Check.{good}
use Rattle.enumeration.proofs.Laws.Enumerating.{matched_17, matched_16, told-refused}
use Rattle.enumeration.proofs.Laws.Placing.{cursor-stretch, cursor-mark, document-at}
use Rattle.enumeration.proofs.enumerate.matches_of.Goals as goal
use Rattle.enumeration.proofs.enumerate.matches_of.Goals.{After-lay_out, then-from-outline-via-then-from-outline, then-from-outline-via-else-from-outline+then-doc-gt-LAST_DOC, then-from-outline-via-else-from-outline+else-doc-gt-LAST_DOC+then-not-in_document}

pub lay_out-requires-clause-patterns_in_bounds : goal.lay_out-requires-clause-patterns_in_bounds
lay_out-requires-clause-patterns_in_bounds c =
    let m = (given _ _ c.args.query.now.accepted).most-patterns in
    let n = ap (λ (s : Sizes). s.patterns) c.args.query.now.sizes_are in
    omega arith

pub bounds-table-pattern : goal.bounds-table-pattern
bounds-table-pattern c =
    let m = (given _ _ c.args.query.now.accepted).most-patterns in
    let n = ap (λ (s : Sizes). s.patterns) c.args.query.now.sizes_are in
    let l = c.lay_out.auto.table in
    omega arith

-- the outline that is read is that of the pattern
outline : (c : After-lay_out) → let a = c.args in Outlined a.query.now.plan.now a.pattern (outline_at c.lay_out.new.table a.pattern)
outline c = let n = ap (λ (s : Sizes). s.patterns) c.args.query.now.sizes_are in let p = c.requires in outlined c.lay_out.new.table c.lay_out.ensures c.args.pattern (omega arith) refl

pub returns-then-from-outline : goal.returns-then-from-outline
returns-then-from-outline c =
    let o = outline (goal.at.returns-then-from-outline c).After-lay_out in
    let a = c.args in
    told-refused a.query.now.volume.bytes.now a.query.now.plan.now a.pattern a.doc a.from.now a.out.now 17 0
    (matched_17 _ _ _ _ _ _ (sizes a.query.now.plan.now) c.args.query.now.accepted
    (elim c.then-from-outline.branch [
      | then-from-outline-via-then-from-outline w ↦ range-number _ _ _ _ _ (omega arith) (λ e. omega arith)
      | then-from-outline-via-else-from-outline+then-doc-gt-LAST_DOC w ↦ range_doc _ _ _ _ _ (omega arith) (omega arith) (omega arith)
      | then-from-outline-via-else-from-outline+else-doc-gt-LAST_DOC+then-not-in_document w
          ↦ range_small _ _ _ _ _ (omega arith) (omega arith) (omega arith) false (sym w.in_document.ensures ∙ w.if-not-in_document.true)
    ]))

pub returns-then-out-outline : goal.returns-then-out-outline
returns-then-out-outline c =
    let o = outline (goal.at.returns-then-out-outline c).After-lay_out in
    let a = c.args in
    told-refused a.query.now.volume.bytes.now a.query.now.plan.now a.pattern a.doc a.from.now a.out.now 16 0
    (matched_16 _ _ _ _ _ _ (sizes a.query.now.plan.now) c.args.query.now.accepted (range_small _ _ _ _ _ (omega arith) (omega arith) (omega arith) true (sym c.in_document.ensures ∙ c.if-not-in_document.false))
    (let v = o.entry.outlines.vars_are in let k = o.pattern-is in omega arith))

-- the pattern has at most eight variables
few : (c : After-lay_out) → (outline_at c.lay_out.new.table c.args.pattern).vars ≤ 8
few c =
    let o = outline c in
    let m = ((given _ _ c.args.query.now.accepted).well-made _ o.there).most-vars in
    let v = o.entry.outlines.vars_are in
    omega arith

pub set_cursors-requires-clause-vars_in_bounds : goal.set_cursors-requires-clause-vars_in_bounds
set_cursors-requires-clause-vars_in_bounds c = let m = few (goal.at.set_cursors-requires-clause-vars_in_bounds c).After-lay_out in omega arith

pub seek-starts-requires : goal.seek-starts-requires
seek-starts-requires c =
    let ok = c.args.query.now.volume.accepted in
    cursor-stretch _ ok 0 (good _ ok).lists-some c.starts_of-list.result c.starts_of-list.ensures

pub rarest_first-requires-clause-vars_in_bounds : goal.rarest_first-requires-clause-vars_in_bounds
rarest_first-requires-clause-vars_in_bounds c = let m = few (goal.at.rarest_first-requires-clause-vars_in_bounds c).After-lay_out in omega arith

pub write_matches-requires : goal.write_matches-requires
write_matches-requires c =
    let o = outline (goal.at.write_matches-requires c).After-lay_out in
    let m = few (goal.at.write_matches-requires c).After-lay_out in
    let v = o.entry.outlines.vars_are in
    let k = o.pattern-is in
    let firsts = c.set_cursors.new.cursors in
    let long = c.set_cursors.auto.cursors in
    let x = length-ats firsts in
    let y = length-ends firsts in
    let placed = c.set_cursors.ensures in
    let ok = c.args.query.now.volume.accepted in record {
      sought = record {
        posed = record {
          accepted = c.args.query.now.accepted;
          pattern = o.there;
          outlines = o.entry.outlines;
          document = document-at _ ok c.args.doc (omega arith) c.starts_of-list.result c.seek-starts.result
              c.starts_of-list.ensures c.seek-starts.ensures.value;
          room = omega arith;
          ends_are = λ x h. ends-at firsts x ∙ ap (λ (k : Cursor). k.end) (placed x h);
        };
        order_is = rw v c.rarest_first.ensures.rarest_first.each;
        firsts-room = omega arith;
        firsts_are = λ x h. rw (ats-at firsts x) (cursor-mark _ ok _ (((given _ _ c.args.query.now.accepted).well-made _ o.there).lists x (omega arith)).1 _ _ (placed x h));
      };
      from_len = omega arith;
      in_document = (small_decides c.args.from.now).yes (sym c.in_document.ensures ∙ c.if-not-in_document.false);
      vars_in_bounds = omega arith;
    }
