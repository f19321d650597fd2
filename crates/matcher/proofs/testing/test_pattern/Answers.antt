-- `testing::test_pattern` meets its contract: the tests of refusal 17 in order, then the match. Assumes nothing.
use Prim.Native.Nat.{ℕ}
use native.Mathlib.Omega.{arith}
use mathlib.Core.Path.{refl, sym, ap, ◌∙◌}
use Rattle.volume.specs.Layout.{lists_of}
use Rattle.plan.specs.declared.answers.Sizes.{Sizes}
use Rattle.plan.specs.Check.{sizes}
use Rattle.plan.specs.Accepted.{pattern_at}
use Rattle.plan.specs.Inner.Outline.{outline_at}
use Rattle.plan.proofs.Laws.Accepted.{given}
use Rattle.plan.proofs.Laws.Outline.{Outlined, outlined}
use Rattle.fulltext.specs.Matches.{matches_at}
use Rattle.matcher.proofs.Laws.Testing.{small_decides, test-number, test_doc, test-small, test-answer}
use Rattle.matcher.proofs.testing.test_pattern.Goals as goal
use Rattle.matcher.proofs.testing.test_pattern.Goals.{After-lay_out, then-positions-outline-via-then-positions-outline, then-positions-outline-via-else-positions-outline+then-doc-gt-LAST_DOC, then-positions-outline-via-else-positions-outline+else-doc-gt-LAST_DOC+then-not-in_document}

pub lay_out-requires : goal.lay_out-requires
lay_out-requires c =
    let m = (given _ _ c.args.query.now.accepted).most-patterns in
    let n = ap (λ (s : Sizes). s.patterns) c.args.query.now.sizes_are in
    record {
      by_index = (c.args.query.now.volume.bytes.now, c.args.query.now.accepted);
      patterns_value = n;
      patterns_in_bounds = omega arith;
    }

pub bounds-table-pattern : goal.bounds-table-pattern
bounds-table-pattern c =
    let m = (given _ _ c.args.query.now.accepted).most-patterns in
    let n = ap (λ (s : Sizes). s.patterns) c.args.query.now.sizes_are in
    let l = c.lay_out.auto.table in
    omega arith

-- the outline that is read is that of the pattern
outline : (c : After-lay_out) → let a = c.args in Outlined a.query.now.plan.now a.pattern (outline_at c.lay_out.new.table a.pattern)
outline c = let n = ap (λ (s : Sizes). s.patterns) c.args.query.now.sizes_are in outlined c.lay_out.new.table c.lay_out.ensures c.args.pattern (omega arith) refl

pub returns-then-positions-outline : goal.returns-then-positions-outline
returns-then-positions-outline c =
    let o = outline (goal.at.returns-then-positions-outline c).After-lay_out in
    let a = c.args in
    let n = ap (λ (s : Sizes). s.patterns) a.query.now.sizes_are in
    sym (elim c.then-positions-outline.branch [
      | then-positions-outline-via-then-positions-outline w ↦
          test-number a.query.now.volume.bytes.now a.query.now.plan.now a.pattern a.doc a.positions.now (sizes a.query.now.plan.now) a.query.now.accepted (omega arith) (λ e. w.if-positions-outline.true (omega arith))
      | then-positions-outline-via-else-positions-outline+then-doc-gt-LAST_DOC w ↦
          test_doc a.query.now.volume.bytes.now a.query.now.plan.now a.pattern a.doc a.positions.now (sizes a.query.now.plan.now) a.query.now.accepted (omega arith) (omega arith) w.if-doc-gt-LAST_DOC.true
      | then-positions-outline-via-else-positions-outline+else-doc-gt-LAST_DOC+then-not-in_document w ↦
          test-small a.query.now.volume.bytes.now a.query.now.plan.now a.pattern a.doc a.positions.now (sizes a.query.now.plan.now) a.query.now.accepted (omega arith) (omega arith) w.if-doc-gt-LAST_DOC.false
          (sym w.in_document.ensures ∙ w.if-not-in_document.true)
    ])

pub is_match-requires : goal.is_match-requires
is_match-requires c =
    let o = outline (goal.at.is_match-requires c).After-lay_out in
    let v = o.entry.outlines.vars_are in
    let k = o.pattern-is in
    let n = ap (λ (s : Sizes). s.patterns) c.args.query.now.sizes_are in
    record {
      accepted = c.args.query.now.accepted;
      pattern = omega arith;
      outlines = o.entry.outlines;
      number = omega arith;
      doc-small = omega arith;
      small = (small_decides c.args.positions.now).yes (sym c.in_document.ensures ∙ c.if-not-in_document.false);
    }

pub returns : goal.returns
returns c =
    let o = outline (goal.at.returns c).After-lay_out in
    let a = c.args in
    let n = ap (λ (s : Sizes). s.patterns) a.query.now.sizes_are in
    sym (test-answer a.query.now.volume.bytes.now a.query.now.plan.now a.pattern a.doc a.positions.now (sizes a.query.now.plan.now) a.query.now.accepted (omega arith) (omega arith) (omega arith)
    (sym c.in_document.ensures ∙ c.if-not-in_document.false) _
    (c.is_match.ensures ∙ ap (λ (k : ℕ). matches_at (lists_of a.query.now.volume.bytes.now) a.doc (pattern_at a.query.now.plan.now k) a.positions.now) o.pattern-is))
