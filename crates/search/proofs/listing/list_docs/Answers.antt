use Prim.Native.Nat.{◌*◌, ◌<◌, ◌≤◌}
use native.Mathlib.Omega.{arith}
use mathlib.Core.Path.{◌≡◌, refl, sym, ap, subst, ◌∙◌}
use lib.ListN.{length, take}
use lib.Seq.{length-take-le}
use Rattle.plan.specs.Limits.{most_patterns, most_vars, row_words, most_row_words}
use Rattle.plan.specs.Check.{sizes}
use Rattle.plan.specs.Inner.Stack.{most_found_sets, Remembers}
use Rattle.plan.proofs.Laws.Accepted.{given}
use Rattle.plan.proofs.Laws.Stack.{found-small, remembers-first, remembers-next}
use Rattle.fulltext.specs.Positions.{limit}
use Rattle.fulltext.specs.Documents.{work}
use Rattle.fulltext.proofs.Laws.Counts.{work-even}
use Rattle.matcher.specs.Inner.Cursors.{sought, ats_of, ends_of}
use Rattle.search.specs.Inner.Walk.{Visited}
use Rattle.matcher.proofs.Laws.Cursors.{length-ats}
use Rattle.matcher.proofs.Laws.Blocks.{blocks-whole}
use Rattle.search.proofs.Laws.Loop.{Progress, same_size}
use Rattle.search.proofs.Laws.Seen.{at-document, starts-stretch, block-first, walking-first, seen_true}
use Rattle.search.proofs.Laws.Walk.{walk-within}
use Rattle.search.proofs.Laws.Visits.{visiting-first, visiting-part, part_length, visit-reached, visit-wide, visit-passed}
use Rattle.search.proofs.Laws.Visits.{visit-small, visit-put, visit-room, visit-words, visit-rows, visit-few, visit-done, visit-more}
use Rattle.search.proofs.listing.list_docs.Goals as goal
use Rattle.search.proofs.listing.list_docs.Goals.{After-answer_of, After-row_words-width, After-visit, In-Some, In_default, Start}

-- the number of patterns, and the words of a row
many : (c : Start) → length c.args.table.now ≡ (sizes c.args.query.now.plan.now).patterns
many c = c.requires.walks.table-length

wide : (c : After-row_words-width) →
    c.row_words-width.result ≡ row_words (sizes c.args.query.now.plan.now).patterns (sizes c.args.query.now.plan.now).vars
wide c = let e = c.row_words-width.ensures in let t = c.requires.walks.table-length in let f = c.requires.firsts_len in omega arith

few : (c : Start)
    → ((sizes c.args.query.now.plan.now).patterns ≤ most_patterns)
    × (row_words (sizes c.args.query.now.plan.now).patterns (sizes c.args.query.now.plan.now).vars ≤ most_row_words)
few c = visit-few _ _ _ _ _ c.requires.walks

-- what is seen of the next document, with the ends of all variables' lists
visited : (c : In-Some) → let a = c.args in
    Visited a.query.now.volume.bytes.now a.query.now.plan.now (ends_of a.firsts.now) c.loop-seen.from c.in-Some.seen (ats_of c.visit.new.cursors) c.visit.new.positions c.visit.new.docs
    c.seek-starts.result
visited c = rw c.loop-seen.invariant.1.1.0 at c.in-Some.ensures.visited

-- the rows laid when the next document is reached, or the end
reached : (c : In-Some) →
    Progress (work c.args.query.now.volume.bytes.now c.args.query.now.plan.now) c.args.start c.args.out.now c.in-Some.seen.doc c.loop-seen.rows c.loop-seen.out
reached c = visit-reached _ _ _ _ _ _ _ _ _ _ _ (visited c) _ _ c.loop-seen.invariant.0.progress

ended : (c : In_default) → Progress (work c.args.query.now.volume.bytes.now c.args.query.now.plan.now) c.args.start c.args.out.now limit c.loop-seen.rows c.loop-seen.out
ended c = visit-reached _ _ _ _ _ _ _ _ _ _ _ (rw (c.in_default.is, c.loop-seen.invariant.1.1.0) at c.visit.ensures.visited) _ _ c.loop-seen.invariant.0.progress

-- the arrays keep their lengths
docs-size : (c : After-visit) →
    length c.visit.new.docs ≡ length (take (length c.args.table.now) c.loop-seen.docs)
docs-size c = c.visit.auto.docs

ends_same : (c : After-visit) → ends_of c.visit.new.cursors ≡ ends_of c.args.firsts.now
ends_same c = c.visit.ensures.ends_unchanged ∙ c.loop-seen.invariant.1.1.0

positions-size : (c : After-visit)
    → length c.visit.new.positions ≡ length c.args.positions.now
positions-size c = c.visit.auto.positions ∙ c.loop-seen.invariant.1.1.1.1.1.0

paras-size : (c : After-visit) → length c.visit.new.paras ≡ most_vars
paras-size c = c.visit.ensures.paras_len_unchanged ∙ c.loop-seen.invariant.1.1.1.1.1.1.0

-- whether the document is true
told : (c : After-answer_of) →
    (work c.args.query.now.volume.bytes.now c.args.query.now.plan.now).is_true c.in-Some.seen.doc ≡ c.answer_of.result
told c =
    seen_true c.args.query.now.volume.bytes.now c.args.query.now.plan.now c.in-Some.seen.found c.in-Some.seen.doc
    c.answer_of.result c.answer_of.ensures.value (c.in-Some.ensures.visited.found_are c.in-Some.ensures.document)

-- one answer more is known
known-size : (c : After-answer_of) → length c.answer_of.new.known ≡ most_found_sets
known-size c = c.answer_of.auto.known ∙ c.loop-seen.invariant.1.1.1.0

-- the bits of the found patterns are below 256
bits_small : (c : After-answer_of) → c.in-Some.seen.found < most_found_sets
bits_small c =
    rw (c.in-Some.ensures.visited.found_are c.in-Some.ensures.document) (found-small _ c.args.query.now.plan.now (visit-few _ _ _ _ _ c.requires.walks).0)

remembers : (c : After-answer_of) → Remembers c.args.query.now.plan.now c.answer_of.new.known
remembers c =
    let b = bits_small c in
    let l = c.loop-seen.invariant.1.1.1.0 in
    subst (Remembers c.args.query.now.plan.now) (sym c.answer_of.ensures.known_after)
    (remembers-next _ _ c.loop-seen.invariant.1.1.1.1.0 _ (omega arith) _ c.answer_of.ensures.value)

pub overflow_cast-patterns : goal.overflow_cast-patterns
overflow_cast-patterns c = let m = many (goal.at.overflow_cast-patterns c).Start in let f = (few (goal.at.overflow_cast-patterns c).Start).0 in omega arith

pub overflow_cast-firsts : goal.overflow_cast-firsts
overflow_cast-firsts c = let e = c.requires.firsts_len in let f = (few (goal.at.overflow_cast-firsts c).Start).1 in omega arith

pub seek-starts-requires : goal.seek-starts-requires
seek-starts-requires c = rw c.starts_of-list.ensures (starts-stretch _ _ _ _ _ c.requires.walks)

pub loop-seen-init : goal.loop-seen-init
loop-seen-init c =
    let p = c.requires in
    let f = p.firsts_len in
    let low : c.args.start ≤ 65536 = let l = p.start_bound in omega arith in
    let m = many (goal.at.loop-seen-init c).Start in
    let n = (few (goal.at.loop-seen-init c).Start).0 in
    let s = c.starts_of-list.ensures in
    let at = c.seek-starts.ensures.value ∙ ap (sought c.args.query.now.volume.bytes.now (c.args.start * 65536)) s in (
      visiting-first _ _ _ _ _ _ _ _ _ low
          (walking-first _ _ _ _ _ p.walks _ (ats_of c.args.firsts.now) _ _ _ low (omega (arith, length-ats c.args.firsts.now)) p.plan_in_bounds p.firsts
          (ap ats_of p.cursors_value)
          (length-take-le (length c.args.table.now) _ (omega arith) ∙ m) _ at),
      (
        refl,
        (ap ends_of p.cursors_value, (refl, (remembers-first c.args.query.now.plan.now most_found_sets, (refl, (refl, block-first _ _ _ _ _ p.walks _ _ at))))),
      ),
    )

pub slice_bounds-docs-end : goal.slice_bounds-docs-end
slice_bounds-docs-end c =
    let m = many (goal.at.slice_bounds-docs-end c).Start in
    let n = (few (goal.at.slice_bounds-docs-end c).Start).0 in
    let l = c.loop-seen.invariant.1.0 in
    omega arith

pub slice_bounds-visit-end : goal.slice_bounds-visit-end
slice_bounds-visit-end c =
    let m = many (goal.at.slice_bounds-visit-end c).Start in
    let n = (few (goal.at.slice_bounds-visit-end c).Start).0 in
    let l = c.loop-seen.invariant.1.0 in
    sym (length-take-le (length c.args.table.now) _ (omega arith))

pub slice_bounds-visit-end-in-loop-seen : goal.slice_bounds-visit-end-in-loop-seen
slice_bounds-visit-end-in-loop-seen c = sym c.loop-seen.invariant.1.1.1.1.1.1.0

pub visit-requires : goal.visit-requires
visit-requires c =
    let m = (given _ _ c.requires.walks.accepted).most-vars in
    let l = c.loop-seen.invariant.1.1.1.1.1.1.0 in
    record {
      walks = rw c.loop-seen.invariant.1.1.0 c.requires.walks;
      walking = rw c.loop-seen.invariant.1.1.0 c.loop-seen.invariant.0.walking;
      plan_in_bounds = omega arith;
    }

pub overflow_cast-result : goal.overflow_cast-result
overflow_cast-result c = let n = visit-rows _ _ _ _ _ _ _ (ended (goal.at.overflow_cast-result c).In_default) in omega arith

pub shape_of-positions-in_default : goal.shape_of-positions-in_default
shape_of-positions-in_default c = positions-size (goal.at.shape_of-positions-in_default c).After-visit

pub shape_of-out-in_default : goal.shape_of-out-in_default
shape_of-out-in_default c =
    same_size (work c.args.query.now.volume.bytes.now c.args.query.now.plan.now) (work-even c.args.query.now.volume.bytes.now c.args.query.now.plan.now) c.loop-seen.invariant.0.progress

pub returns-in_default : goal.returns-in_default
returns-in_default c =
    let p = c.requires in
    visit-done _ _ _ _ _ p.walks _ _ p.start_bound p.plan_in_bounds_2 _ _ _ (ended (goal.at.returns-in_default c).In_default) c.tally-tally.result c.tally-tally.ensures refl

pub overflow_add-from : goal.overflow_add-from
overflow_add-from c = let l = c.in-Some.ensures.document in omega arith

pub slice_bounds-answer_of-end : goal.slice_bounds-answer_of-end
slice_bounds-answer_of-end c = sym c.loop-seen.invariant.1.1.1.0

pub answer_of-requires : goal.answer_of-requires
answer_of-requires c =
    let b : c.in-Some.seen.found < most_found_sets =
    rw (c.in-Some.ensures.visited.found_are c.in-Some.ensures.document) (found-small _ c.args.query.now.plan.now (few (goal.at.answer_of-requires c).Start).0) in
    let l = c.loop-seen.invariant.1.1.1.0 in
    record {
      by_index = (c.args.query.now.volume.bytes.now, c.requires.walks.accepted);
      remembers = c.loop-seen.invariant.1.1.1.1.0;
      bits_in_bounds = omega arith;
    }

pub loop-seen-smaller-then-not-answer_of : goal.loop-seen-smaller-then-not-answer_of
loop-seen-smaller-then-not-answer_of c =
    let l = c.in-Some.ensures.visited.most in
    let f = c.in-Some.ensures.visited.later in
    omega arith

pub loop-seen-preserved-then-not-answer_of : goal.loop-seen-preserved-then-not-answer_of
loop-seen-preserved-then-not-answer_of c =
    let within = c.loop-seen.invariant.1.1.1.1.1.1.1 in (
      visiting-part _ _ _ _ _ _ _ _ _ _ _ _ _ _ (many (goal.at.loop-seen-preserved-then-not-answer_of c).Start)
          (visit-passed _ _ _ _ _ _ _ _ _ _ _ (visited (goal.at.loop-seen-preserved-then-not-answer_of c).In-Some) _ _ c.loop-seen.invariant.0.progress c.in-Some.ensures.document
          (told (goal.at.loop-seen-preserved-then-not-answer_of c).After-answer_of ∙ c.if-not-answer_of.true)),
      (
        part_length c.loop-seen.docs c.visit.new.docs (length c.args.table.now)
            most_patterns (docs-size (goal.at.loop-seen-preserved-then-not-answer_of c).After-visit) c.loop-seen.invariant.1.0,
        (ends_same (goal.at.loop-seen-preserved-then-not-answer_of c).After-visit, (known-size (goal.at.loop-seen-preserved-then-not-answer_of c).After-answer_of, (remembers (goal.at.loop-seen-preserved-then-not-answer_of c).After-answer_of, (positions-size (goal.at.loop-seen-preserved-then-not-answer_of c).After-visit, (paras-size (goal.at.loop-seen-preserved-then-not-answer_of c).After-visit, within))))),
      ),
    )

pub overflow_cast-result-then-rows-room : goal.overflow_cast-result-then-rows-room
overflow_cast-result-then-rows-room c = let n = visit-rows _ _ _ _ _ _ _ (reached (goal.at.overflow_cast-result-then-rows-room c).In-Some) in omega arith

pub shape_of-positions-then-rows-room : goal.shape_of-positions-then-rows-room
shape_of-positions-then-rows-room c = positions-size (goal.at.shape_of-positions-then-rows-room c).After-visit

pub shape_of-out-then-rows-room : goal.shape_of-out-then-rows-room
shape_of-out-then-rows-room c =
    same_size (work c.args.query.now.volume.bytes.now c.args.query.now.plan.now) (work-even c.args.query.now.volume.bytes.now c.args.query.now.plan.now) c.loop-seen.invariant.0.progress

pub returns-then-rows-room : goal.returns-then-rows-room
returns-then-rows-room c =
    let p = c.requires in
    visit-more _ _ _ _ _ p.walks _ _ p.start_bound p.plan_in_bounds_2 _ _ _ (reached (goal.at.returns-then-rows-room c).In-Some) c.tally-tally-then-rows-room.result c.tally-tally-then-rows-room.ensures c.in-Some.ensures.document (told (goal.at.returns-then-rows-room c).After-answer_of ∙ c.if-not-answer_of.false) _ (wide (goal.at.returns-then-rows-room c).After-row_words-width) (omega arith)

pub overflow_mul-rows : goal.overflow_mul-rows
overflow_mul-rows c =
    let m = (few (goal.at.overflow_mul-rows c).Start).1 in
    let n = visit-rows _ _ _ _ _ _ _ c.loop-seen.invariant.0.progress in
    let w = wide (goal.at.overflow_mul-rows c).After-row_words-width in
    let s = visit-words c.loop-seen.rows c.row_words-width.result n (omega arith) in
    omega arith

pub invariant_of-opened : goal.invariant_of-opened
invariant_of-opened c =
    let walking = c.loop-seen.invariant.0.walking in
    record {
      at_document = at-document _ _ _ _ c.in-Some.ensures.visited.later c.in-Some.ensures.document walking.starts-at walking.starts-end;
    }

pub write_row-block-requires : goal.write_row-block-requires
write_row-block-requires c =
    let w = wide (goal.at.write_row-block-requires c).After-row_words-width in
    -- the row has as many words as a row of the plan
    let l = visit-wide _ _ _ _ _ c.requires.walks _ _ _ _ _ _ (visited (goal.at.write_row-block-requires c).In-Some) c.in-Some.ensures.document _ (many (goal.at.write_row-block-requires c).Start) in
    let r = visit-room _ _ _ _ _ _ c.loop-seen.rows _ w c.loop-seen.invariant.0.progress (λ e. omega arith) in
    let reach = ((visited (goal.at.write_row-block-requires c).In-Some).walking c.in-Some.ensures.document).positions-room in
    let m = many (goal.at.write_row-block-requires c).Start in
    let t = c.requires.walks.table-length in record {
      whole = rw c.blocks_of-blocks.ensures (blocks-whole _);
      block_bound = c.loop-seen.invariant.1.1.1.1.1.1.1;
      by_index = λ k h. let v = walk-within _ _ _ _ _ c.requires.walks k (omega arith) in omega arith;
      by_index_2 = visit-small _ _ _ _ _ c.requires.walks _ _ _ _ _ _ (visited (goal.at.write_row-block-requires c).In-Some) c.in-Some.ensures.document _ (many (goal.at.write_row-block-requires c).Start);
      row_in_bounds = omega arith;
    }

pub overflow_add-rows : goal.overflow_add-rows
overflow_add-rows c = let n = visit-rows _ _ _ _ _ _ _ (reached (goal.at.overflow_add-rows c).In-Some) in omega arith

pub loop-seen-smaller : goal.loop-seen-smaller
loop-seen-smaller c =
    let l = c.in-Some.ensures.visited.most in
    let f = c.in-Some.ensures.visited.later in
    omega arith

pub loop-seen-preserved : goal.loop-seen-preserved
loop-seen-preserved c =
    let wrote = c.write_row-block.ensures in (
      visiting-part _ _ _ _ _ _ _ _ _ _ _ _ _ _ (many (goal.at.loop-seen-preserved c).Start)
          (visit-put _ _ _ _ _ _ _ _ _ _ _ (visited (goal.at.loop-seen-preserved c).In-Some) _ _ c.loop-seen.invariant.0.progress c.in-Some.ensures.document
          (told (goal.at.loop-seen-preserved c).After-answer_of ∙ c.if-not-answer_of.false) _ (wide (goal.at.loop-seen-preserved c).After-row_words-width)
          (λ e. omega arith) _ _ c.requires.walks _ (many (goal.at.loop-seen-preserved c).Start) _ wrote.out_after),
      (
        part_length c.loop-seen.docs c.visit.new.docs (length c.args.table.now)
            most_patterns (docs-size (goal.at.loop-seen-preserved c).After-visit) c.loop-seen.invariant.1.0,
        (ends_same (goal.at.loop-seen-preserved c).After-visit, (known-size (goal.at.loop-seen-preserved c).After-answer_of, (remembers (goal.at.loop-seen-preserved c).After-answer_of, (positions-size (goal.at.loop-seen-preserved c).After-visit, (paras-size (goal.at.loop-seen-preserved c).After-visit, wrote.result_bound))))),
      ),
    )
