use Prim.Native.Nat.{ℕ, ◌+◌, ◌<◌, ◌≤◌}
use native.Mathlib.Omega.{arith}
use mathlib.Core.Path.{◌≡◌, sym, ap, ap₂, ◌∙◌}
use Rattle.seq.specs.Lists.{rises}
use Rattle.seq.specs.Numbers.{run}
use Rattle.volume.specs.Layout.{word, list_count, lead, extent, start, postings_of}
use Rattle.volume.proofs.Laws.Check.{Good, good}
use Rattle.volume.proofs.Laws.Starts.{start_first, start-next}
use Rattle.join.specs.Inner.Docs.{wider, range_of}
use Rattle.join.proofs.Laws.Docs.{range_append, first_postings, first_postings-none, first_postings-next, first_postings-all}
use Rattle.join.proofs.docs.doc_range.Goals as goal
use Rattle.join.proofs.docs.doc_range.Goals.{After-count_at-count, Start}

-- what acceptance gives
accepted : (c : Start) → Good c.args.volume.now.bytes.now
accepted c = good c.args.volume.now.bytes.now c.args.volume.now.accepted

pub lead-start-requires : goal.lead-start-requires
lead-start-requires c = let g = accepted (goal.at.lead-start-requires c).Start in let e = c.requires.lists_value in omega arith

pub loop-i-init : goal.loop-i-init
loop-i-init c =
    let v = c.args.volume.now.bytes.now in (
      sym (first_postings-none v),
      c.lead-start.ensures ∙ ap (λ (n : ℕ). lead n) c.requires.lists_value ∙ sym (start_first v),
    )

pub count_at-count-requires : goal.count_at-count-requires
count_at-count-requires c = let g = accepted (goal.at.count_at-count-requires c).Start in let e = c.requires.lists_value in omega arith

-- the list of a turn is list i
list-is : (c : After-count_at-count)
    → let v = c.args.volume.now.bytes.now in
    run (word v) c.loop-i.start c.count_at-count.result ≡ postings_of v c.loop-i.i
list-is c = ap₂ (λ (k n : ℕ). run (word c.args.volume.now.bytes.now) k n) c.loop-i.invariant.1 c.count_at-count.ensures

-- it ends in front of the extent, and the next one starts there
list-end : (c : After-count_at-count)
    → let v = c.args.volume.now.bytes.now in
    (c.loop-i.start + c.count_at-count.result ≡ start v (c.loop-i.i + 1)) × (c.loop-i.start + c.count_at-count.result ≤ extent v)
list-end c =
    let v = c.args.volume.now.bytes.now in
    let h : c.loop-i.i < list_count v = (let e = c.requires.lists_value in omega arith) in
    let w = (good v c.args.volume.now.accepted).lists-within c.loop-i.i h in
    let n = start-next v c.loop-i.i in
    let e = c.loop-i.invariant.1 in
    let q = c.count_at-count.ensures in
    (omega arith, omega arith)

pub list_docs-requires : goal.list_docs-requires
list_docs-requires c =
    let g = accepted (goal.at.list_docs-requires c).Start in
    let w = (list-end (goal.at.list_docs-requires c).After-count_at-count).1 in
    let h : c.loop-i.i < list_count c.args.volume.now.bytes.now = (let e = c.requires.lists_value in omega arith) in
    record {
      count_bound = let f = g.fits in omega arith;
      count_value = ap rises (list-is (goal.at.list_docs-requires c).After-count_at-count) ∙ g.lists-rise c.loop-i.i h;
    }

pub overflow_add-start : goal.overflow_add-start
overflow_add-start c =
    let g = accepted (goal.at.overflow_add-start c).Start in
    let w = (list-end (goal.at.overflow_add-start c).After-count_at-count).1 in
    let f = g.fits in
    let m = g.blocks-most in
    omega arith

pub loop-i-preserved : goal.loop-i-preserved
loop-i-preserved c =
    let v = c.args.volume.now.bytes.now in
    let i = c.loop-i.i in
    let a = c.loop-i.invariant.0 in
    let b : c.list_docs.result ≡ range_of (postings_of v i)
    = c.list_docs.ensures ∙ ap range_of (list-is (goal.at.loop-i-preserved c).After-count_at-count) in (
      c.wider-range.ensures ∙ ap₂ wider a b ∙ range_append (first_postings v i) (postings_of v i) ∙ ap range_of (sym (first_postings-next v i)),
      (list-end (goal.at.loop-i-preserved c).After-count_at-count).0,
    )

pub returns : goal.returns
returns c =
    let v = c.args.volume.now.bytes.now in
    let e : c.loop-i.i ≡ list_count v = (let q = c.requires.lists_value in omega arith) in
    c.loop-i.invariant.0 ∙ ap (λ (n : ℕ). range_of (first_postings v n)) e ∙ ap range_of (first_postings-all v)
