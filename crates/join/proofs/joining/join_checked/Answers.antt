-- `joining::join_checked` meets its contract: each return is a rung of `join_rest`, and only the last one comes behind a store. Assumes
-- nothing.
use native.Mathlib.Omega.{arith}
use Prim.Native.Nat.{ℕ, ◌≤◌}
use mathlib.Core.Path.{◌≡◌, sym, ap, ap₂, ◌∙◌}
use Rattle.std.proofs.Common.{Option}
use Rattle.std.specs.Int.{div_ceil}
use Rattle.volume.specs.Layout.{list_count, posting_count, blocks_for}
use Rattle.volume.specs.Check.{Accepted}
use Rattle.volume.proofs.Laws.Check.{good}
use Rattle.join.specs.Refusals.{extent_of_both}
use Rattle.join.specs.Inner.Docs.{clash}
use Rattle.join.specs.declared.docs.DocRange.{DocRange}
use Rattle.join.proofs.Laws.Calls.{found, refuses-docs, refuses_large, refuses-short, can-join, can_lift, answers}
use Rattle.join.proofs.joining.join_checked.Goals as goal
use Rattle.join.proofs.joining.join_checked.Goals.{After-docs_clash, After-extent_of-words, Start}

-- what is given: both volumes are accepted, of as many lists, and their sizes
given : (c : Start) → let v = c.args.first.now.bytes.now in let w = c.args.second.now.bytes.now in
    record {
      first : Accepted v;
      second : Accepted w;
      same : list_count w ≡ list_count v;
      lists : c.args.one.lists ≡ list_count v;
      postings : c.args.one.postings ≡ posting_count v;
      more : c.args.two.postings ≡ posting_count w;
      few-lists : list_count v ≤ 1024;
      few-postings : posting_count v ≤ 1032192;
      few-more : posting_count w ≤ 1032192;
    }
given c =
    let p = c.requires in
    let g = good c.args.first.now.bytes.now c.args.first.now.accepted in
    let f = g.fits in
    let m = g.blocks-most in
    let h = good c.args.second.now.bytes.now c.args.second.now.accepted in
    let k = h.fits in
    let n = h.blocks-most in
    record {
      first = c.args.first.now.accepted;
      second = c.args.second.now.accepted;
      same = sym p.lists_value_2 ∙ p.lists_value;
      lists = p.lists_value;
      postings = p.postings_value;
      more = p.more_value;
      few-lists = g.lists-most;
      few-postings = omega arith;
      few-more = omega arith;
    }

-- what the test of 25 finds
clash-is : (c : After-docs_clash)
    → c.docs_clash.result ≡ found c.args.raise c.args.first.now.bytes.now c.args.second.now.bytes.now c.args.out.now
clash-is c = c.docs_clash.ensures ∙ ap₂ (λ (a b : Option DocRange). clash c.args.raise a b) c.doc_range.ensures c.doc_range-2.ensures

-- the number of blocks, as `div_ceil` gives it
blocks_are : (n e : ℕ) → n ≡ div_ceil e 126 → n ≡ blocks_for e
blocks_are n e h = omega arith

-- the number of stream words
words_are : (c : After-extent_of-words) → c.extent_of-words.result ≡ extent_of_both c.args.first.now.bytes.now c.args.second.now.bytes.now
words_are c = let e = c.extent_of-words.ensures in omega arith

pub returns-then-docs_clash : goal.returns-then-docs_clash
returns-then-docs_clash c =
    let g = given (goal.at.returns-then-docs_clash c).Start in
    let test = sym (clash-is (goal.at.returns-then-docs_clash c).After-docs_clash) ∙ c.if-docs_clash.true in
    let w = refuses-docs _ _ _ _ g.first g.second g.same test in
    record { result_value = w.0; out_after = w.1 }

pub overflow_add-postings : goal.overflow_add-postings
overflow_add-postings c = let g = given (goal.at.overflow_add-postings c).Start in omega arith

pub extent_of-words-requires : goal.extent_of-words-requires
extent_of-words-requires c = let g = given (goal.at.extent_of-words-requires c).Start in omega arith

pub returns-then-words-gt-MAX_WORDS : goal.returns-then-words-gt-MAX_WORDS
returns-then-words-gt-MAX_WORDS c =
    let g = given (goal.at.returns-then-words-gt-MAX_WORDS c).Start in
    let test = sym (clash-is (goal.at.returns-then-words-gt-MAX_WORDS c).After-docs_clash) ∙ c.if-docs_clash.false in
    let large = rw (words_are (goal.at.returns-then-words-gt-MAX_WORDS c).After-extent_of-words) at c.if-words-gt-MAX_WORDS.true in
    let w = refuses_large _ _ _ _ g.first g.second g.same test large in
    record { result_value = w.0; out_after = w.1 }

pub returns-then-out-n : goal.returns-then-out-n
returns-then-out-n c =
    let g = given (goal.at.returns-then-out-n c).Start in
    let e = words_are (goal.at.returns-then-out-n c).After-extent_of-words in
    let test = sym (clash-is (goal.at.returns-then-out-n c).After-docs_clash) ∙ c.if-docs_clash.false in
    let n = blocks_are c.div_ceil-n.result c.extent_of-words.result c.div_ceil-n.ensures in
    let w = refuses-short _ _ _ _ g.first g.second g.same test (rw e at c.if-words-gt-MAX_WORDS.false) (rw (n, e) at c.if-out-n.true) in
    record { result_value = w.0; out_after = w.1 }

pub invariant_of-sources : goal.invariant_of-sources
invariant_of-sources c =
    let g = given (goal.at.invariant_of-sources c).Start in
    let e = words_are (goal.at.invariant_of-sources c).After-extent_of-words in
    let x = c.extent_of.ensures in
    let y = c.extent_of-2.ensures in
    let z = g.same in
    let fits = rw e at c.if-words-gt-MAX_WORDS.false in
    let clear = sym (clash-is (goal.at.invariant_of-sources c).After-docs_clash) ∙ c.if-docs_clash.false in
    record {
      joinable = can-join _ _ _ c.args.out.now g.first g.second g.same clear fits;
      lists_are = g.lists;
      words = c.requires.words;
      lifts = can_lift _ _ _ c.args.out.now g.first g.second g.same clear fits _ c.lift_of.ensures;
      all_is = omega arith;
    }

pub put_joined-requires : goal.put_joined-requires
put_joined-requires c =
    let e = words_are (goal.at.put_joined-requires c).After-extent_of-words in
    record {
      n_value = blocks_are c.div_ceil-n.result c.extent_of-words.result c.div_ceil-n.ensures ∙ ap blocks_for e;
      n_in_bounds = c.if-out-n.false;
    }

pub returns : goal.returns
returns c =
    let g = given (goal.at.returns c).Start in
    let e = words_are (goal.at.returns c).After-extent_of-words in
    let fits = rw e at c.if-words-gt-MAX_WORDS.false in
    let test = sym (clash-is (goal.at.returns c).After-docs_clash) ∙ c.if-docs_clash.false in
    let n = blocks_are c.div_ceil-n.result c.extent_of-words.result c.div_ceil-n.ensures in
    let w = answers _ _ _ _ g.first g.second g.same test fits _ c.lift_of.ensures _ _ (n ∙ ap blocks_for e)
    c.if-out-n.false c.put_joined.ensures in
    record { result_value = w.0; out_after = w.1 }
