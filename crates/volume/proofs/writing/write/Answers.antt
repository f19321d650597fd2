-- `volume::writing::write` meets its contract: each return is a rung of `write_answer`, and only the last one comes behind a store.
-- Assumes nothing.
use native.Mathlib.Omega.{arith}
use borrow.Author.Tests.{ltb-false}
use mathlib.Core.Path.{◌≡◌, sym, ap, ◌∙◌}
use mathlib.Core.Logic.{inl, inr, ⊎_elim}
use lib.ListN.{length}
use Rattle.seq.specs.Numbers.{sum_to}
use Rattle.seq.specs.Lists.{at}
use Rattle.volume.specs.Layout.{blocks_for}
use Rattle.volume.proofs.Laws.WriteAnswer.{Ordered, refuses-counts, refuses-sum, refuses-order, refuses_large, refuses-short, answers}
use Rattle.volume.proofs.Laws.Index.{some_index, no_index}
use Rattle.volume.proofs.writing.write.Goals as goal
use Rattle.volume.proofs.writing.write.Goals.{In_default, Else-sum_of-postings}

-- behind the test of 18 the counts sum to the number of postings
sum_is : (c : Else-sum_of-postings) →
    sum_to (at c.args.counts.now) (length c.args.counts.now)
    ≡ length c.args.postings.now
sum_is c = sym c.sum_of.ensures ∙ c.if-sum_of-postings.false

-- behind the test of 7 the lists rise
ordered : (c : In_default) → Ordered c.args.counts.now c.args.postings.now
ordered c = record {
  few = omega arith;
  many = omega (arith, ltb-false);
  sum = sym c.sum_of.ensures ∙ c.if-sum_of-postings.false;
  order = no_index _ _ c.in_default.ensures;
}

pub returns-then-count-lt1 : goal.returns-then-count-lt1
returns-then-count-lt1 c =
    let w = refuses-counts _ _ _ (⊎_elim (λ h. inl h) (λ h. inr h.1) c.then-count-lt1.either) in
    record { result_value = w.0; out_after = w.1 }

pub invariant_of-lists : goal.invariant_of-lists
invariant_of-lists c = record { few = omega (arith, ltb-false) }

pub returns-then-sum_of-postings : goal.returns-then-sum_of-postings
returns-then-sum_of-postings c =
    let w = refuses-sum _ _ _ (omega arith) (omega (arith, ltb-false)) (λ e. c.if-sum_of-postings.true (c.sum_of.ensures ∙ e)) in
    record { result_value = w.0; out_after = w.1 }

pub overflow_cast-result : goal.overflow_cast-result
overflow_cast-result c = let w = some_index _ _ _ c.in-Some.ensures in omega (arith, ltb-false)

pub returns-in-Some : goal.returns-in-Some
returns-in-Some c =
    let i = some_index _ _ _ c.in-Some.ensures in
    let w = refuses-order _ _ _ (omega arith) (omega (arith, ltb-false)) (sum_is (goal.at.returns-in-Some c).Else-sum_of-postings) _ i.0 (omega arith) in
    record { result_value = w.0; out_after = w.1 }

pub returns-then-words-gt-MAX_WORDS : goal.returns-then-words-gt-MAX_WORDS
returns-then-words-gt-MAX_WORDS c =
    let w = refuses_large _ _ _ (ordered (goal.at.returns-then-words-gt-MAX_WORDS c).In_default) (rw c.extent_of-words.ensures at c.if-words-gt-MAX_WORDS.true) in
    record { result_value = w.0; out_after = w.1 }

pub returns-then-out-size : goal.returns-then-out-size
returns-then-out-size c =
    let e = c.extent_of-words.ensures in
    let w = refuses-short _ _ _ (ordered (goal.at.returns-then-out-size c).In_default) (rw e at c.if-words-gt-MAX_WORDS.false) (rw e at c.if-out-size.true) in
    record { result_value = w.0; out_after = w.1 }

pub put_volume-requires : goal.put_volume-requires
put_volume-requires c = record { n_bound = omega (arith, ltb-false); n_in_bounds = omega (arith, ltb-false) }

pub returns : goal.returns
returns c =
    let e = c.extent_of-words.ensures in
    let w = answers _ _ _ (ordered (goal.at.returns c).In_default) (rw e at c.if-words-gt-MAX_WORDS.false) _ _ (ap blocks_for e)
    c.if-out-size.false c.put_volume.ensures in
    record { result_value = w.0; out_after = w.1 }
