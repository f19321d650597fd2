-- `joining::join` meets its contract: the verdict on each volume first, then 24, then what `join_checked` answers. Assumes nothing.
use native.Mathlib.Omega.{arith}
use mathlib.Core.Path.{◌≡◌, refl, sym, ap, ◌∙◌}
use Rattle.std.proofs.Common.{Result, Ok, Err}
use Rattle.std.specs.Result.{MatchResult, IsErrAnd}
use Rattle.std.proofs.lemmas.Result.{err_from_is_err_and}
use Rattle.seq.specs.Refusals.{answered}
use Rattle.volume.specs.Answers.{Sizes, said_checked}
use Rattle.volume.specs.Check.{verdict}
use Rattle.volume.proofs.Laws.Check.{accepted_by, sizes_are}
use Rattle.volume.proofs.Laws.Stream.{word_lt}
use Rattle.join.specs.Answers.{said_joined}
use Rattle.join.proofs.Laws.Calls.{refuses-first, refuses-second, refuses-counts, goes_on}
use Rattle.join.proofs.joining.join.Goals as goal
use Rattle.join.proofs.joining.join.Goals.{In_ok-one, In_ok-two}

-- behind `map_err` an answer is as it was, and an error is made of the one before
module _ {A E D : Type 0} (Q : E → D → Type 0) where
  kept : (r : Result A E) (m : Result A D) (x : A) → MatchResult r (λ y. m ≡ Ok y) (λ e. IsErrAnd m (Q e)) → m ≡ Ok x → r ≡ Ok x
  kept (Ok y) m x h e = cc
  kept (Err d) m x h e = absurd (rw e at h)

  turned : (r : Result A E) (m : Result A D) (y : D) → MatchResult r (λ x. m ≡ Ok x) (λ e. IsErrAnd m (Q e)) → m ≡ Err y
      → (e : E) × (r ≡ Err e) × Q e y
  turned (Ok x) m y h e = cc
  turned (Err d) m y h e = (d, refl, rw e at h)

-- the sizes that the checks told
first_found : In_ok-one → Sizes
first_found c = record { lists = c.in_ok-one.one.lists; postings = c.in_ok-one.one.postings }

second-found : In_ok-two → Sizes
second-found c = record { lists = c.in_ok-two.two.lists; postings = c.in_ok-two.two.postings }

first-told : (c : In_ok-one) → answered (first_found c) ≡ verdict c.args.first.now
unfolding first_found
first-told c = sym (ap said_checked (kept _ c.check.result _ c.in_ok-one.one c.map_err.ensures.cases c.in_ok-one.was)) ∙ c.check.ensures

second-told : (c : In_ok-two) → answered (second-found c) ≡ verdict c.args.second.now
unfolding second-found
second-told c = sym (ap said_checked (kept _ c.check-2.result _ c.in_ok-two.two c.map_err-2.ensures.cases c.in_ok-two.was)) ∙ c.check-2.ensures

pub returns-in_err-one : goal.returns-in_err-one
returns-in_err-one c =
    let from = turned _ c.check.result _ c.in_err-one.field-0.0 c.map_err.ensures.cases c.in_err-one.was in
    let to = err_from_is_err_and c.from_residual.result c.from_residual.ensures.1 in
    let w = refuses-first _ _ _ _ _ _ (sym (ap said_checked from.1) ∙ c.check.ensures) in
    record { result_value = ap said_joined (to.1 ∙ ap Err (to.2 ∙ from.2)) ∙ w.0; out_after = w.1 }

pub returns-in_err-two : goal.returns-in_err-two
returns-in_err-two c =
    let one = (goal.at.returns-in_err-two c).In_ok-one in
    let from = turned _ c.check-2.result _ c.in_err-two.field-0.0 c.map_err-2.ensures.cases c.in_err-two.was in
    let to = err_from_is_err_and c.from_residual-in_err-two.result c.from_residual-in_err-two.ensures.1 in
    let w = refuses-second _ _ _ _ (first_found one) (first-told one) _ _ (sym (ap said_checked from.1) ∙ c.check-2.ensures) in
    record { result_value = ap said_joined (to.1 ∙ ap Err (to.2 ∙ from.2)) ∙ w.0; out_after = w.1 }

pub returns-then-one-two : goal.returns-then-one-two
unfolding first_found second-found
returns-then-one-two c =
    let one = (goal.at.returns-then-one-two c).In_ok-one in
    let two = (goal.at.returns-then-one-two c).In_ok-two in
    let w = refuses-counts _ _ _ _ (first_found one) (first-told one) (second-found two) (second-told two) c.if-one-two.true in
    record { result_value = w.0; out_after = w.1 }

pub invariant_of-first : goal.invariant_of-first
invariant_of-first c = record { accepted = accepted_by _ (first_found (goal.at.invariant_of-first c).In_ok-one) (sym (first-told (goal.at.invariant_of-first c).In_ok-one)) }

pub invariant_of-second : goal.invariant_of-second
invariant_of-second c = record { accepted = accepted_by _ (second-found (goal.at.invariant_of-second c).In_ok-two) (sym (second-told (goal.at.invariant_of-second c).In_ok-two)) }

pub join_checked-requires : goal.join_checked-requires
unfolding first_found second-found
join_checked-requires c =
    let s = first-told (goal.at.join_checked-requires c).In_ok-one in
    let t = second-told (goal.at.join_checked-requires c).In_ok-two in
    let a = sizes_are _ _ (sym s) in
    let b = sizes_are _ _ (sym t) in
    let bytes = c.type_inv.first in
    record {
      lists_value = ap (λ (x : Sizes). x.lists) a;
      lists_value_2 = c.if-one-two.false ∙ ap (λ (x : Sizes). x.lists) b;
      postings_value = ap (λ (x : Sizes). x.postings) a;
      more_value = ap (λ (x : Sizes). x.postings) b;
      words = record { each = λ i k l. omega (arith, word_lt c.args.first.now i (λ j. omega (arith, bytes j))) };
    }

pub returns : goal.returns
returns c =
    let one = (goal.at.returns c).In_ok-one in
    let two = (goal.at.returns c).In_ok-two in
    let e = c.join_checked.ensures in
    let w = goes_on _ _ _ _ (first_found one) (first-told one) (second-found two) (second-told two) _ _ e.result_value e.out_after in
    record { result_value = w.0; out_after = w.1 }
