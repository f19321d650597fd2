-- The laws of `specs/Check.antt`: the rungs of the verdict, from the tests to the answer. No contract cites this file.
--     row-stands, row-faulty                     what the step of a row tells of its test
--     rows_fault, rows-unfinished, rows-answer    rows_verdict by its first test that applies
--     plan-length, plan-rows                     plan_verdict by the length
--     length_wrong_decides, unfinished_decides    the tests decide document 01's sentences
--     row-right                                  the four tests of a row
--     passed                                     a plan whose verdict answers
--     volume-accepted, verdict-sizes, verdict-passed     a volume and a plan whose verdict answers
-- Assumes nothing.
use Prim.Native.Nat.{ℕ, ◌%◌, ◌<◌, ◌≤◌}
use native.Mathlib.Omega.{arith}
use mathlib.Core.Path.{◌≡◌, refl, sym, ap, ◌∙◌}
use mathlib.Core.Bool.{true, false, cond, true≢false}
use mathlib.Core.Logic.{inl, inr, ⊎_elim, ◌≢◌}
use mathlib.Core.List.{List}
use lib.ListN.{length}
use Rattle.std.specs.Prelude.{Result, Ok, Err}
use borrow.Author.Tests.{lt-ltb, le-ltb, eq-eqb, ne_eqb}
use Rattle.seq.specs.Refusals.{Said, refused, answered}
use Rattle.seq.proofs.Laws.Numbers.{search-clear}
use Rattle.seq.proofs.Laws.Decides.{Decides, holds, stable, not_decides, eqb_decides, ltb_decides, or_decides}
use Rattle.seq.proofs.Laws.Refusals.{not-both, past}
use Rattle.volume.specs.Layout.{list_count}
use Rattle.volume.specs.Check as volume
use Rattle.volume.proofs.Laws.CheckFirst.{check_sound}
use Rattle.plan.specs.declared.answers.Fault.{Fault}
use Rattle.plan.specs.declared.state.State.{State}
use Rattle.plan.specs.Answers.{Sizes, fault_code}
use Rattle.plan.specs.Limits.{most_words}
use Rattle.plan.specs.Rows.{row_count, row_at, form_wrong_at}
use Rattle.plan.specs.State.{state_at, list_wrong, too_many, order_wrong, step}
use Rattle.plan.specs.Check.{length_wrong, faulty, fault_of, row_wrong, row_fault, bad_row, rows_wrong, unfinished, sizes, rows_verdict, plan_verdict, verdict_by, verdict}
use Rattle.plan.specs.Refusals.{WrongLength, Unfinished}
use Rattle.plan.proofs.Laws.Passed.{Passed}
use Rattle.plan.proofs.Laws.State.{step_right}

pub length_wrong_decides : (p : List ℕ) → Decides (length_wrong p) (WrongLength p)
unfolding length_wrong
length_wrong_decides p = or_decides (eqb_decides (length p) 0) (or_decides (not_decides (eqb_decides (length p % 4) 0)) (ltb_decides most_words (length p)))

pub unfinished_decides : (p : List ℕ) → Decides (unfinished p) (Unfinished (state_at p (row_count p)))
unfolding unfinished
unfinished_decides p = or_decides (not_decides (eqb_decides (state_at p (row_count p)).vars 0)) (not_decides (eqb_decides (state_at p (row_count p)).answers 1))

module _ (t : ℕ) (p : List ℕ) where
  pub row-stands : (i : ℕ) (s : State) → step t (state_at p i) p i ≡ Ok s → row_wrong t p i ≡ false
  unfolding row_wrong
  row-stands i s e = ap faulty e

  pub row-faulty : (i : ℕ) (why : Fault) → step t (state_at p i) p i ≡ Err why → (row_wrong t p i ≡ true) × (row_fault t p i ≡ fault_code why)
  unfolding row_wrong row_fault
  row-faulty i why e = (ap faulty e, ap fault_of e)

  pub rows_fault : (i : ℕ) (why : Fault) → i < row_count p → bad_row t p ≡ i → step t (state_at p i) p i ≡ Err why → rows_verdict t p ≡ refused (fault_code why) i
  unfolding rows_verdict rows_wrong
  rows_fault i why h b e = rw (b, lt-ltb i (row_count p) h, (row-faulty i why e).1)

  -- no row is refused
  module _ (clear : bad_row t p ≡ row_count p) where
    end : Said Sizes
    end = cond (unfinished p) (refused 14 0) (answered (sizes p))

    past-rows : rows_verdict t p ≡ end
    unfolding rows_verdict rows_wrong end
    past-rows = rw (le-ltb (bad_row t p) (row_count p) (omega arith))

    pub rows-unfinished : Unfinished (state_at p (row_count p)) → rows_verdict t p ≡ refused 14 0
    unfolding end
    rows-unfinished h = past-rows ∙ rw (holds (unfinished_decides p) h)

    pub rows-answer : (state_at p (row_count p)).vars ≡ 0 → (state_at p (row_count p)).answers ≡ 1 → rows_verdict t p ≡ answered (sizes p)
    unfolding unfinished end
    rows-answer closed h = past-rows ∙ rw (eq-eqb (state_at p (row_count p)).vars 0 closed, eq-eqb (state_at p (row_count p)).answers 1 h)

  pub plan-length : WrongLength p → plan_verdict t p ≡ refused 9 0
  unfolding plan_verdict
  plan-length h = rw (holds (length_wrong_decides p) h)

  pub plan-rows : length p ≢ 0 → length p % 4 ≡ 0 → length p ≤ most_words → plan_verdict t p ≡ rows_verdict t p
  unfolding plan_verdict length_wrong
  plan-rows some whole h = rw (ne_eqb (length p) 0 some, eq-eqb (length p % 4) 0 whole, le-ltb most_words (length p) h)

-- the tests of one row, from the test of its step
pub row-right : (t : ℕ) (p : List ℕ) (i : ℕ) → row_wrong t p i ≡ false → (form_wrong_at p i ≡ false) × (list_wrong t (row_at p i).kind ≡ false) × (too_many (state_at p i) (row_at p i).kind ≡ false) × (order_wrong (state_at p i) (row_at p i).kind ≡ false)
unfolding row_wrong
row-right t p i e = go (step t (state_at p i) p i) refl e
  where
    go : (x : Result State Fault) → step t (state_at p i) p i ≡ x → faulty x ≡ false → (form_wrong_at p i ≡ false) × (list_wrong t (row_at p i).kind ≡ false) × (too_many (state_at p i) (row_at p i).kind ≡ false) × (order_wrong (state_at p i) (row_at p i).kind ≡ false)
    go (Ok s) q f = let w = step_right t (state_at p i) p i s q in (w.0, w.1, w.2, w.3)
    go (Err why) q f = absurd (true≢false f)

-- a verdict that answers: every test is passed, and the sizes are those of the plan
module _ (t : ℕ) (p : List ℕ) (s : Sizes) (e : plan_verdict t p ≡ answered s) where
  rows-said : (length_wrong p ≡ false) × (rows_verdict t p ≡ answered s)
  unfolding plan_verdict
  rows-said = past (length_wrong p) 9 0 (rows_verdict t p) s e

  end-said : (rows_wrong t p ≡ false) × (cond (unfinished p) (refused 14 0) (answered (sizes p)) ≡ answered s)
  unfolding rows_verdict
  end-said = past (rows_wrong t p) (row_fault t p (bad_row t p)) (bad_row t p) _ s rows-said.1

  finished : (unfinished p ≡ false) × (answered (sizes p) ≡ answered s)
  finished = past (unfinished p) 14 0 (answered (sizes p)) s end-said.1

  said-sizes : s ≡ sizes p
  said-sizes = let q = finished.1 in cc

  right : (i : ℕ) → i < row_count p → row_wrong t p i ≡ false
  unfolding rows_wrong
  right i h = search-clear (row_wrong t p) 0 (row_count p) (row_count p) end-said.0 i (omega arith) h

  pub passed : Passed t p
  passed = record {
    whole = let m : length p % 4 ≡ 0 = stable (eqb_decides (length p % 4) 0) (λ n. long (inr (inl n))) in omega arith;
    some-rows =
        let m : length p % 4 ≡ 0 = stable (eqb_decides (length p % 4) 0) (λ n. long (inr (inl n))) in
        let z : length p ≢ 0 = λ q. long (inl q) in
        omega arith;
    most-rows = let z : most_words < length p → ⊥ = λ q. long (inr (inr q)) in omega arith;
    formed = λ i h. (row-right t p i (right i h)).0;
    listed = λ i h. (row-right t p i (right i h)).1;
    few = λ i h. (row-right t p i (right i h)).2;
    ordered = λ i h. (row-right t p i (right i h)).3;
    closed = stable (eqb_decides (state_at p (row_count p)).vars 0) (λ n. open-end (inl n));
    single = stable (eqb_decides (state_at p (row_count p)).answers 1) (λ n. open-end (inr n));
  }
    where
      long : WrongLength p → ⊥
      long = (length_wrong_decides p).no rows-said.0

      open-end : Unfinished (state_at p (row_count p)) → ⊥
      open-end = (unfinished_decides p).no finished.0

-- a verdict on a volume and a plan that answers: both are accepted
module _ (v p : List ℕ) (s : Sizes) (e : verdict v p ≡ answered s) where
  both-said : (volume.verdict v ≡ answered (volume.sizes v)) × (plan_verdict (list_count v) p ≡ answered s)
  unfolding verdict
  both-said = ⊎_elim accepts refuses (check_sound v).total
    where
      accepts : volume.verdict v ≡ answered (volume.sizes v) → (volume.verdict v ≡ answered (volume.sizes v)) × (plan_verdict (list_count v) p ≡ answered s)
      accepts q = (q, sym (ap (λ x. verdict_by x p) q) ∙ e)

      refuses : ((n : ℕ) × (q : ℕ) × (volume.verdict v ≡ refused n q)) → (volume.verdict v ≡ answered (volume.sizes v)) × (plan_verdict (list_count v) p ≡ answered s)
      refuses w = absurd (not-both (verdict_by (volume.verdict v) p) s w.0 w.1 e (ap (λ x. verdict_by x p) w.2))

  pub volume-accepted : volume.Accepted v
  volume-accepted = both-said.0

  pub verdict-sizes : s ≡ sizes p
  verdict-sizes = said-sizes (list_count v) p s both-said.1

  pub verdict-passed : Passed (list_count v) p
  verdict-passed = passed (list_count v) p s both-said.1
