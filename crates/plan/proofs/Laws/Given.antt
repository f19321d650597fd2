-- What a plan that passes every test gives: `specs/Accepted.antt` without the volume. No contract cites this file.
--     patterns_are                      the patterns of any plan, counted
--     vars_are, sizes_are               their variables, and both, where no pattern is open at the end
--     row-range                         the numbers of a row of the right form are in range
--     rows_pass                         the rows of a plan that passes, each where it stands
--     well-made                         its patterns are well made
--     some-patterns, most-patterns, some-vars, most-vars, width
--                                       how many patterns and variables there are
--     one_answer                        one answer is left
-- Assumes nothing.
use Prim.Native.Nat.{ℕ, zero, suc, ◌+◌, ◌<◌, ◌≤◌}
use native.Mathlib.Nat.{zero-add}
use native.Mathlib.Numerals.{add-one}
use native.Mathlib.Omega.{arith}
use mathlib.Core.Path.{◌≡◌, refl, sym, ap, ◌∙◌}
use mathlib.Core.Bool.{Bool, false}
use mathlib.Core.Logic.{⊎_elim}
use mathlib.Core.List.{List, []}
use lib.ListN.{length}
use Rattle.seq.specs.Lists.{total}
use Rattle.seq.specs.Numbers.{run}
use Rattle.seq.proofs.Laws.Tests.{below_or}
use Rattle.seq.proofs.Laws.Numbers.{length_run}
use Rattle.plan.specs.Limits.{most_patterns, most_vars, row_words, most_row_words}
use Rattle.plan.specs.Rows.{row_count, kind_at, a_at, b_at, c_at, row_at, rows_of, form_wrong_at, InRange}
use Rattle.plan.specs.State.{initial, after, state_at}
use Rattle.plan.specs.Patterns.{Pattern, no_row, patterns_of, answers_from}
use Rattle.plan.specs.Check.{sizes}
use Rattle.plan.specs.Accepted.{pattern_at, WellMade}
use Rattle.plan.proofs.Laws.Rows.{range-of}
use Rattle.plan.proofs.Laws.State.{state_at-first, state_at-next}
use Rattle.plan.proofs.Laws.Passed.{Passed}
use Rattle.plan.proofs.Laws.Patterns.{patterns-length, patterns-vars, Passes, PassAll, fits-none, patterns-made, answers-length, Bound, bound-initial, bound-after_all}

module _ (p : List ℕ) where
  patterns_are : length (patterns_of (rows_of p)) ≡ (state_at p (row_count p)).patterns
  unfolding state_at
  patterns_are = sym (patterns-length initial no_row (rows_of p) ∙ zero-add (length (patterns_of (rows_of p))))

  vars_are : (state_at p (row_count p)).vars ≡ 0 → total (λ (f : Pattern). length f.vars) (patterns_of (rows_of p)) ≡ (state_at p (row_count p)).total
  unfolding state_at
  vars_are e = let w = patterns-vars initial no_row (rows_of p) refl in omega arith

  pub sizes_are : (state_at p (row_count p)).vars ≡ 0 → sizes p ≡ record { patterns = (state_at p (row_count p)).patterns; vars = (state_at p (row_count p)).total }
  unfolding sizes
  sizes_are e = rw (patterns_are, vars_are e)

  pub row-range : (i : ℕ) → form_wrong_at p i ≡ false → InRange (row_at p i).kind
  unfolding row_at
  row-range i e = range-of (kind_at p i) (a_at p i) (b_at p i) (c_at p i) e

module _ (t : ℕ) (p : List ℕ) (ok : Passed t p) where
  -- m rows from row i on
  rows_pass : (i m : ℕ) → i + m ≤ row_count p → PassAll t (state_at p i) (run (row_at p) i m)
  unfolding PassAll run
  rows_pass i zero h = tt
  rows_pass i (suc m) h = (here, rw next at (rows_pass (suc i) m (omega arith)))
    where
      here : Passes t (state_at p i) (row_at p i).kind
      here =
          let l : i < row_count p = omega arith in
          record { in-range = row-range p i (ok.formed i l); listed = ok.listed i l; few = ok.few i l; ordered = ok.ordered i l }

      next : state_at p (suc i) ≡ after (state_at p i) (row_at p i).kind
      next = ap (state_at p) (sym (add-one i)) ∙ state_at-next p i

  -- all rows
  pub all_pass : PassAll t initial (rows_of p)
  all_pass = rw (state_at-first p) at (rows_pass 0 (row_count p) (omega arith))

  pub well-made : (k : ℕ) → k < (sizes p).patterns → WellMade t (pattern_at p k)
  unfolding sizes
  well-made = patterns-made t initial no_row (rows_of p) all_pass (fits-none t initial refl)

  end-bound : Bound (row_count p) (state_at p (row_count p))
  unfolding state_at
  end-bound = rw (length_run (row_at p) 0 (row_count p), zero-add (row_count p)) at (bound-after_all t 0 initial (rows_of p) all_pass bound-initial)

  pub one_answer : (found : Pattern → Bool) → length (answers_from found no_row [] (rows_of p)) ≡ 1
  unfolding state_at
  one_answer found = answers-length found t initial no_row [] (rows_of p) all_pass refl ∙ ok.single

  -- how many patterns and variables there are, by the numbers of the state at the end
  pub some-patterns : 1 ≤ (sizes p).patterns
  some-patterns = rw (sizes_are p ok.closed) (let b = end-bound in omega arith)

  pub most-patterns : (sizes p).patterns ≤ most_patterns
  most-patterns = rw (sizes_are p ok.closed) end-bound.few-patterns

  pub some-vars : 1 ≤ (sizes p).vars
  some-vars = rw (sizes_are p ok.closed) (let b = end-bound in omega arith)

  -- two patterns or more have an operator, which takes a row; one has eight variables at most
  few-rows : (state_at p (row_count p)).total + (state_at p (row_count p)).patterns ≤ 63
  few-rows =
      let b = end-bound in
      let one = ok.single in
      ⊎_elim
      (λ (l : 1 < (state_at p (row_count p)).patterns). let j = b.joined (omega arith) in omega arith)
      (λ (l : (state_at p (row_count p)).patterns ≤ 1). omega arith)
      (below_or 1 (state_at p (row_count p)).patterns)

  pub most-vars : (sizes p).vars ≤ most_vars
  most-vars = rw (sizes_are p ok.closed) (let b = end-bound in let f = few-rows in omega arith)

  pub width : row_words (sizes p).patterns (sizes p).vars ≤ most_row_words
  width = rw (sizes_are p ok.closed) (let b = end-bound in let f = few-rows in omega arith)
