-- The writer's answer: the rungs of `write_answer`, what its tests decide, and each way out of the writer. No contract cites this file.
--     write-list_count .. write-answer                  write_answer by its first test that fails
--     counts_wrong_decides .. short_output_decides      what each test decides
--     given-clear, given-found                          no given list is wrong; one is
--     given_wrong-is                                    the test of a given list by whether it rises
--     write_kept                                        a refusal leaves the output
--     refuses-counts .. refuses-short, answers          the answer with the output afterwards
-- Assumes nothing.
use Prim.Native.Nat.{ℕ, ◌+◌, ◌*◌, ◌-◌, ◌<◌, ◌≤◌}
use native.Mathlib.Nat.{add-sub_cancel_left}
use native.Mathlib.Omega.{arith}
use mathlib.Core.Path.{◌≡◌, sym, ap, ◌∙◌}
use mathlib.Core.Bool.{Bool, true, false, not}
use mathlib.Core.Logic.{◌⊎◌, ◌≢◌, ⊎_elim}
use mathlib.Core.List.{List, ◌++◌}
use lib.ListN.{length, drop}
use borrow.Author.Tests.{lt-ltb, le-ltb}
use Rattle.seq.specs.Lists.{at, total, rises, NotRising}
use Rattle.seq.specs.Numbers.{run, sum_to}
use Rattle.seq.specs.Refusals.{refused, answered}
use Rattle.seq.proofs.Laws.Numbers.{search-found, search-clear}
use Rattle.volume.specs.Layout.{extent_of, blocks_for}
use Rattle.volume.specs.Write.{blocks_from, stream_of, written, given_list, counts_wrong, sum_wrong, given_wrong, bad_given, given_lists_wrong, too_large, short_output, write_answer, write_out}
use Rattle.seq.proofs.Laws.Decides.{Decides, holds, fails, not_decides, eqb_decides, ltb_decides}
use Rattle.seq.proofs.Laws.Refusals.{laid-refused, laid-answered}
use Rattle.seq.proofs.Laws.Rising.{falls_decides}
use Rattle.seq.proofs.Laws.Runs.{sum-total}
use Rattle.volume.proofs.Laws.Check.{range_decides}
use Rattle.volume.proofs.Laws.Write.{length-blocks_from}

-- the writer's answer, from the first rung down
module _ (counts postings : List ℕ) (room : ℕ) where
  pub write-list_count : counts_wrong counts ≡ true → write_answer counts postings room ≡ refused 5 0
  unfolding write_answer
  write-list_count e5 = rw e5

  pub write-count_sum : counts_wrong counts ≡ false → sum_wrong counts postings ≡ true → write_answer counts postings room ≡ refused 18 0
  unfolding write_answer
  write-count_sum e5 e18 = rw (e5, e18)

  pub write-order : counts_wrong counts ≡ false → sum_wrong counts postings ≡ false → given_lists_wrong counts postings ≡ true → write_answer counts postings room ≡ refused 7 (bad_given counts postings)
  unfolding write_answer
  write-order e5 e18 e7 = rw (e5, e18, e7)

  pub write-too_large : counts_wrong counts ≡ false → sum_wrong counts postings ≡ false → given_lists_wrong counts postings ≡ false → too_large counts postings ≡ true → write_answer counts postings room ≡ refused 19 0
  unfolding write_answer
  write-too_large e5 e18 e7 e19 = rw (e5, e18, e7, e19)

  pub write-short : counts_wrong counts ≡ false → sum_wrong counts postings ≡ false → given_lists_wrong counts postings ≡ false → too_large counts postings ≡ false → short_output counts postings room ≡ true → write_answer counts postings room ≡ refused 20 0
  unfolding write_answer
  write-short e5 e18 e7 e19 e20 = rw (e5, e18, e7, e19, e20)

  pub write-answer :
      counts_wrong counts ≡ false → sum_wrong counts postings ≡ false → given_lists_wrong counts postings ≡ false → too_large counts postings ≡ false
      → short_output counts postings room ≡ false → write_answer counts postings room ≡ answered (blocks_for (extent_of (length counts) (length postings)))
  unfolding write_answer
  write-answer e5 e18 e7 e19 e20 = rw (e5, e18, e7, e19, e20)

-- what each test decides
module _ (counts postings : List ℕ) where
  pub counts_wrong_decides : Decides (counts_wrong counts) ((length counts < 1) ⊎ (1024 < length counts))
  unfolding counts_wrong
  counts_wrong_decides = range_decides (length counts)

  pub sum_wrong_decides : Decides (sum_wrong counts postings) (total (λ x. x) counts ≢ length postings)
  unfolding sum_wrong
  sum_wrong_decides = rw (← (sum-total counts)) (not_decides (eqb_decides (sum_to (at counts) (length counts)) (length postings)))

  pub given_wrong_decides : (i : ℕ) → Decides (given_wrong counts postings i) (NotRising (given_list counts postings i))
  unfolding given_wrong
  given_wrong_decides i = falls_decides (given_list counts postings i)

  pub too_large_decides : Decides (too_large counts postings) (1032192 < extent_of (length counts) (length postings))
  unfolding too_large
  too_large_decides = ltb_decides 1032192 (extent_of (length counts) (length postings))

  pub short_output_decides : (room : ℕ) → Decides (short_output counts postings room) (room < 512 * blocks_for (extent_of (length counts) (length postings)))
  unfolding short_output
  short_output_decides room = ltb_decides room (512 * blocks_for (extent_of (length counts) (length postings)))

  given_lists_wrong-true : bad_given counts postings < length counts → given_lists_wrong counts postings ≡ true
  unfolding given_lists_wrong
  given_lists_wrong-true h = lt-ltb (bad_given counts postings) (length counts) h

  pub given_lists_wrong-false : length counts ≤ bad_given counts postings → given_lists_wrong counts postings ≡ false
  unfolding given_lists_wrong
  given_lists_wrong-false h = le-ltb (bad_given counts postings) (length counts) h

  pub given-clear : given_lists_wrong counts postings ≡ false → (i : ℕ) → i < length counts → given_wrong counts postings i ≡ false
  unfolding given_lists_wrong
  given-clear e i h = search-clear (given_wrong counts postings) 0 (length counts) (length counts) e i (omega arith) h

  pub given-found : given_lists_wrong counts postings ≡ true → (bad_given counts postings < length counts) × (given_wrong counts postings (bad_given counts postings) ≡ true)
  unfolding given_lists_wrong
  given-found e = search-found (given_wrong counts postings) 0 (length counts) (length counts) (omega arith) e

-- the test of given list i by r, whether it rises
pub given_wrong-is : (counts postings : List ℕ) (i from : ℕ) (r : Bool) → from ≡ sum_to (at counts) i → r ≡ rises (run (at postings) from (from + at counts i - from)) → given_wrong counts postings i ≡ not r
unfolding given_wrong
given_wrong-is counts postings i from r e w = rw (w, add-sub_cancel_left from (at counts i), e)

-- none of 5, 18 and 7 applies
pub record Ordered (counts postings : List ℕ) : Type 0 where
  pub few : 1 ≤ length counts
  pub many : length counts ≤ 1024
  pub sum : sum_to (at counts) (length counts) ≡ length postings
  pub order : length counts ≤ bad_given counts postings

-- each way out of the writer: its answer, with the output afterwards
module _ (counts postings out : List ℕ) where
  -- refusal n at p, and the output as it was
  abbrev pub Refuses : ℕ → ℕ → Type 0
  Refuses n p = (refused n p ≡ write_answer counts postings (length out)) × (out ≡ write_out counts postings out)

  -- a refusal leaves the output
  pub write_kept : (n p : ℕ) → write_answer counts postings (length out) ≡ refused n p → write_out counts postings out ≡ out
  unfolding write_out
  write_kept n p e = laid-refused (write_answer counts postings (length out)) n p (written counts postings) out e

  refuses : (n p : ℕ) → write_answer counts postings (length out) ≡ refused n p → Refuses n p
  refuses n p e = (sym e, sym (write_kept n p e))

  pub refuses-counts : (length counts < 1) ⊎ (1024 < length counts) → Refuses 5 0
  refuses-counts w = refuses 5 0 (write-list_count counts postings (length out) (holds (counts_wrong_decides counts postings) w))

  module _ (few : 1 ≤ length counts) (many : length counts ≤ 1024) where
    counts-right : counts_wrong counts ≡ false
    counts-right = fails (counts_wrong_decides counts postings) (⊎_elim (λ (h : length counts < 1). omega arith) (λ (h : 1024 < length counts). omega arith))

    pub refuses-sum : (sum_to (at counts) (length counts) ≡ length postings → ⊥) → Refuses 18 0
    refuses-sum n = refuses 18 0 (write-count_sum counts postings (length out) counts-right (holds (sum_wrong_decides counts postings) (λ e. n (sum-total counts ∙ e))))

    module _ (sum : sum_to (at counts) (length counts) ≡ length postings) where
      sum-right : sum_wrong counts postings ≡ false
      sum-right = fails (sum_wrong_decides counts postings) (λ n. n (sym (sum-total counts) ∙ sum))

      pub refuses-order : (i : ℕ) → i ≡ bad_given counts postings → i < length counts → Refuses 7 i
      refuses-order i e h = refuses 7 i (write-order counts postings (length out) counts-right sum-right (given_lists_wrong-true counts postings (rw e at h)) ∙ ap (refused 7) (sym e))

  module _ (o : Ordered counts postings) where
    -- the first three tests are passed
    five : counts_wrong counts ≡ false
    five = counts-right o.few o.many

    eighteen : sum_wrong counts postings ≡ false
    eighteen = sum-right o.few o.many o.sum

    seven : given_lists_wrong counts postings ≡ false
    seven = given_lists_wrong-false counts postings o.order

    pub refuses_large : 1032192 < extent_of (length counts) (length postings) → Refuses 19 0
    refuses_large h = refuses 19 0 (write-too_large counts postings (length out) five eighteen seven (holds (too_large_decides counts postings) h))

    module _ (fits : extent_of (length counts) (length postings) ≤ 1032192) where
      nineteen : too_large counts postings ≡ false
      nineteen = fails (too_large_decides counts postings) (λ (h : 1032192 < extent_of (length counts) (length postings)). omega arith)

      pub refuses-short : length out < 512 * blocks_for (extent_of (length counts) (length postings)) → Refuses 20 0
      refuses-short h = refuses 20 0 (write-short counts postings (length out) five eighteen seven nineteen (holds (short_output_decides counts postings (length out)) h))

      pub answers : (n : ℕ) (after : List ℕ) → n ≡ blocks_for (extent_of (length counts) (length postings)) → 512 * n ≤ length out
          → after ≡ blocks_from (at (stream_of counts postings)) 0 n ++ drop (512 * n) out → (answered n ≡ write_answer counts postings (length out)) × (after ≡ write_out counts postings out)
      unfolding write_out written
      answers n after e h w =
          let room : 512 * blocks_for (extent_of (length counts) (length postings)) ≤ length out = rw e at h in
          let twenty = fails (short_output_decides counts postings (length out)) (λ (l : length out < 512 * blocks_for (extent_of (length counts) (length postings))). omega arith) in
          let a : write_answer counts postings (length out) ≡ answered n = write-answer counts postings (length out) five eighteen seven nineteen twenty ∙ ap answered (sym e) in
          let size = length-blocks_from (at (stream_of counts postings)) 0 n in
          (sym a, w ∙ sym (laid-answered _ n (written counts postings) out a ∙ rw (← e, size)))
