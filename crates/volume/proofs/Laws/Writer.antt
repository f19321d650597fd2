-- The writer, by the lists that it is given. No contract cites this file.
--     limits-given, given_limits     the tests 5, 18, 7 and 19 fail exactly within the limits
--     writes                         when it refuses, and what it lays
--     writes-every                   lists within the limits are written
-- Assumes nothing.
use Prim.Native.Nat.{ℕ, ◌*◌, ◌<◌, ◌≤◌}
use native.Mathlib.Omega.{arith}
use mathlib.Core.Path.{◌≡◌, sym, ap, ap₂, ◌∙◌}
use mathlib.Core.Bool.{false}
use mathlib.Core.Logic.{◌⊎◌, inl, inr, ⊎_elim, ◌≢◌}
use mathlib.Core.List.{List, ◌++◌, map}
use lib.ListN.{length, drop, length-map}
use borrow.Author.Tests.{not-false}
use Rattle.seq.specs.Lists.{total, joined, rises}
use Rattle.seq.specs.Refusals.{Said, refused, answered}
use Rattle.seq.proofs.Laws.Tests.{true_or}
use Rattle.seq.proofs.Laws.Lists.{length-joined}
use Rattle.seq.proofs.Laws.Refusals.{laid-answered, not-both, past}
use Rattle.block.specs.Bytes.{IsWords}
use Rattle.volume.specs.Layout.{extent_of, blocks_for}
use Rattle.volume.specs.Write.{written, volume_of, given_list, given_lists, counts_wrong, sum_wrong, given_wrong, bad_given, given_lists_wrong, too_large, short_output, write_answer, write_out}
use Rattle.volume.specs.Demands.{Within, Lays, Writes}
use Rattle.seq.proofs.Laws.Decides.{stable, fails, eqb_decides}
use Rattle.seq.proofs.Laws.Runs.{first_past, sum-total}
use Rattle.volume.proofs.Laws.Check.{least-blocks_for}
use Rattle.volume.proofs.Laws.WriteAnswer.{write-list_count, write-count_sum, write-order, write-too_large, write-short, write-answer, counts_wrong_decides, sum_wrong_decides, too_large_decides, short_output_decides, given_lists_wrong-false, given-clear}
use Rattle.volume.proofs.Laws.Lists.{written-volume_of}
use Rattle.volume.proofs.Laws.Volume.{Given, length-written}
use Rattle.volume.proofs.Laws.Within.{within-given, given-within, within-back}

-- the tests in front of 20 fail
pub record Limits (counts postings : List ℕ) : Type 0 where
  pub counts_pass : counts_wrong counts ≡ false
  pub sum-passes : sum_wrong counts postings ≡ false
  pub lists_pass : given_lists_wrong counts postings ≡ false
  pub size-passes : too_large counts postings ≡ false

module _ (cs ps : List ℕ) where
  limits-sum : Limits cs ps → total (λ x. x) cs ≡ length ps
  limits-sum l = stable (eqb_decides (total (λ x. x) cs) (length ps)) ((sum_wrong_decides cs ps).no l.sum-passes)

  limits-given : IsWords ps → Limits cs ps → Given cs ps
  unfolding given_wrong
  limits-given words l = record {
    lists-some = range-some;
    lists-most = range-most;
    sum_is = sum-total cs ∙ limits-sum l;
    fits = let h : (1032192 < extent_of (length cs) (length ps)) → ⊥ = (too_large_decides cs ps).no l.size-passes in omega arith;
    lists-rise = λ i h. not-false (rises (given_list cs ps i)) (given-clear cs ps l.lists_pass i h);
    words = words;
  }
    where
      range : (length cs < 1) ⊎ (1024 < length cs) → ⊥
      range = (counts_wrong_decides cs ps).no l.counts_pass

      range-some : 1 ≤ length cs
      range-some = let h : (length cs < 1) → ⊥ = λ (x : length cs < 1). range (inl x) in omega arith

      range-most : length cs ≤ 1024
      range-most = let h : (1024 < length cs) → ⊥ = λ (x : 1024 < length cs). range (inr x) in omega arith

  given_limits : Given cs ps → Limits cs ps
  unfolding given_wrong
  given_limits g = record {
    counts_pass = fails (counts_wrong_decides cs ps) range;
    sum-passes = fails (sum_wrong_decides cs ps) (λ n. n (sym (sum-total cs) ∙ g.sum_is));
    lists_pass = given_lists_wrong-false cs ps (first_past (given_wrong cs ps) (length cs) (λ i h. rw (g.lists-rise i h)));
    size-passes = fails (too_large_decides cs ps) (λ h. let f = g.fits in omega arith);
  }
    where
      range : (length cs < 1) ⊎ (1024 < length cs) → ⊥
      range w = let a = g.lists-some in let b = g.lists-most in ⊎_elim (λ (x : length cs < 1). omega arith) (λ (x : 1024 < length cs). omega arith) w

  -- within the limits only 20 is left
  left : (room : ℕ) → Limits cs ps → (write_answer cs ps room ≡ refused 20 0) ⊎ (write_answer cs ps room ≡ answered (blocks_for (extent_of (length cs) (length ps))))
  left room l =
      ⊎_elim (λ e. inl (write-short cs ps room l.counts_pass l.sum-passes l.lists_pass l.size-passes e))
      (λ e. inr (write-answer cs ps room l.counts_pass l.sum-passes l.lists_pass l.size-passes e)) (true_or (short_output cs ps room))

  -- an answer is within the limits, and the output is long enough
  answer_limits : (room n : ℕ) → write_answer cs ps room ≡ answered n → Limits cs ps × (short_output cs ps room ≡ false) × (blocks_for (extent_of (length cs) (length ps)) ≡ n)
  unfolding write_answer
  answer_limits room n e =
      let e5 = past (counts_wrong cs) 5 0 _ n e in
      let e18 = past (sum_wrong cs ps) 18 0 _ n e5.1 in
      let e7 = past (given_lists_wrong cs ps) 7 (bad_given cs ps) _ n e18.1 in
      let e19 = past (too_large cs ps) 19 0 _ n e7.1 in
      let e20 = past (short_output cs ps room) 20 0 _ n e19.1 in
      (record { counts_pass = e5.0; sum-passes = e18.0; lists_pass = e7.0; size-passes = e19.0 }, e20.0, same (blocks_for (extent_of (length cs) (length ps))) e20.1)
    where
      same : (m : ℕ) → ◌≡◌ {A = Said ℕ} (answered m) (answered n) → m ≡ n
      same m q = cc

  -- a refusal other than 20, or within the limits
  refusal_or : (room : ℕ) → ((n : ℕ) × (p : ℕ) × (write_answer cs ps room ≡ refused n p) × (n ≢ 20)) ⊎ Limits cs ps
  refusal_or room =
      ⊎_elim (λ e5. inl (5, 0, write-list_count cs ps room e5, omega arith))
      (λ e5. ⊎_elim (λ e18. inl (18, 0, write-count_sum cs ps room e5 e18, omega arith))
      (λ e18. ⊎_elim (λ e7. inl (7, bad_given cs ps, write-order cs ps room e5 e18 e7, omega arith))
      (λ e7. ⊎_elim (λ e19. inl (19, 0, write-too_large cs ps room e5 e18 e7 e19, omega arith))
      (λ e19. inr (record { counts_pass = e5; sum-passes = e18; lists_pass = e7; size-passes = e19 })) (true_or (too_large cs ps)))
      (true_or (given_lists_wrong cs ps)))
      (true_or (sum_wrong cs ps)))
      (true_or (counts_wrong cs))

  pub write-laid : (out : List ℕ) (n : ℕ) → write_answer cs ps (length out) ≡ answered n → write_out cs ps out ≡ written cs ps ++ drop (512 * n) out
  unfolding write_out
  write-laid out n e =
      laid-answered (write_answer cs ps (length out)) n (written cs ps) out e
      ∙ ap (λ (k : ℕ). written cs ps ++ drop k out) (length-written cs ps ∙ ap (λ (k : ℕ). 512 * k) (answer_limits (length out) n e).2)

  lays : (out : List ℕ) (n : ℕ) → write_answer cs ps (length out) ≡ answered n → Lays cs ps out n
  lays out n e = record {
    blocks = rw q at (least-blocks_for (extent_of (length cs) (length ps)));
    room = let h : (length out < 512 * blocks_for (extent_of (length cs) (length ps))) → ⊥ = (short_output_decides cs ps (length out)).no w.1 in let k = q in omega arith;
    volume = volume;
    size = ap length (sym volume) ∙ length-written cs ps ∙ ap (λ (k : ℕ). 512 * k) q;
    output = write-laid out n e ∙ ap (λ (l : List ℕ). l ++ drop (512 * n) out) volume;
  }
    where
      w : Limits cs ps × (short_output cs ps (length out) ≡ false) × (blocks_for (extent_of (length cs) (length ps)) ≡ n)
      w = answer_limits (length out) n e

      q : blocks_for (extent_of (length cs) (length ps)) ≡ n
      q = w.2

      volume : written cs ps ≡ volume_of (given_lists cs ps)
      volume = written-volume_of cs ps (limits-sum w.0)

  pub writes : (out : List ℕ) → Writes cs ps out
  writes out = record { refuses = λ words. (outside, inside words); lays = lays out }
    where
      outside : ((n : ℕ) × (p : ℕ) × (write_answer cs ps (length out) ≡ refused n p) × (n ≢ 20)) → (Within (given_lists cs ps) × (total (λ x. x) cs ≡ length ps)) → ⊥
      outside r w = ⊎_elim twenty answer (left (length out) (given_limits (within-back cs ps w.0 w.1)))
        where
          twenty : write_answer cs ps (length out) ≡ refused 20 0 → ⊥
          twenty e = r.3 (same r.0 r.1 (sym r.2 ∙ e))
            where
              same : (n p : ℕ) → ◌≡◌ {A = Said ℕ} (refused n p) (refused 20 0) → n ≡ 20
              same n p q = cc

          answer : write_answer cs ps (length out) ≡ answered (blocks_for (extent_of (length cs) (length ps))) → ⊥
          answer e = not-both (write_answer cs ps (length out)) (blocks_for (extent_of (length cs) (length ps))) r.0 r.1 e r.2

      inside : IsWords ps → ((Within (given_lists cs ps) × (total (λ x. x) cs ≡ length ps)) → ⊥) → (n : ℕ) × (p : ℕ) × (write_answer cs ps (length out) ≡ refused n p) × (n ≢ 20)
      inside words h = ⊎_elim (λ r. r) (λ l. absurd (h (given-within cs ps (limits-given words l), limits-sum l))) (refusal_or (length out))

-- lists within the limits are written
pub writes-every :
    (ls : List (List ℕ)) → Within ls → (out : List ℕ) → length (volume_of ls) ≤ length out
    → (write_answer (map length ls) (joined ls) (length out) ≡ answered (blocks_for (extent_of (length ls) (total length ls))))
    × (write_out (map length ls) (joined ls) out ≡ volume_of ls ++ drop (length (volume_of ls)) out)
unfolding volume_of
writes-every ls w out h =
    let l = given_limits (map length ls) (joined ls) (within-given ls w) in
    let m = length-written (map length ls) (joined ls) in
    let f = fails (short_output_decides (map length ls) (joined ls) (length out)) (λ k. omega arith) in
    let e = write-answer (map length ls) (joined ls) (length out) l.counts_pass l.sum-passes l.lists_pass l.size-passes f in (
      e ∙ ap₂ (λ (a b : ℕ). answered (blocks_for (extent_of a b))) (length-map ls length) (length-joined ls),
      write-laid (map length ls) (joined ls) out _ e ∙ ap (λ (k : ℕ). written (map length ls) (joined ls) ++ drop k out) (sym m),
    )
