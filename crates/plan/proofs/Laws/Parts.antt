-- The laws of `specs/Parts.antt`: where the rows of each pattern lie in a plan that passes every test. No contract cites this file.
--     behind-le, idle-behind                behind a pattern, in the plan, none is open
--     span-within, span-rises               a pattern's VOICE and END lie in the plan
--     last-opening                          behind the last pattern there is no VOICE
--     part-rows, part-words, part-some      the part of the plan at a pattern's rows says the pattern
--     gaps-operate                          between the patterns stand operators
--     parts_whole                           the parts with the operators between them are the plan
-- Assumes nothing.
use Prim.Native.Nat.{ℕ, zero, suc, ◌+◌, ◌-◌, ◌*◌, ◌<◌, ◌≤◌}
use native.Mathlib.Omega.{arith}
use mathlib.Core.Path.{◌≡◌, refl, sym, ap, ◌∙◌}
use mathlib.Core.Bool.{true}
use mathlib.Core.Logic.{⊎_elim}
use mathlib.Core.List.{List, [], ◌∷◌, ◌++◌, append_assoc, nil≢cons, head-eq_of_cons-eq, tail-eq_of_cons-eq}
use lib.ListN.{length, take, drop}
use lib.Seq.{take_all, drop-cons, drop-length}
use Rattle.seq.specs.Lists.{all, joined}
use Rattle.seq.specs.Numbers.{run}
use Rattle.seq.proofs.Laws.Tests.{below_or}
use Rattle.plan.specs.declared.row.Row.{Row}
use Rattle.plan.specs.Rows.{row_count, row_at, rows_of, plan_of, is_voice, is_end, is_operator}
use Rattle.plan.specs.State.{state_at}
use Rattle.plan.specs.Patterns.{no_row, patterns_from, patterns_of}
use Rattle.plan.specs.Parts.{opening, behind, first_row, last_row, span_at, part_at, gap, pattern_rows}
use Rattle.plan.specs.Accepted.{pattern_at}
use Rattle.seq.proofs.Laws.Slices.{length_slice, take_slice, joined-takes}
use Rattle.plan.proofs.Laws.Rows.{rows_slice, words_slice}
use Rattle.plan.proofs.Laws.State.{state_at-first}
use Rattle.plan.proofs.Laws.Spans.{found_ge, found-le, found_at, behind-next}
use Rattle.plan.proofs.Laws.Walk.{operators, end-behind, Piece, piece, no-piece}
use Rattle.plan.proofs.Laws.Passed.{Passed}

-- the number of patterns
abbrev pattern_count : List ℕ → ℕ
pattern_count p = length (patterns_of (rows_of p))

module _ (t : ℕ) (p : List ℕ) (ok : Passed t p) where
  -- behind the first k patterns none is open, and the rows that are left are read as the other patterns
  record Left (k : ℕ) : Type 0 where
    within : behind p k ≤ row_count p
    idle : (state_at p (behind p k)).vars ≡ 0
    reads : patterns_from no_row (run (row_at p) (behind p k) (row_count p - behind p k)) ≡ drop k (patterns_of (rows_of p))

  left-first : Left 0
  unfolding behind
  left-first =
      let e : row_count p - 0 ≡ row_count p = omega arith in
      record { within = omega arith; idle = rw (state_at-first p); reads = ap (λ (m : ℕ). patterns_from no_row (run (row_at p) 0 m)) e }

  module _ (k : ℕ) (h : k < pattern_count p) (l : Left k) where
    -- what is left is pattern k and the others
    rest_cons : patterns_from no_row (run (row_at p) (behind p k) (row_count p - behind p k)) ≡ pattern_at p k ∷ drop (suc k) (patterns_of (rows_of p))
    rest_cons = l.reads ∙ drop-cons (patterns_of (rows_of p)) k no_row h

    next-piece : Piece p (behind p k) (pattern_at p k)
    next-piece =
        ⊎_elim
        (λ (g : opening p (behind p k) < row_count p).
        let (f, w) = piece t p ok (behind p k) l.within l.idle g in
        let e : f ≡ pattern_at p k = head-eq_of_cons-eq (sym w.reads ∙ rest_cons) in
        rw e at w)
        (λ (g : row_count p ≤ opening p (behind p k)). absurd (nil≢cons (sym (no-piece t p ok (behind p k) l.within l.idle g) ∙ rest_cons)))
        (below_or (opening p (behind p k)) (row_count p))

    left-next : Left (suc k)
    unfolding behind
    left-next =
        let w = next-piece in
        let a = w.within in
        record { within = omega arith; idle = w.closes; reads = tail-eq_of_cons-eq (sym w.reads ∙ rest_cons) }

  left : (k : ℕ) → k ≤ pattern_count p → Left k
  left zero h = left-first
  left (suc k) h = left-next k h (left k (omega arith))

  piece-at : (k : ℕ) → k < pattern_count p → Piece p (behind p k) (pattern_at p k)
  piece-at k h = next-piece k h (left k (omega arith))

  behind-le : (k : ℕ) → k ≤ pattern_count p → behind p k ≤ row_count p
  behind-le k h = (left k h).within

  pub span-within : (k : ℕ) → k < pattern_count p → last_row p k < row_count p
  span-within k h = (piece-at k h).within

  pub span-rises : (k : ℕ) → k < pattern_count p → first_row p k < last_row p k
  span-rises k h =
      let a = span-within k h in
      let b = found_ge is_end p (first_row p k) in
      end-behind t p ok (first_row p k) (omega arith) (found_at is_voice p (behind p k) (omega arith))

  idle-behind : (k : ℕ) → k ≤ pattern_count p → (state_at p (behind p k)).vars ≡ 0
  idle-behind k h = (left k h).idle

  -- behind the last pattern there is no VOICE
  last-opening : first_row p (pattern_count p) ≡ row_count p
  last-opening =
      let l = left (pattern_count p) (omega arith) in
      let a = found-le is_voice p (behind p (pattern_count p)) l.within in
      ⊎_elim
      (λ (g : first_row p (pattern_count p) < row_count p).
      let (f, w) = piece t p ok (behind p (pattern_count p)) l.within l.idle g in
      absurd (nil≢cons (sym (l.reads ∙ drop-length (patterns_of (rows_of p))) ∙ w.reads)))
      (λ (g : row_count p ≤ first_row p (pattern_count p)). omega arith)
      (below_or (first_row p (pattern_count p)) (row_count p))

  module _ (k : ℕ) (h : k < pattern_count p) where
    -- the rows of pattern k lie in the plan
    span_fits : first_row p k + (last_row p k + 1 - first_row p k) ≤ row_count p
    span_fits = let a = span-within k h in let b = span-rises k h in omega arith

    pub part-rows : rows_of (part_at p (span_at p k)) ≡ pattern_rows (pattern_at p k)
    part-rows = rows_slice t p ok (first_row p k) (last_row p k + 1 - first_row p k) span_fits ∙ (piece-at k h).rows

    pub part-words : part_at p (span_at p k) ≡ plan_of (pattern_rows (pattern_at p k))
    part-words =
        words_slice t p ok (first_row p k) (last_row p k + 1 - first_row p k) span_fits
        ∙ ap plan_of (piece-at k h).rows

    pub part-some : part_at p (span_at p k) ≡ [] → ⊥
    part-some e =
        let a = span-rises k h in
        let f = span_fits in
        let w = ok.whole in
        let l = length_slice p (4 * first_row p k) (4 * (last_row p k + 1 - first_row p k)) (omega arith) in
        let n : length (part_at p (span_at p k)) ≡ 0 = ap length e in
        omega arith

  pub gaps-operate : (k : ℕ) → k ≤ pattern_count p → all (λ (r : Row). is_operator r.kind) (rows_of (gap p k)) ≡ true
  unfolding gap
  gaps-operate k h =
      let l = behind-le k h in
      let a = found-le is_voice p (behind p k) l in
      let b = found_ge is_voice p (behind p k) in
      ap (all (λ (r : Row). is_operator r.kind)) (rows_slice t p ok (behind p k) (first_row p k - behind p k) (omega arith))
      ∙ operators t p ok (behind p k) l (idle-behind k h)

  -- the front of the plan with the gap behind it, and with the part behind that
  front-gap : (k : ℕ) → take (4 * behind p k) p ++ gap p k ≡ take (4 * first_row p k) p
  unfolding gap
  front-gap k = let a = found_ge is_voice p (behind p k) in take_slice p (4 * behind p k) (4 * (first_row p k - behind p k)) (4 * first_row p k) (omega arith)

  front-part : (k : ℕ) → take (4 * first_row p k) p ++ part_at p (span_at p k) ≡ take (4 * behind p (k + 1)) p
  front-part k =
      let a = found_ge is_end p (first_row p k) in
      let e : behind p (k + 1) ≡ last_row p k + 1 = behind-next p k in
      take_slice p (4 * first_row p k) (4 * (last_row p k + 1 - first_row p k)) (4 * behind p (k + 1)) (omega arith)

  pub parts_whole : p ≡ joined (run (λ k. gap p k ++ part_at p (span_at p k)) 0 (pattern_count p)) ++ gap p (pattern_count p)
  unfolding behind
  parts_whole =
      let w = ok.whole in
      sym
      (ap (λ (l : List ℕ). l ++ gap p (pattern_count p))
      (joined-takes p (λ k. 4 * behind p k) (λ k. gap p k ++ part_at p (span_at p k)) (pattern_count p) refl
      (λ k l. sym (append_assoc (take (4 * behind p k) p) (gap p k) (part_at p (span_at p k))) ∙ ap (λ (xs : List ℕ). xs ++ part_at p (span_at p k)) (front-gap k) ∙ front-part k))
      ∙ front-gap (pattern_count p)
      ∙ ap (λ (n : ℕ). take (4 * n) p) last-opening
      ∙ take_all (4 * row_count p) p (omega arith))
