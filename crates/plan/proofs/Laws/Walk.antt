-- The walk over the rows of a plan that passes every test: over operators to the next VOICE, and from there to its END.
-- No contract cites this file.
--     operators                   in front of the next VOICE stand operators
--     end-behind                  END stands behind it
--     Piece, piece, no-piece      the next pattern from a row on, or none
-- Assumes nothing.
use Prim.Native.Nat.{ℕ, zero, suc, ◌+◌, ◌-◌, ◌<◌, ◌≤◌}
use native.Mathlib.Nat.{add-zero}
use native.Mathlib.Numerals.{add-one}
use native.Mathlib.Omega.{arith}
use mathlib.Core.Path.{◌≡◌, sym, ap, ◌∙◌}
use mathlib.Core.Bool.{true, false, true≢false}
use mathlib.Core.Logic.{◌≢◌, ⊎_elim}
use mathlib.Core.List.{List, [], ◌∷◌, ◌++◌}
use Rattle.seq.specs.Lists.{all}
use Rattle.seq.specs.Numbers.{run}
use Rattle.seq.proofs.Laws.Tests.{below_or}
use Rattle.seq.proofs.Laws.Numbers.{run_end, run_step, run-snoc}
use Rattle.plan.specs.declared.row.Kind.{Kind}
use Rattle.plan.specs.declared.row.Kind.TheVariants as kind
use Rattle.plan.specs.declared.row.Row.{Row}
use Rattle.plan.specs.Rows.{row_count, row_at, is_voice, is_end, is_operator}
use Rattle.plan.specs.State.{after, state_at}
use Rattle.plan.specs.Patterns.{Pattern, no_row, open_after, patterns_from}
use Rattle.plan.specs.Parts.{first_of, opening, ending, pattern_rows}
use Rattle.seq.proofs.Laws.Slices.{all-run, run-parts}
use Rattle.plan.proofs.Laws.State.{state_at-next}
use Rattle.plan.proofs.Laws.Spans.{found_ge, found-le, found_at, found_before}
use Rattle.plan.proofs.Laws.Reading.{voice-of, end_of, patterns_pass, Opened, opened-first, opened-next, opened-reads, opened_rows, idle-row}
use Rattle.plan.proofs.Laws.Passed.{Passed}

module _ (p : List ℕ) where
  -- a row that is told to be a VOICE, or END, is it
  voice-at : (i : ℕ) → is_voice (row_at p i).kind ≡ true → (list : ℕ) × (row_at p i ≡ record { kind = kind.Voice list })
  voice-at i e = let (list, q) = voice-of (row_at p i).kind e in (list, ap (λ (k : Kind). record { kind = k }) q)

  end-at : (i : ℕ) → is_end (row_at p i).kind ≡ true → row_at p i ≡ record { kind = kind.End }
  end-at i e = ap (λ (k : Kind). record { kind = k }) (end_of (row_at p i).kind e)

-- one pattern, read from row b on
pub record Piece (p : List ℕ) (b : ℕ) (f : Pattern) : Type 0 where
  pub within : ending p b < row_count p
  pub rows : run (row_at p) (opening p b) (ending p b + 1 - opening p b) ≡ pattern_rows f
  pub reads : patterns_from no_row (run (row_at p) b (row_count p - b)) ≡ f ∷ patterns_from no_row (run (row_at p) (ending p b + 1) (row_count p - (ending p b + 1)))
  pub closes : (state_at p (ending p b + 1)).vars ≡ 0

module _ (t : ℕ) (p : List ℕ) (ok : Passed t p) where
  -- a row with no pattern open that is no VOICE is an operator
  idle-at : (i : ℕ) → i < row_count p → (state_at p i).vars ≡ 0 → is_voice (row_at p i).kind ≡ false → (is_operator (row_at p i).kind ≡ true) × ((state_at p (i + 1)).vars ≡ 0)
  idle-at i h z n =
      rw (state_at-next p i)
      (idle-row (state_at p i) (row_at p i).kind z (ok.ordered i h) n)

  module _ (b : ℕ) (h : b ≤ row_count p) (z : (state_at p b).vars ≡ 0) where
    -- up to the next VOICE no pattern is open
    idle-up : (d : ℕ) → b + d ≤ opening p b → (state_at p (b + d)).vars ≡ 0
    idle-up zero l = rw add-zero z
    idle-up (suc d) l =
        let e : b + suc d ≡ b + d + 1 = omega arith in
        let m = found-le is_voice p b h in
        ap (λ (j : ℕ). (state_at p j).vars) e
        ∙ (idle-at (b + d) (omega arith) (idle-up d (omega arith)) (found_before is_voice p b (b + d) (omega arith) (omega arith))).1

    idle-to : (j : ℕ) → b ≤ j → j ≤ opening p b → (state_at p j).vars ≡ 0
    idle-to j a l = let e : b + (j - b) ≡ j = omega arith in sym (ap (λ (x : ℕ). (state_at p x).vars) e) ∙ idle-up (j - b) (omega arith)

    -- the rows up to it are operators
    operators-at : (j : ℕ) → b ≤ j → j < opening p b → is_operator (row_at p j).kind ≡ true
    operators-at j a l = let m = found-le is_voice p b h in (idle-at j (omega arith) (idle-to j a (omega arith)) (found_before is_voice p b j a l)).0

    pub operators : all (λ (r : Row). is_operator r.kind) (run (row_at p) b (opening p b - b)) ≡ true
    operators = all-run (λ (r : Row). is_operator r.kind) (row_at p) b (opening p b - b) (λ j a l. operators-at j a (let g = found_ge is_voice p b in omega arith))

    -- and close no pattern
    reads-idle : patterns_from no_row (run (row_at p) b (row_count p - b)) ≡ patterns_from no_row (run (row_at p) (opening p b) (row_count p - opening p b))
    reads-idle =
        ap (patterns_from no_row) (run-parts (row_at p) b (opening p b) (row_count p) (found_ge is_voice p b) (found-le is_voice p b h))
        ∙ patterns_pass no_row (run (row_at p) b (opening p b - b)) (run (row_at p) (opening p b) (row_count p - opening p b)) operators

    -- no VOICE is left
    pub no-piece : row_count p ≤ opening p b → patterns_from no_row (run (row_at p) b (row_count p - b)) ≡ []
    unfolding patterns_from
    no-piece l = reads-idle ∙ ap (patterns_from no_row) (run_end (row_at p) (opening p b) (row_count p) l)

  -- from a VOICE that opens a pattern, up to the next END
  module _ (o : ℕ) (h : o < row_count p) (v : is_voice (row_at p o).kind ≡ true) where
    -- the rows read so far say the open pattern
    opened_up : (d : ℕ) → o + d < first_of is_end p o → (f : Pattern) × Opened (state_at p (o + suc d)) f (run (row_at p) o (suc d))
    unfolding run
    opened_up zero l =
        let (list, e) = voice-at p o v in
        (open_after no_row (kind.Voice list), rw (state_at-next p o, e) (opened-first (state_at p o) list))
    opened_up (suc d) l =
        let m = found-le is_end p o (omega arith) in
        let i : o + suc d < row_count p = omega arith in
        let (f, w) = opened_up d (omega arith) in
        let e : o + suc d + 1 ≡ o + suc (suc d) = omega arith in
        let n = opened-next (state_at p (o + suc d)) f (run (row_at p) o (suc d)) w (row_at p (o + suc d)) (ok.ordered (o + suc d) i)
        (found_before is_end p o (o + suc d) (omega arith) l) in
        let s : after (state_at p (o + suc d)) (row_at p (o + suc d)).kind ≡ state_at p (o + suc (suc d)) = sym (state_at-next p (o + suc d)) ∙ ap (state_at p) e in
        let r : run (row_at p) o (suc d) ++ (row_at p (o + suc d) ∷ []) ≡ run (row_at p) o (suc (suc d)) = sym (run-snoc (row_at p) o (suc d)) ∙ ap (run (row_at p) o) (add-one (suc d)) in
        (open_after f (row_at p (o + suc d)).kind, rw (s, r) at n)

    opened-to : (j : ℕ) → o < j → j ≤ first_of is_end p o → (f : Pattern) × Opened (state_at p j) f (run (row_at p) o (j - o))
    opened-to j a l =
        let (f, w) = opened_up (j - o - 1) (omega arith) in
        let e : o + suc (j - o - 1) ≡ j = omega arith in
        let d : suc (j - o - 1) ≡ j - o = omega arith in
        (f, rw (e, d) at w)

    -- there is an END: at the end of the plan no pattern is open
    ends : first_of is_end p o < row_count p
    ends =
        ⊎_elim (λ l. l)
        (λ (l : row_count p ≤ first_of is_end p o).
        let (f, w) = opened-to (row_count p) h l in
        let a = w.some-vars in
        let b = ok.closed in
        absurd (let q : ⊥ = omega arith in q))
        (below_or (first_of is_end p o) (row_count p))

    -- which stands behind the VOICE
    pub end-behind : o < first_of is_end p o
    end-behind =
        let a = found_ge is_end p o in
        let b = found_at is_end p o ends in
        let (list, e) = voice-at p o v in
        let c : o ≢ first_of is_end p o = λ (q : o ≡ first_of is_end p o). true≢false (sym (ap (λ (j : ℕ). is_end (row_at p j).kind) q ∙ b) ∙ ap (λ (r : Row). is_end r.kind) e) in
        omega arith

    -- the rows up to it, and all rows, by END
    rows_end : run (row_at p) o (first_of is_end p o + 1 - o) ≡ run (row_at p) o (first_of is_end p o - o) ++ (record { kind = kind.End } ∷ [])
    rows_end =
        let e = first_of is_end p o in
        let a = end-behind in
        let m : e + 1 - o ≡ e - o + 1 = omega arith in
        let k : o + (e - o) ≡ e = omega arith in
        ap (run (row_at p) o) m
        ∙ run-snoc (row_at p) o (e - o)
        ∙ ap (λ (r : Row). run (row_at p) o (e - o) ++ (r ∷ [])) (ap (row_at p) k ∙ end-at p e (found_at is_end p o ends))

    rows-past : run (row_at p) o (row_count p - o) ≡ run (row_at p) o (first_of is_end p o - o) ++ (record { kind = kind.End } ∷ run (row_at p) (first_of is_end p o + 1) (row_count p - (first_of is_end p o + 1)))
    rows-past =
        let e = first_of is_end p o in
        run-parts (row_at p) o e (row_count p) (found_ge is_end p o) (found-le is_end p o (omega arith))
        ∙ ap (λ (l : List Row). run (row_at p) o (e - o) ++ l) (run_step (row_at p) e (row_count p) ends)
        ∙ ap (λ (r : Row). run (row_at p) o (e - o) ++ (r ∷ run (row_at p) (e + 1) (row_count p - (e + 1)))) (end-at p e (found_at is_end p o ends))

    -- the rows up to it say the pattern that it closes
    closed_by : (f : Pattern)
        × (run (row_at p) o (first_of is_end p o + 1 - o) ≡ pattern_rows f)
        × (patterns_from no_row (run (row_at p) o (row_count p - o)) ≡ f ∷ patterns_from no_row (run (row_at p) (first_of is_end p o + 1) (row_count p - (first_of is_end p o + 1))))
    closed_by =
        let e = first_of is_end p o in
        let (f, w) = opened-to e end-behind (omega arith) in
        let front = run (row_at p) o (e - o) in
        (f, rows_end ∙ opened_rows (state_at p e) f front w, ap (patterns_from no_row) rows-past ∙ opened-reads (state_at p e) f front w (run (row_at p) (e + 1) (row_count p - (e + 1))))

    closes_at : (state_at p (first_of is_end p o + 1)).vars ≡ 0
    closes_at = rw (state_at-next p (first_of is_end p o), end-at p (first_of is_end p o) (found_at is_end p o ends))

  -- the next pattern from row b on, where none is open
  pub piece : (b : ℕ) → b ≤ row_count p → (state_at p b).vars ≡ 0 → opening p b < row_count p → (f : Pattern) × Piece p b f
  piece b h z l =
      let v = found_at is_voice p b l in
      let (f, r, w) = closed_by (opening p b) l v in
      (f, record { within = ends (opening p b) l v; rows = r; reads = reads-idle b h z ∙ w; closes = closes_at (opening p b) l v })
