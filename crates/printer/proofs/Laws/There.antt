-- A plan's line gives the plan again. No contract cites this file. Assumes nothing.
use Prim.Native.Nat.{ℕ, ◌*◌, ◌≤◌}
use native.Mathlib.Omega.{arith}
use mathlib.Core.Path.{◌≡◌, refl, sym, ap, ◌∙◌}
use mathlib.Core.Bool.{Bool, true, false, cond}
use mathlib.Core.List.{List, ◌++◌}
use lib.Dec.{ltb}
use lib.ListN.{length, drop}
use borrow.Author.Tests.{le-ltb}
use Rattle.seq.specs.Refusals.{Said, refused, answered}
use Rattle.seq.proofs.Laws.Numbers.{length_run}
use Rattle.seq.proofs.Laws.Refusals.{laid-answered, not-both}
use Rattle.plan.specs.Check.{Accepted}
use Rattle.plan.specs.Rows.{row_count, row_at}
use Rattle.plan.proofs.Laws.Accepted.{given}
use Rattle.grammar.specs.Meaning.{line_rows}
use Rattle.grammar.specs.Query.{plan_line, plan_text}
use Rattle.grammar.specs.Reading.{Outcome}
use Rattle.grammar.specs.Words.{words_of_line}
use Rattle.grammar.proofs.Laws.Bounds.{accepted-line}
use Rattle.line.specs.Read.{read_by, read_answer, read_out}
use Rattle.printer.specs.Write.{write_by, write_answer}
use Rattle.printer.specs.Demands.{ThereAndBack}

module _ (v p : List ℕ) (ok : Accepted v p) where
  rows_few : length (line_rows (plan_line p)) ≤ 64
  rows_few =
      let n : length (line_rows (plan_line p)) ≡ row_count p = ap length (accepted-line v p ok).rows ∙ length_run (row_at p) 0 (row_count p) in
      let m = (given v p ok).most-rows in
      omega arith

  rows-size : 4 * length (line_rows (plan_line p)) ≡ length p
  rows-size =
      let n : length (line_rows (plan_line p)) ≡ row_count p = ap length (accepted-line v p ok).rows ∙ length_run (row_at p) 0 (row_count p) in
      let e = (given v p ok).whole in
      omega arith

  -- a plan's line is short and shallow, and has few rows: only the buffer may be too short
  plan-answer : (room : ℕ) → read_answer (plan_text p) room ≡ cond (ltb room (length p)) (refused 16 0) (answered (length p))
  unfolding read_answer
  plan-answer room =
      let w = accepted-line v p ok in
      let s : length (plan_text p) ≤ 2048 = let h = w.short in omega arith in
      rw (le-ltb 2048 (length (plan_text p)) s)
      (ap (λ (o : Outcome). read_by o room) w.reads
      ∙ rw (le-ltb 64 (length (line_rows (plan_line p))) rows_few)
      (ap (λ (n : ℕ). cond (ltb room n) (refused 16 0) (answered n)) rows-size))

  plan-read : (room : ℕ) → length p ≤ room → read_answer (plan_text p) room ≡ answered (length p)
  plan-read room h = plan-answer room ∙ rw (le-ltb room (length p) h)

  only-short : (room n q : ℕ) → read_answer (plan_text p) room ≡ refused n q → n ≡ 16
  only-short room n q e = go (ltb room (length p)) (sym (plan-answer room) ∙ e)
    where
      go : (t : Bool) → cond t (refused 16 0) (answered (length p)) ≡ refused n q → n ≡ 16
      go true x = cc
      go false x = absurd (not-both (answered (length p)) (length p) n q refl x)

  plan-write : (out : List ℕ) → length (plan_text p) ≤ length out → write_answer v p (length out) ≡ answered (length (plan_text p))
  unfolding write_answer
  plan-write out h = ap (λ (x : Said _). write_by x (plan_text p) (length out)) ok ∙ rw (le-ltb (length out) (length (plan_text p)) h)

  plan-gives : (out : List ℕ) → length p ≤ length out → read_out (plan_text p) out ≡ p ++ drop (length p) out
  unfolding read_out
  plan-gives out h =
      laid-answered (read_answer (plan_text p) (length out)) (length p) (words_of_line (plan_text p)) out (plan-read (length out) h)
      ∙ ap (λ (x : List ℕ). x ++ drop (length x) out) (accepted-line v p ok).words

  pub plan-there : ThereAndBack v p
  plan-there = record {
    writes = plan-write;
    in_order = only-short;
    reads = λ out h. plan-read (length out) h;
    gives = plan-gives;
  }
