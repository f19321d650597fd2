-- Reading a line as a whole. No contract cites this file.
--     read_call         reading answers the first refusal, and what becomes of the buffer
--     read-answered     what an answer of reading says of the text
-- Assumes nothing.
use Prim.Native.Nat.{ℕ, ◌*◌, ◌≤◌}
use native.Mathlib.Omega.{arith}
use mathlib.Core.Path.{◌≡◌, refl, sym, ap, ◌∙◌, subst}
use mathlib.Core.Logic.{◌↔◌}
use mathlib.Core.List.{List}
use lib.Dec.{ltb}
use lib.ListN.{length}
use borrow.Author.Tests.{ltb-false}
use Rattle.seq.specs.Refusals.{refused, answered}
use Rattle.seq.proofs.Laws.Refusals.{laid-refused, laid-answered, past, not-both, same_answer}
use Rattle.plan.specs.Rows.{rows_of, plan_of}
use Rattle.fulltext.specs.Documents.{work}
use Rattle.grammar.specs.Grammar.{Line, Fits, written}
use Rattle.grammar.specs.Brackets.{Spare}
use Rattle.grammar.specs.Meaning.{line_rows}
use Rattle.grammar.specs.Query.{plan_text}
use Rattle.grammar.specs.Reading.{Outcome, whole, broken, deep, reading, start}
use Rattle.grammar.specs.Words.{words_by, words_of_line}
use Rattle.grammar.proofs.Laws.Outcome.{OutcomeTold, outcome-told}
use Rattle.grammar.proofs.Laws.Words.{plan-length, line-back, line-truth}
use Rattle.grammar.proofs.Laws.Spare.{comes_back}
use Rattle.line.specs.Read.{read_by, read_answer, read_out}
use Rattle.line.specs.Demands.{ReadCall, Answered}
use Rattle.line.proofs.Laws.Refusals.{whole-line}
use Rattle.line.proofs.Laws.ReadFirst.{read_first}

-- reading answers the first refusal that applies, and the buffer afterwards
pub read_call : (s out : List ℕ) → ReadCall s out
unfolding read_out
read_call s out = record {
  first = read_first s (length out);
  kept = λ n q e. laid-refused (read_answer s (length out)) n q (words_of_line s) out e;
  laid = λ n e. laid-answered (read_answer s (length out)) n (words_of_line s) out e;
}

-- where reading answers, the text is a line with at most 64 rows
record Line-read (s : List ℕ) (n : ℕ) : Type 0 where
  line : Line
  reads : reading s ≡ whole line
  few : length (line_rows line) ≤ 64
  count : 4 * length (line_rows line) ≡ n

by-outcome : (s : List ℕ) (room n : ℕ) (o : Outcome) → reading s ≡ o → read_by o room ≡ answered n → Line-read s n
by-outcome s room n (broken q) e x = absurd (not-both (refused 21 q) n 21 q x refl)
by-outcome s room n (deep q) e x = absurd (not-both (refused 22 q) n 22 q x refl)
by-outcome s room n (whole l) e x =
    let a = past (ltb 64 (length (line_rows l))) 23 0 _ n x in
    let b = past (ltb room (4 * length (line_rows l))) 16 0 _ n a.1 in
    record {
      line = l;
      reads = e;
      few = ltb-false 64 (length (line_rows l)) a.0;
      count = same_answer (answered (4 * length (line_rows l))) (4 * length (line_rows l)) n refl b.1;
    }

line_read : (s : List ℕ) (room n : ℕ) → read_answer s room ≡ answered n → Line-read s n
unfolding read_answer
line_read s room n e = by-outcome s room n (reading s) refl (past (ltb 2048 (length s)) 21 2048 _ n e).1

line-told : (s : List ℕ) (l : Line) → reading s ≡ whole l → Fits l × (written l ≡ s)
line-told s l e = whole-line s l (subst (OutcomeTold start 0 s) e (outcome-told s start 0))

words-told : (s : List ℕ) (l : Line) → reading s ≡ whole l → words_of_line s ≡ plan_of (line_rows l)
unfolding words_of_line
words-told s l e = ap words_by e

-- what an answer says
pub read-answered : (s : List ℕ) (room n : ℕ) → read_answer s room ≡ answered n → Answered s n
read-answered s room n e = record {
  line = r.line;
  fits = t.0;
  text = t.1;
  words = w;
  count =
      let a = ap length w in
      let b = plan-length (line_rows r.line) in
      let c = r.count in
      omega arith;
  few = let a = r.few in let c = r.count in omega arith;
  rows = ap rows_of w ∙ line-back r.line t.0;
  truth = λ v d. ap (λ (p : List ℕ). (work v p).is_true d) w ∙ line-truth v r.line d t.0;
  back = subst (λ (p : List ℕ). (plan_text p ≡ s) ↔ ((t : List ℕ) → Spare r.line t → ⊥)) (sym w)
      (subst (λ (x : List ℕ). (plan_text (plan_of (line_rows r.line)) ≡ x) ↔ ((t : List ℕ) → Spare r.line t → ⊥)) t.1
      (comes_back r.line t.0));
}
  where
    r : Line-read s n
    r = line_read s room n e

    t : Fits r.line × (written r.line ≡ s)
    t = line-told s r.line r.reads

    w : words_of_line s ≡ plan_of (line_rows r.line)
    w = words-told s r.line r.reads
