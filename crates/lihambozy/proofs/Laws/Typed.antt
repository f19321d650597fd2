-- Every search by a typed line, from the theorems of `line` and `search`. No contract cites this file.
--     read_number      a refusal of reading has a number other than 0
--     typed_search     what holds of a text that is answered with refusal 0, and whose words are accepted
-- Assumes nothing.
use Prim.Native.Nat.{ℕ}
use native.Mathlib.Omega.{arith}
use mathlib.Core.Path.{◌≡◌, ap, ◌∙◌}
use mathlib.Core.Logic.{⊎_elim, ◌≢◌}
use mathlib.Core.List.{List}
use Rattle.seq.specs.Refusals.{refused, answered}
use Rattle.plan.specs.Check.{verdict}
use Rattle.fulltext.specs.Documents.{docs_in, work}
use Rattle.grammar.specs.Words.{words_of_line}
use Rattle.grammar.proofs.Laws.Words.{line_meant}
use Rattle.line.specs.Demands.{Answered}
use Rattle.line.specs.Read.{size_of_line, read_answer}
use Rattle.line.specs.Refusals.{ReadApplies, too_long, breaks, too_deep, too_many, short}
use Rattle.line.proofs.Laws.ReadFirst.{read_first}
use Rattle.line.proofs.Laws.Whole.{read-answered}
use Rattle.lihambozy.specs.Flat.{flat_plan, flat_words}
use Rattle.lihambozy.specs.Demands.{TypedSearch}
use Rattle.lihambozy.proofs.Laws.Search.{holds3}

read_number : (s : List ℕ) (room n q : ℕ) → ReadApplies s room n q → n ≢ 0
read_number s room n q (too_long h) e = omega arith
read_number s room n q (breaks k l h) e = omega arith
read_number s room n q (too_deep k l h) e = omega arith
read_number s room n q (too_many x f t h) e = omega arith
read_number s room n q (short x f t h) e = omega arith

-- refusal 0 is an answer
answer-of : (s : List ℕ) (room : ℕ) → (flat_words (read_answer s room)).refusal ≡ 0 → Answered s (size_of_line s)
answer-of s room e =
    ⊎_elim
    (λ (a : read_answer s room ≡ answered (size_of_line s)). read-answered s room (size_of_line s) a)
    (λ (w : (n : ℕ) × (q : ℕ) × (read_answer s room ≡ refused n q)).
    let z : w.0 ≡ 0 = rw w.2 at e in
    absurd (read_number s room w.0 w.1 (((read_first s room).refuses w.0 w.1).0 w.2).applies.1 z))
    (read_first s room).either

pub typed_search : (v s : List ℕ) (room : ℕ) → (flat_words (read_answer s room)).refusal ≡ 0 → (flat_plan (verdict v (words_of_line s))).refusal ≡ 0
    → TypedSearch v s
typed_search v s room e f =
    let a = answer-of s room e in
    record {
      line = a.line;
      fits = a.fits;
      text = a.text;
      searched = holds3 v (words_of_line s) f;
      docs = λ from to. ap (λ (p : List ℕ). docs_in (work v p) from to) a.words ∙ (line_meant v a.line a.fits).docs from to;
    }
