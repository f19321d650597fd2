-- The call that reads a line: a law for each way through it. No contract cites this file.
--     stored-laid                        rows that fit lie at the front of the buffer, and the rest is as it was
--     at-broken, at-deep                 a refusal's place lies in the text, or at its end
--     too_long_lem, refuses-broken, refuses-deep, too_many_lem, too_short     the refusals
--     answers                            the answer, and the buffer afterwards
-- Assumes nothing.
use Prim.Native.Nat.{ℕ, suc, ◌+◌, ◌*◌, ◌<◌, ◌≤◌}
use native.Mathlib.Omega.{arith}
use mathlib.Core.Path.{◌≡◌, refl, sym, ap, ap₂, ◌∙◌, subst}
use mathlib.Core.List.{List, [], ◌∷◌, ◌++◌, append_assoc}
use lib.ListN.{length, drop, length-append}
use lib.Seq.{take-append_seam, drop-append-add}
use borrow.Author.Tests.{le-leb, lt-ltb, le-ltb}
use Rattle.std.proofs.Common.{Result, Ok, Err}
use Rattle.seq.specs.Lists.{joined}
use Rattle.seq.specs.Refusals.{Said, refused, answered, laid}
use Rattle.plan.specs.declared.row.Row.{Row}
use Rattle.plan.specs.Rows.{words_of, plan_of}
use Rattle.plan.specs.declared.row.Kind.{Kind}
use Rattle.line.specs.declared.reading.Reached.{Reached}
use Rattle.line.specs.declared.reading.Stop.{Stop}
use Rattle.line.specs.declared.reading.Stop.TheVariants.{Broken, Deep}
use Rattle.grammar.specs.Grammar.{Line}
use Rattle.grammar.specs.Meaning.{line_rows}
use Rattle.grammar.specs.Reading.{Outcome, whole, broken, deep, reading, start}
use Rattle.grammar.proofs.Laws.Words.{words-four, plan-length}
use Rattle.grammar.proofs.Laws.Outcome.{Stopped, Opened, OutcomeTold, outcome-told}
use Rattle.grammar.specs.Words.{words_by, words_of_line}
use Rattle.line.specs.Read.{read_by, read_answer, read_out}
use Rattle.line.specs.Inner.Reads.{WholeRead}
use Rattle.line.specs.Inner.Store.{put_row, stored}

-- a row that is stored over four words
put-fits : (pre : List ℕ) (a b c d n : ℕ) (k : Kind) (r : List ℕ) → length pre ≡ 4 * n
    → put_row (pre ++ (a ∷ b ∷ c ∷ d ∷ r)) n k ≡ pre ++ (words_of k ++ r)
unfolding put_row
put-fits pre a b c d n k r e =
    let out = pre ++ (a ∷ b ∷ c ∷ d ∷ r) in
    let l = length-append pre (a ∷ b ∷ c ∷ d ∷ r) in
    let h : length pre + 4 ≤ length out = omega arith in
    rw (← e) (rw (le-leb (length pre + 4) (length out) h, take-append_seam pre (a ∷ b ∷ c ∷ d ∷ r), drop-append-add pre (a ∷ b ∷ c ∷ d ∷ r) 4) refl)

-- rows that fit lie at their place, and the rest is as it was
stored_plan : (rs : List Row) (pre rest : List ℕ) (n : ℕ) → length pre ≡ 4 * n → 4 * length rs ≤ length rest
    → stored (pre ++ rest) n rs ≡ pre ++ (plan_of rs ++ drop (4 * length rs) rest)
unfolding stored joined
stored_plan [] pre rest n e h = refl
stored_plan (r ∷ rs) pre [] n e h = absurd (let z : ⊥ = omega arith in z)
stored_plan (r ∷ rs) pre (a ∷ []) n e h = absurd (let z : ⊥ = omega arith in z)
stored_plan (r ∷ rs) pre (a ∷ b ∷ []) n e h = absurd (let z : ⊥ = omega arith in z)
stored_plan (r ∷ rs) pre (a ∷ b ∷ c ∷ []) n e h = absurd (let z : ⊥ = omega arith in z)
stored_plan (r ∷ rs) pre (a ∷ b ∷ c ∷ d ∷ rest) n e h =
    let ws = words_of r.kind in
    let f = words-four r.kind in
    let l : length (pre ++ ws) ≡ 4 * (n + 1) = (let x = length-append pre ws in let y = ap length f in omega arith) in
    let q : 4 * suc (length rs) ≡ suc (suc (suc (suc (4 * length rs)))) = omega arith in
    ap (λ (o : List ℕ). stored o (n + 1) rs) (put-fits pre a b c d n r.kind rest e ∙ sym (append_assoc pre ws rest))
    ∙ stored_plan rs (pre ++ ws) rest (n + 1) l (omega arith)
    ∙ append_assoc pre ws (plan_of rs ++ drop (4 * length rs) rest)
    ∙ ap (λ (x : List ℕ). pre ++ x) (sym (append_assoc ws (plan_of rs) (drop (4 * length rs) rest)))
    ∙ ap (λ (m : ℕ). pre ++ ((ws ++ plan_of rs) ++ drop m (a ∷ b ∷ c ∷ d ∷ rest))) (sym q)

-- rows that fit lie at the front of the buffer
pub stored-laid : (rs : List Row) (out : List ℕ) → 4 * length rs ≤ length out → stored out 0 rs ≡ plan_of rs ++ drop (length (plan_of rs)) out
stored-laid rs out h = stored_plan rs [] out 0 refl h ∙ ap (λ (n : ℕ). plan_of rs ++ drop n out) (sym (plan-length rs))

-- a refusal's place lies in the text, or at its end
broken-inside : (s : List ℕ) (q : ℕ) → Stopped start 0 s q → q ≤ length s
broken-inside s q w =
    let a = w.at in
    let l = ap length w.text in
    let m = length-append w.read w.rest in
    omega arith

deep-inside : (s : List ℕ) (q : ℕ) → Opened start 0 s q → q ≤ length s
deep-inside s q w =
    let a = w.at in
    let l = ap length w.text in
    let m = length-append w.read (w.byte ∷ w.rest) in
    omega arith

-- the byte that breaks the grammar lies in the text, or is its end
pub at-broken : (s none none' : List ℕ) (q : ℕ) → WholeRead s none none' (Err (Broken q)) (reading s) → q ≤ length s
at-broken s none none' q w = go (reading s) (outcome-told s start 0) w
  where
    go : (o : Outcome) → OutcomeTold start 0 s o → WholeRead s none none' (Err (Broken q)) o → q ≤ length s
    go (whole l) t x = absurd x
    go (broken k) t x = let h = broken-inside s k t in omega arith
    go (deep k) t x = absurd x

-- the bracket that is too deep lies in the text
pub at-deep : (s none none' : List ℕ) (q : ℕ) → WholeRead s none none' (Err (Deep q)) (reading s) → q ≤ length s
at-deep s none none' q w = go (reading s) (outcome-told s start 0) w
  where
    go : (o : Outcome) → OutcomeTold start 0 s o → WholeRead s none none' (Err (Deep q)) o → q ≤ length s
    go (whole l) t x = absurd x
    go (broken k) t x = absurd x
    go (deep k) t x = let h = deep-inside s k t in omega arith

module _ (s out : List ℕ) where
  abbrev Answers : Said ℕ → List ℕ → Type 0
  Answers said out' = (said ≡ read_answer s (length out)) × (out' ≡ read_out s out)

  -- a refusal
  refuses : (n q : ℕ) → read_answer s (length out) ≡ refused n q → Answers (refused n q) out
  unfolding read_out laid
  refuses n q e = (sym e, sym (ap (λ (x : Said ℕ). laid x (words_of_line s) out) e))

  -- a text that is too long
  pub too_long_lem : 2048 < length s → Answers (refused 21 2048) out
  unfolding read_answer
  too_long_lem h = refuses 21 2048 (rw (lt-ltb 2048 (length s) h))

  module _ (h : length s ≤ 2048) where
    -- the answer by how the reading ends
    answer_by_lem : (o : Outcome) → reading s ≡ o → read_answer s (length out) ≡ read_by o (length out)
    unfolding read_answer
    answer_by_lem o e = rw (le-ltb 2048 (length s) h) (ap (λ (x : Outcome). read_by x (length out)) e)

    -- a text that breaks the grammar
    pub refuses-broken : (none none' : List ℕ) (q : ℕ) → WholeRead s none none' (Err (Broken q)) (reading s) → Answers (refused 21 q) out
    refuses-broken none none' q w = go (reading s) refl w
      where
        go : (o : Outcome) → reading s ≡ o → WholeRead s none none' (Err (Broken q)) o → Answers (refused 21 q) out
        go (whole l) e x = absurd x
        go (broken k) e x = refuses 21 q (answer_by_lem (broken k) e ∙ ap (λ (n : ℕ). refused 21 n) (sym x))
        go (deep k) e x = absurd x

    -- one with a bracket that is too deep
    pub refuses-deep : (none none' : List ℕ) (q : ℕ) → WholeRead s none none' (Err (Deep q)) (reading s) → Answers (refused 22 q) out
    refuses-deep none none' q w = go (reading s) refl w
      where
        go : (o : Outcome) → reading s ≡ o → WholeRead s none none' (Err (Deep q)) o → Answers (refused 22 q) out
        go (whole l) e x = absurd x
        go (broken k) e x = absurd x
        go (deep k) e x = refuses 22 q (answer_by_lem (deep k) e ∙ ap (λ (n : ℕ). refused 22 n) (sym x))

    module _ (none none' : List ℕ) (come : Reached) (w : WholeRead s none none' (Ok come) (reading s)) where
      -- the line, and the number of its rows
      line_of : (l : Line) × (reading s ≡ whole l) × (come.rows ≡ length (line_rows l))
      line_of = go (reading s) refl w
        where
          go : (o : Outcome) → reading s ≡ o → WholeRead s none none' (Ok come) o
              → (l : Line) × (reading s ≡ whole l) × (come.rows ≡ length (line_rows l))
          go (whole l) e x = (l, e, x.0)
          go (broken q) e x = absurd x
          go (deep q) e x = absurd x

      -- a line with too many rows
      pub too_many_lem : 64 < come.rows → Answers (refused 23 0) out
      too_many_lem g =
          let l = line_of in
          let b : 64 < length (line_rows l.0) = subst (λ (n : ℕ). 64 < n) l.2 g in
          refuses 23 0 (answer_by_lem (whole l.0) l.1 ∙ rw (lt-ltb 64 (length (line_rows l.0)) b))

      -- a buffer that is too short for the rows
      pub too_short : come.rows ≤ 64 → length out < 4 * come.rows → Answers (refused 16 0) out
      too_short g f =
          let l = line_of in
          let n = l.2 in
          let b : length (line_rows l.0) ≤ 64 = omega arith in
          let c : length out < 4 * length (line_rows l.0) = omega arith in
          refuses 16 0
          (answer_by_lem (whole l.0) l.1
          ∙ rw (le-ltb 64 (length (line_rows l.0)) b, lt-ltb (length out) (4 * length (line_rows l.0)) c))

      -- few rows, and room for them
      in-room : (l : Line) (m : ℕ) → length (line_rows l) ≤ 64 → 4 * length (line_rows l) ≤ length out
          → answered (4 * length (line_rows l)) ≡ answered (4 * m) → read_by (whole l) (length out) ≡ answered (4 * m)
      in-room l m b c e = rw (le-ltb 64 (length (line_rows l)) b, le-ltb (length out) (4 * length (line_rows l)) c) e

      -- a line with few rows, and room for them
      pub answers : (out' : List ℕ) (r : Result Reached Stop) → come.rows ≤ 64 → 4 * come.rows ≤ length out → WholeRead s out out' r (reading s)
          → Answers (answered (4 * come.rows)) out'
      unfolding read_out laid words_of_line
      answers out' r g f v =
          let l = line_of in
          let n = l.2 in
          let b : length (line_rows l.0) ≤ 64 = omega arith in
          let c : 4 * length (line_rows l.0) ≤ length out = omega arith in
          let same = ap (λ (x : ℕ). answered (4 * x)) (sym n) in
          let by : read_by (whole l.0) (length out) ≡ answered (4 * come.rows) = in-room l.0 come.rows b c same in
          let said = answer_by_lem (whole l.0) l.1 ∙ by in
          let laid-there = sym (ap₂ (λ (x : Said ℕ) (o : Outcome). laid x (words_by o) out) said l.1) in
          (sym said, kept r (subst (WholeRead s out out' r) l.1 v) ∙ stored-laid (line_rows l.0) out c ∙ laid-there)
        where
          kept : (r : Result Reached Stop) → WholeRead s out out' r (whole line_of.0) → out' ≡ stored out 0 (line_rows line_of.0)
          kept (Ok a) x = x.1
          kept (Err (Broken a)) x = absurd x
          kept (Err (Deep a)) x = absurd x
