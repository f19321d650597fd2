-- The answer of a plan, read row by row with its answers as bits. No contract cites this file.
--     bits-lt                              n answers are a number below two to the n
--     bits-take, bits-drop, ones_bits      the n lowest bits, the others, and the ones among them
--     operated, operated_bits              an operator on the bits is the operator on the answers
--     Reading                              the answers so far, the open pattern, and what the rows left make of them
--     reading-first                        in front of row 0
--     reading_small                        the bits are eight at most
--     reading-voice, reading-condition, reading-end, reading-operate     behind a row, by its kind
--     reading-done                         behind the last row
--     found-small                          the bits of the found patterns are eight at most
--     remembers-first, remembers-next      nothing is known; one answer more is
--     known-answer, known_same             what is known is the answer, and stays
-- Assumes nothing.
use Prim.Native.Nat.{ℕ, zero, suc, ◌+◌, ◌-◌, ◌*◌, ◌^◌, ◌/◌, ◌%◌, ◌<◌, ◌≤◌}
use native.Mathlib.Nat.{two-pow-succ, mod-one, zero-mod, div-one, zero-div}
use native.Mathlib.Numerals.{one-add, add-one}
use native.Mathlib.Omega.{arith}
use mathlib.Core.Path.{◌≡◌, refl, sym, ap, ap₂, ◌∙◌}
use mathlib.Core.Bool.{Bool, true, false, not, ◌&&◌, ◌||◌}
use mathlib.Core.Logic.{◌≢◌, ⊎_elim}
use mathlib.Core.List.{List, [], ◌∷◌, ◌++◌, map}
use lib.ListN.{length, get_or, take, drop, set, replicate, length-map}
use lib.Pow.{shr-shr, mod-pow-add}
use lib.Count.{ones_in, ones, ones_step}
use lib.Seq.{get_or-set_same, get_or-set_other, set-get_or}
use lib.Dec.{eqb, leb}
use Rattle.std.specs.Prelude.{Option, Some, None}
use Rattle.std.proofs.lemmas.Option.{none-some}
use Rattle.seq.specs.Lists.{keep}
use Rattle.seq.specs.Numbers.{run}
use Rattle.seq.proofs.Laws.Decides.{decided, eqb_decides}
use Rattle.seq.proofs.Laws.Numbers.{run_end, run_step}
use Rattle.plan.specs.declared.row.Predicate.{Predicate}
use Rattle.plan.specs.declared.row.Operator.{Operator}
use Rattle.plan.specs.declared.row.Operator.TheVariants.{Both, Either, FirstNotSecond, AtLeast}
use Rattle.plan.specs.declared.row.Kind.{Kind}
use Rattle.plan.specs.declared.row.Kind.TheVariants as kind
use Rattle.plan.specs.declared.state.State.{State}
use Rattle.plan.specs.declared.row.Row.{Row}
use Rattle.plan.specs.Limits.{most_patterns}
use Rattle.plan.specs.Rows.{row_count, row_at, rows_of, InRange}
use Rattle.plan.specs.State.{takes, after, state_at, order_wrong}
use Rattle.plan.specs.Patterns.{Pattern, no_row, open_after, closed, patterns_from, patterns_of, two, yeses, operate}
use Rattle.plan.specs.Patterns.{answers_after, answers_from, answer}
use Rattle.plan.specs.Check.{sizes}
use Rattle.plan.specs.Inner.Stack.{flag_of, bits_of, found_bits, joins, most_found_sets, Remembers}
use Rattle.plan.proofs.Laws.State.{state_at-first, state_at-next, takes-some, operator-stands}
use Rattle.plan.proofs.Laws.Patterns.{operate-length}
use Rattle.plan.proofs.Laws.Operators.{yeses_cons}

flag-le : (t : Bool) → flag_of t ≤ 1
flag-le true = omega arith
flag-le false = omega arith

-- a number up to 1 is the flag of an answer, and of no other
flag-of : (n : ℕ) → n ≤ 1 → n ≡ flag_of (eqb n 1)
flag-of zero h = refl
flag-of (suc zero) h = refl
flag-of (suc (suc n)) h = absurd (let z : ⊥ = omega arith in z)

flag-back : (t : Bool) → eqb (flag_of t) 1 ≡ t
flag-back true = refl
flag-back false = refl

pub bits-lt : (n : ℕ) (ts : List Bool) → length ts ≤ n → bits_of ts < 2 ^ n
unfolding bits_of
bits-lt zero [] h = omega arith
bits-lt zero (t ∷ ts) h = absurd (let z : ⊥ = omega arith in z)
bits-lt (suc n) [] h = let l = bits-lt n [] (omega arith) in rw two-pow-succ (omega arith)
bits-lt (suc n) (t ∷ ts) h =
    let l = bits-lt n ts (omega arith) in
    let f = flag-le t in
    rw two-pow-succ (omega arith)

-- the lowest bit and the others
module _ (t : Bool) (ts : List Bool) where
  bits_half : bits_of (t ∷ ts) / 2 ≡ bits_of ts
  unfolding bits_of
  bits_half = let f = flag-le t in omega arith

  bits_odd : bits_of (t ∷ ts) % 2 ≡ flag_of t
  unfolding bits_of
  bits_odd = let f = flag-le t in omega arith

-- the n lowest bits are the top n answers, and the others those below them
bits-take : (n : ℕ) (ts : List Bool) → bits_of ts % 2 ^ n ≡ bits_of (take n ts)
unfolding bits_of
bits-take zero ts = mod-one (bits_of ts)
bits-take (suc n) [] = zero-mod (2 ^ suc n)
bits-take (suc n) (t ∷ ts) =
    ap (λ (m : ℕ). bits_of (t ∷ ts) % 2 ^ m) (sym (add-one n))
    ∙ mod-pow-add (bits_of (t ∷ ts)) n 1
    ∙ ap₂ (λ (a b : ℕ). a % 2 ^ n * 2 + b) (bits_half t ts) (bits_odd t ts)
    ∙ ap (λ (a : ℕ). a * 2 + flag_of t) (bits-take n ts)

bits-drop : (n : ℕ) (ts : List Bool) → bits_of ts / 2 ^ n ≡ bits_of (drop n ts)
unfolding bits_of
bits-drop zero ts = div-one (bits_of ts)
bits-drop (suc n) [] = zero-div (2 ^ suc n)
bits-drop (suc n) (t ∷ ts) =
    ap (λ (m : ℕ). bits_of (t ∷ ts) / 2 ^ m) (sym (one-add n))
    ∙ sym (shr-shr (bits_of (t ∷ ts)) 1 n)
    ∙ ap (λ (a : ℕ). a / 2 ^ n) (bits_half t ts)
    ∙ bits-drop n ts

-- the ones among the bits are the answers that are yes
ones_bits : (ts : List Bool) → ones (bits_of ts) ≡ yeses ts
unfolding bits_of ones ones_in yeses keep
ones_bits [] = refl
ones_bits (t ∷ ts) =
    ones_step (bits_of (t ∷ ts))
    ∙ ap₂ (λ (a b : ℕ). a + ones b) (bits_odd t ts) (bits_half t ts)
    ∙ ap (λ (n : ℕ). flag_of t + n) (ones_bits ts)
    ∙ sym (yeses_cons t ts)

-- the top answer is the lowest bit
bits-top : (ts : List Bool) → eqb (bits_of ts % 2) 1 ≡ get_or ts 0 false
unfolding bits_of
bits-top [] = refl
bits-top (t ∷ ts) =
    let f = flag-le t in
    let e : (bits_of ts * 2 + flag_of t) % 2 ≡ flag_of t = omega arith in
    ap (λ (n : ℕ). eqb n 1) e ∙ flag-back t

-- the bits behind an operator
abbrev pub operated : Operator → ℕ → ℕ
operated o stack = stack / 2 ^ takes o * 2 + flag_of (joins o (stack % 2 ^ takes o))

-- an operator of two answers, whose answer to their bits is that to them
two-bits :
    (g : Bool → Bool → Bool) (join : ℕ → Bool) → ((first second : Bool) → join (bits_of (second ∷ (first ∷ []))) ≡ g first second)
    → (ts : List Bool) → 2 ≤ length ts → bits_of (drop 2 ts) * 2 + flag_of (join (bits_of (take 2 ts))) ≡ bits_of (two g ts)
unfolding bits_of
two-bits g join same [] h = absurd (let z : ⊥ = omega arith in z)
two-bits g join same (second ∷ []) h = absurd (let z : ⊥ = omega arith in z)
two-bits g join same (second ∷ (first ∷ ts)) h = ap (λ (t : Bool). bits_of ts * 2 + flag_of t) (same first second)

joined-bits :
    (o : Operator) (ts : List Bool) → takes o ≤ length ts
    → bits_of (drop (takes o) ts) * 2 + flag_of (joins o (bits_of (take (takes o) ts))) ≡ bits_of (operate o ts)
unfolding bits_of
joined-bits Both ts h = two-bits (λ first second. first && second) (joins Both) same ts h
  where
    same : (first second : Bool) → joins Both (bits_of (second ∷ (first ∷ []))) ≡ (first && second)
    same true true = refl
    same true false = refl
    same false true = refl
    same false false = refl
joined-bits Either ts h = two-bits (λ first second. first || second) (joins Either) same ts h
  where
    same : (first second : Bool) → joins Either (bits_of (second ∷ (first ∷ []))) ≡ (first || second)
    same true true = refl
    same true false = refl
    same false true = refl
    same false false = refl
joined-bits FirstNotSecond ts h = two-bits (λ first second. first && not second) (joins FirstNotSecond) same ts h
  where
    same : (first second : Bool) → joins FirstNotSecond (bits_of (second ∷ (first ∷ []))) ≡ (first && not second)
    same true true = refl
    same true false = refl
    same false true = refl
    same false false = refl
joined-bits (AtLeast least of) ts h = ap (λ (n : ℕ). bits_of (drop of ts) * 2 + flag_of (leb least n)) (ones_bits (take of ts))

pub operated_bits : (o : Operator) (ts : List Bool) → takes o ≤ length ts → operated o (bits_of ts) ≡ bits_of (operate o ts)
operated_bits o ts h =
    ap₂ (λ (rest taken : ℕ). rest * 2 + flag_of (joins o taken)) (bits-drop (takes o) ts) (bits-take (takes o) ts) ∙ joined-bits o ts h

-- the rows from row i on
abbrev rows_from : List ℕ → ℕ → List Row
rows_from p i = run (row_at p) i (row_count p - i)

-- In front of row i of a plan with the bits of its found patterns: the bits of the answers, and the bits that are left. The rows left close
-- the patterns whose bits are left, and lead to the answers of the plan.
pub record Reading (p : List ℕ) (bits stack rest i : ℕ) : Type 0 where
  pub within : i ≤ row_count p
  pub opened : Pattern
  pub answers : List Bool
  pub stack_is : stack ≡ bits_of answers
  pub count : length answers ≡ (state_at p i).answers
  pub few : length answers + length (patterns_from opened (rows_from p i)) ≤ (sizes p).patterns
  pub rest-is : (found : Pattern → Bool) → bits ≡ found_bits found p → rest ≡ bits_of (map found (patterns_from opened (rows_from p i)))
  pub leads :
      (found : Pattern → Bool) → bits ≡ found_bits found p
      → answers_from found opened answers (rows_from p i) ≡ answers_from found no_row [] (rows_of p)

pub reading-first : (p : List ℕ) (bits : ℕ) → Reading p bits 0 bits 0
unfolding bits_of sizes
reading-first p bits =
    let e : row_count p - 0 ≡ row_count p = omega arith in
    let patterns = ap (λ (m : ℕ). patterns_from no_row (run (row_at p) 0 m)) e in
    record {
      within = omega arith;
      opened = no_row;
      answers = [];
      stack_is = refl;
      count = ap (λ (s : State). s.answers) (sym (state_at-first p));
      few = let n = ap length patterns in omega arith;
      rest-is = λ found f. f ∙ ap (λ (fs : List Pattern). bits_of (map found fs)) (sym patterns);
      leads = λ found f. ap (λ (m : ℕ). answers_from found no_row [] (run (row_at p) 0 m)) e;
    }

module _ (p : List ℕ) (bits stack rest i : ℕ) (r : Reading p bits stack rest i) where
  pub reading-done : row_count p ≤ i → (found : Pattern → Bool) → bits ≡ found_bits found p → eqb (stack % 2) 1 ≡ answer found (rows_of p)
  unfolding answer answers_from
  reading-done h found f =
      ap (λ (n : ℕ). eqb (n % 2) 1) r.stack_is
      ∙ bits-top r.answers
      ∙ ap (λ (ts : List Bool). get_or ts 0 false)
      (sym (ap (answers_from found r.opened r.answers) (run_end (row_at p) i (row_count p) h)) ∙ r.leads found f)

  -- the answers are at most eight
  pub reading_small : (sizes p).patterns ≤ 8 → stack < 256
  reading_small h = let f = r.few in rw r.stack_is (bits-lt 8 r.answers (omega arith))

  module _ (h : i < row_count p) where
    -- one row of kind x more
    module _ (x : Kind) (e : (row_at p i).kind ≡ x) where
      -- the patterns that the rows behind it close
      patterns_next : List Pattern
      patterns_next = patterns_from (open_after r.opened x) (rows_from p (i + 1))

      patterns-step : patterns_from r.opened (rows_from p i) ≡ closed r.opened x ++ patterns_next
      unfolding patterns_from patterns_next
      patterns-step =
          ap (patterns_from r.opened) (run_step (row_at p) i (row_count p) h)
          ∙ ap (λ (y : Kind). closed r.opened y ++ patterns_from (open_after r.opened y) (rows_from p (i + 1))) e

      next :
          (stack' rest' : ℕ) (ts : List Bool) → stack' ≡ bits_of ts → length ts ≡ (after (state_at p i) x).answers
          → length ts + length patterns_next ≤ (sizes p).patterns
          → ((found : Pattern → Bool) → bits ≡ found_bits found p → rest' ≡ bits_of (map found patterns_next))
          → ((found : Pattern → Bool) → bits ≡ found_bits found p → answers_after found r.opened r.answers x ≡ ts)
          → Reading p bits stack' rest' (i + 1)
      unfolding answers_from patterns_next
      next stack' rest' ts stack_is count few rest-is after-row = record {
        within = omega arith;
        opened = open_after r.opened x;
        answers = ts;
        stack_is = stack_is;
        count = count ∙ ap (λ (y : Kind). (after (state_at p i) y).answers) (sym e) ∙ ap (λ (s : State). s.answers) (sym (state_at-next p i));
        few = few;
        rest-is = rest-is;
        leads = λ found f.
            sym
            (ap (answers_from found r.opened r.answers) (run_step (row_at p) i (row_count p) h)
            ∙ ap (λ (y : Kind). answers_from found (open_after r.opened y) (answers_after found r.opened r.answers y) (rows_from p (i + 1))) e
            ∙ ap (λ (l : List Bool). answers_from found (open_after r.opened x) l (rows_from p (i + 1))) (after-row found f))
            ∙ r.leads found f;
      }

      -- a row that closes no pattern leaves the bits of those to come
      rest-same : closed r.opened x ≡ [] → (found : Pattern → Bool) → bits ≡ found_bits found p → rest ≡ bits_of (map found patterns_next)
      rest-same n found f =
          r.rest-is found f
          ∙ ap (λ (fs : List Pattern). bits_of (map found fs)) (patterns-step ∙ ap (λ (fs : List Pattern). fs ++ patterns_next) n)

      few-same : closed r.opened x ≡ [] → length r.answers + length patterns_next ≤ (sizes p).patterns
      few-same n = let m = ap length (patterns-step ∙ ap (λ (fs : List Pattern). fs ++ patterns_next) n) in let f = r.few in omega arith

    pub reading-voice : (list : ℕ) → (row_at p i).kind ≡ kind.Voice list → Reading p bits stack rest (i + 1)
    reading-voice list e =
        let x = kind.Voice list in
        next x e stack rest r.answers r.stack_is r.count (few-same x e refl) (rest-same x e refl) (λ found f. refl)

    pub reading-condition : (c : Predicate) → (row_at p i).kind ≡ kind.Condition c → Reading p bits stack rest (i + 1)
    reading-condition c e =
        let x = kind.Condition c in
        next x e stack rest r.answers r.stack_is r.count (few-same x e refl) (rest-same x e refl) (λ found f. refl)

    -- END closes the open pattern, whose bit is the lowest of those left
    module _ (e : (row_at p i).kind ≡ kind.End) where
      rest_end : (found : Pattern → Bool) → bits ≡ found_bits found p → rest ≡ bits_of (map found (patterns_next kind.End e)) * 2 + flag_of (found r.opened)
      unfolding bits_of
      rest_end found f = r.rest-is found f ∙ ap (λ (fs : List Pattern). bits_of (map found fs)) (patterns-step kind.End e)

      pub reading-end : Reading p bits (stack * 2 + rest % 2) (rest / 2) (i + 1)
      unfolding bits_of
      reading-end =
          next kind.End e (stack * 2 + rest % 2) (rest / 2) (eqb (rest % 2) 1 ∷ r.answers)
          (ap₂ (λ (a b : ℕ). a * 2 + b) r.stack_is (flag-of (rest % 2) (omega arith)))
          (let c = r.count in omega arith)
          (let m = ap length (patterns-step kind.End e) in let f = r.few in omega arith)
          (λ found f. let q = rest_end found f in let l = flag-le (found r.opened) in omega arith)
          (λ found f.
          let q = rest_end found f in
          let l = flag-le (found r.opened) in
          let b : rest % 2 ≡ flag_of (found r.opened) = omega arith in
          ap (λ (t : Bool). t ∷ r.answers) (sym (ap (λ (n : ℕ). eqb n 1) b ∙ flag-back (found r.opened))))

    -- an operator, which makes the bits those of its answers
    pub reading-operate :
        (o : Operator) → (row_at p i).kind ≡ kind.Operator o → InRange (row_at p i).kind → order_wrong (state_at p i) (row_at p i).kind ≡ false
        → (stack' : ℕ) → ((ts : List Bool) → takes o ≤ length ts → stack ≡ bits_of ts → stack' ≡ bits_of (operate o ts))
        → Reading p bits stack' rest (i + 1)
    reading-operate o e in-range ordered stack' operates =
        let x = kind.Operator o in
        let t = takes-some o (rw e at in-range) in
        let c = r.count in
        let w = (operator-stands (state_at p i) o (rw e at ordered)).1 in
        let m = operate-length o r.answers (omega arith) in
        let f = few-same x e refl in
        next x e stack' rest (operate o r.answers) (operates r.answers (omega arith) r.stack_is)
        (m ∙ ap (λ (n : ℕ). n + 1 - takes o) c)
        (omega arith)
        (rest-same x e refl)
        (λ found f. refl)

-- the bits of the found patterns
pub found-small : (found : Pattern → Bool) (p : List ℕ) → (sizes p).patterns ≤ most_patterns → found_bits found p < most_found_sets
unfolding sizes
found-small found p h = bits-lt 8 (map found (patterns_of (rows_of p))) (let l = length-map (patterns_of (rows_of p)) found in omega arith)

-- nothing is known at first
nothing : (n b : ℕ) → get_or {A = Option Bool} (replicate n None) b None ≡ None
nothing zero b = refl
nothing (suc n) zero = refl
nothing (suc n) (suc b) = nothing n b

pub remembers-first : (p : List ℕ) (n : ℕ) → Remembers p (replicate n None)
remembers-first p n = record { right = λ found yes e. absurd (none-some yes (sym (nothing n (found_bits found p)) ∙ e)) }

module _ (p : List ℕ) (known : List (Option Bool)) (m : Remembers p known) (bits : ℕ) where
  pub remembers-next :
      bits < length known → (r : Bool) → ((found : Pattern → Bool) → bits ≡ found_bits found p → r ≡ answer found (rows_of p))
      → Remembers p (set known bits (Some r))
  remembers-next h r told = record {
    right = λ found yes.
        ⊎_elim
        (λ (e : found_bits found p ≡ bits) a. let q : Some r ≡ Some yes = sym (get_or-set_same known bits (Some r) None h) ∙ rw e at a in let t = told found (sym e) in cc)
        (λ (n : found_bits found p ≢ bits) a. m.right found yes (sym (get_or-set_other known bits (found_bits found p) (Some r) None n) ∙ a))
        (decided (eqb_decides (found_bits found p) bits));
  }

  -- what is known is the answer, and stays
  module _ (yes : Bool) (asked : get_or known bits None ≡ Some yes) where
    pub known-answer : (found : Pattern → Bool) → bits ≡ found_bits found p → yes ≡ answer found (rows_of p)
    known-answer found e = m.right found yes (rw e at asked)

    pub known_same : known ≡ set known bits (Some yes)
    known_same = sym (set-get_or known bits None) ∙ ap (set known bits) asked
