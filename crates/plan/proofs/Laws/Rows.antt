-- The laws of `specs/Rows.antt`: four words and the row that they are read as. No contract cites this file.
--     each_kind                    a fact of 1, .., 11 is one of each number from 1 to the last kind
--     Used, formed_known           what four words of the right form are
--     words-of, range-of           they are the words of their row, whose numbers are in range
--     reads-row                    and such words are read as their row
--     words-at                     row i of a plan has the words there
--     form-unknown, form-known     the form of a row of unknown kind, and of a known one
--     never_decides                a test that is always false
--     form_wrong_decides           the test of the form decides document 01's sentence
--     rows_slice, words_slice      in a plan that passes every test: the rows of a slice of whole rows; it is their words
--     plan-words                   the plan is the words of its rows
-- Assumes nothing.
use Prim.Native.Nat.{ℕ, zero, suc, ◌+◌, ◌*◌, ◌/◌, ◌%◌, ◌<◌, ◌≤◌}
use native.Mathlib.Nat.{add-zero}
use native.Mathlib.Numerals.{add-one, add-two, add-three}
use native.Mathlib.Omega.{arith}
use mathlib.Core.Path.{◌≡◌, refl, sym, ap, ap₂, ◌∙◌, subst}
use mathlib.Core.Bool.{Bool, true, false, ◌||◌, true≢false}
use mathlib.Core.Logic.{◌⊎◌, ⊎_elim, ◌↔◌}
use mathlib.Core.List.{List, [], ◌∷◌, ◌++◌}
use lib.ListN.{length, get_or, take, drop}
use lib.Dec.{eqb, ltb}
use lib.Seq.{take_all}
use borrow.Author.Tests.{ltb-false, lt-ltb, le-ltb, eqb-true, not-true, not-false}
use Rattle.seq.specs.Lists.{joined}
use Rattle.seq.specs.Numbers.{run}
use Rattle.seq.proofs.Laws.Tests.{neither, contrary}
use Rattle.seq.proofs.Laws.Decides.{Decides, not_decides, eqb_decides, ltb_decides, and_decides, or_decides}
use Rattle.seq.proofs.Laws.Numbers.{run_append, run_ext}
use Rattle.plan.specs.declared.kinds.Uses.{Uses}
use Rattle.plan.specs.declared.row.Predicate.TheVariants.{Distance, Ordered, Samepara, Window, Proximity}
use Rattle.plan.specs.declared.row.Operator.TheVariants.{Both, Either, FirstNotSecond, AtLeast}
use Rattle.plan.specs.declared.row.Kind.{Kind}
use Rattle.plan.specs.declared.row.Kind.TheVariants as kind
use Rattle.plan.specs.declared.row.Row.{Row}
use Rattle.plan.specs.Limits.{last_kind, least_unit, least_taken, most_taken}
use Rattle.plan.specs.Rows.{row_count, kind_at, a_at, b_at, c_at, kind_of, row_of, row_at, rows_of, uses_of, stray, misused, pair_wrong, form_wrong, form_wrong_at, words_of, plan_of, InRange}
use Rattle.plan.specs.Refusals.{Stray, WrongPair, WrongForm}
use Rattle.plan.proofs.Laws.Passed.{Passed}
use Rattle.seq.proofs.Laws.Slices.{length_slice, get_or_slice, slice-run}

each_kind : (P : ℕ → Type 0) → P 1 → P 2 → P 3 → P 4 → P 5 → P 6 → P 7 → P 8 → P 9 → P 10 → P 11 → (k : ℕ) → 1 ≤ k → k ≤ last_kind → P k
each_kind P p1 p2 p3 p4 p5 p6 p7 p8 p9 p10 p11 zero l h = absurd (let z : ⊥ = omega arith in z)
each_kind P p1 p2 p3 p4 p5 p6 p7 p8 p9 p10 p11 (suc zero) l h = p1
each_kind P p1 p2 p3 p4 p5 p6 p7 p8 p9 p10 p11 (suc (suc zero)) l h = p2
each_kind P p1 p2 p3 p4 p5 p6 p7 p8 p9 p10 p11 (suc (suc (suc zero))) l h = p3
each_kind P p1 p2 p3 p4 p5 p6 p7 p8 p9 p10 p11 (suc (suc (suc (suc zero)))) l h = p4
each_kind P p1 p2 p3 p4 p5 p6 p7 p8 p9 p10 p11 (suc (suc (suc (suc (suc zero))))) l h = p5
each_kind P p1 p2 p3 p4 p5 p6 p7 p8 p9 p10 p11 (suc (suc (suc (suc (suc (suc zero)))))) l h = p6
each_kind P p1 p2 p3 p4 p5 p6 p7 p8 p9 p10 p11 (suc (suc (suc (suc (suc (suc (suc zero))))))) l h = p7
each_kind P p1 p2 p3 p4 p5 p6 p7 p8 p9 p10 p11 (suc (suc (suc (suc (suc (suc (suc (suc zero)))))))) l h = p8
each_kind P p1 p2 p3 p4 p5 p6 p7 p8 p9 p10 p11 (suc (suc (suc (suc (suc (suc (suc (suc (suc zero))))))))) l h = p9
each_kind P p1 p2 p3 p4 p5 p6 p7 p8 p9 p10 p11 (suc (suc (suc (suc (suc (suc (suc (suc (suc (suc zero)))))))))) l h = p10
each_kind P p1 p2 p3 p4 p5 p6 p7 p8 p9 p10 p11 (suc (suc (suc (suc (suc (suc (suc (suc (suc (suc (suc zero))))))))))) l h = p11
each_kind P p1 p2 p3 p4 p5 p6 p7 p8 p9 p10 p11 (suc (suc (suc (suc (suc (suc (suc (suc (suc (suc (suc (suc k)))))))))))) l h =
    absurd (let z : ⊥ = omega arith in z)

-- words are as a kind uses them: one that is not used is 0, and c is in its range
pub record Used (u : Uses) (a b c : ℕ) : Type 0 where
  pub a-used : u.a ≡ false → a ≡ 0
  pub b-used : u.b ≡ false → b ≡ 0
  pub c-used : u.c ≡ false → c ≡ 0
  pub c-least : u.least ≤ c
  pub c-most : c ≤ u.most

used : (u : Uses) (a b c : ℕ) → misused u a b c ≡ false → Used u a b c
unfolding misused
used u a b c e = record {
  a-used = zero_word u.a a p.0;
  b-used = zero_word u.b b q.0;
  c-used = zero_word u.c c r.0;
  c-least = ltb-false c u.least s.0;
  c-most = ltb-false u.most c s.1;
}
  where
    zero_word : (t : Bool) (w : ℕ) → stray t w ≡ false → t ≡ false → w ≡ 0
    zero_word t w f z = eqb-true w 0 (not-false (eqb w 0) (rw z at f))

    p : (stray u.a a ≡ false) × ((stray u.b b || (stray u.c c || (ltb c u.least || ltb u.most c))) ≡ false)
    p = neither (stray u.a a) (stray u.b b || (stray u.c c || (ltb c u.least || ltb u.most c))) e

    q : (stray u.b b ≡ false) × ((stray u.c c || (ltb c u.least || ltb u.most c)) ≡ false)
    q = neither (stray u.b b) (stray u.c c || (ltb c u.least || ltb u.most c)) p.1

    r : (stray u.c c ≡ false) × ((ltb c u.least || ltb u.most c) ≡ false)
    r = neither (stray u.c c) (ltb c u.least || ltb u.most c) q.1

    s : (ltb c u.least ≡ false) × (ltb u.most c ≡ false)
    s = neither (ltb c u.least) (ltb u.most c) r.1

-- four words of the right form are of a kind that there is, as that kind uses them, and fit each other
pub formed_known : (k a b c : ℕ) → form_wrong k a b c ≡ false → (1 ≤ k) × (k ≤ last_kind) × Used (uses_of (kind_of k a b c)) a b c × (pair_wrong (kind_of k a b c) ≡ false)
unfolding form_wrong
formed_known k a b c e =
    let u = uses_of (kind_of k a b c) in
    let p = neither (ltb k 1) (ltb last_kind k || (misused u a b c || pair_wrong (kind_of k a b c))) e in
    let q = neither (ltb last_kind k) (misused u a b c || pair_wrong (kind_of k a b c)) p.1 in
    let r = neither (misused u a b c) (pair_wrong (kind_of k a b c)) q.1 in
    (ltb-false k 1 p.0, ltb-false last_kind k q.0, used u a b c r.0, r.1)

-- the numbers of an AT LEAST row that fit each other
taken-range : (least of : ℕ) → pair_wrong (kind.Operator (AtLeast least of)) ≡ false → InRange (kind.Operator (AtLeast least of))
taken-range least of e =
    let p = neither (ltb least 1) (ltb of least || (ltb of least_taken || ltb most_taken of)) e in
    let q = neither (ltb of least) (ltb of least_taken || ltb most_taken of) p.1 in
    let r = neither (ltb of least_taken) (ltb most_taken of) q.1 in
    ((ltb-false least 1 p.0, ltb-false of least q.0), (ltb-false of least_taken r.0, ltb-false most_taken of r.1))

module _ (a b c : ℕ) where
  -- four words, by which of them are used
  words_are : (k a' b' c' : ℕ) → a ≡ a' → b ≡ b' → c ≡ c' → k ∷ a' ∷ b' ∷ c' ∷ [] ≡ k ∷ a ∷ b ∷ c ∷ []
  words_are k a' b' c' x y z = rw (x, y, z)

  used-words : (k : ℕ) → 1 ≤ k → k ≤ last_kind → Used (uses_of (kind_of k a b c)) a b c → words_of (kind_of k a b c) ≡ k ∷ a ∷ b ∷ c ∷ []
  used-words =
      each_kind (λ k. Used (uses_of (kind_of k a b c)) a b c → words_of (kind_of k a b c) ≡ k ∷ a ∷ b ∷ c ∷ [])
      (λ u. words_are 1 a 0 0 refl (u.b-used refl) (u.c-used refl))
      (λ u. refl)
      (λ u. words_are 3 a b 0 refl refl (u.c-used refl))
      (λ u. words_are 4 a b 0 refl refl (u.c-used refl))
      (λ u. words_are 5 0 0 c (u.a-used refl) (u.b-used refl) refl)
      (λ u. words_are 6 0 0 0 (u.a-used refl) (u.b-used refl) (u.c-used refl))
      (λ u. words_are 7 0 0 0 (u.a-used refl) (u.b-used refl) (u.c-used refl))
      (λ u. words_are 8 0 0 0 (u.a-used refl) (u.b-used refl) (u.c-used refl))
      (λ u. words_are 9 0 0 0 (u.a-used refl) (u.b-used refl) (u.c-used refl))
      (λ u. words_are 10 a b (c / least_unit * least_unit + c % least_unit) refl refl (omega arith))
      (λ u. words_are 11 a b 0 refl refl (u.c-used refl))

  used-range : (k : ℕ) → 1 ≤ k → k ≤ last_kind → Used (uses_of (kind_of k a b c)) a b c → pair_wrong (kind_of k a b c) ≡ false → InRange (kind_of k a b c)
  used-range =
      each_kind (λ k. Used (uses_of (kind_of k a b c)) a b c → pair_wrong (kind_of k a b c) ≡ false → InRange (kind_of k a b c))
      (λ u f. tt) (λ u f. u.c-most) (λ u f. tt) (λ u f. tt) (λ u f. (u.c-least, u.c-most)) (λ u f. tt) (λ u f. tt) (λ u f. tt) (λ u f. tt)
      (λ u f. (ltb-false (c % least_unit) (c / least_unit) f, omega arith))
      (λ u f. taken-range a b f)

words-of : (k a b c : ℕ) → form_wrong k a b c ≡ false → words_of (kind_of k a b c) ≡ k ∷ a ∷ b ∷ c ∷ []
words-of k a b c e = let f = formed_known k a b c e in used-words a b c k f.0 f.1 f.2

pub range-of : (k a b c : ℕ) → form_wrong k a b c ≡ false → InRange (kind_of k a b c)
range-of k a b c e = let f = formed_known k a b c e in used-range a b c k f.0 f.1 f.2 f.3

-- words are read as a row of this kind, and have the right form
abbrev ReadAs : Kind → List ℕ → Type 0
ReadAs r ws = (form_wrong (get_or ws 0 0) (get_or ws 1 0) (get_or ws 2 0) (get_or ws 3 0) ≡ false) × (kind_of (get_or ws 0 0) (get_or ws 1 0) (get_or ws 2 0) (get_or ws 3 0) ≡ r)

-- the limits of an APART row are read off its c
read-proximity : (a b least most : ℕ) → least ≤ most → most ≤ 65535 → ReadAs (kind.Condition (Proximity a b least most)) (words_of (kind.Condition (Proximity a b least most)))
unfolding form_wrong misused
read-proximity a b least most h k =
    let c = least * least_unit + most in
    let l : c / least_unit ≡ least = omega arith in
    let m : c % least_unit ≡ most = omega arith in
    (rw (l, m, le-ltb c 0 (omega arith), le-ltb 4294967295 c (omega arith), le-ltb most least h), rw (l, m))

-- the words of a row whose numbers are in range are read as that row
read-words : (r : Kind) → InRange r → ReadAs r (words_of r)
unfolding form_wrong misused
read-words (kind.Voice list) h = (refl, refl)
read-words (kind.Condition (Distance a b limit)) h = (rw (le-ltb limit 0 (omega arith), le-ltb 65535 limit h), refl)
read-words (kind.Condition (Ordered a b)) h = (refl, refl)
read-words (kind.Condition (Samepara a b)) h = (refl, refl)
read-words (kind.Condition (Window limit)) h = (rw (le-ltb limit 1 h.0, le-ltb 65536 limit h.1), refl)
read-words (kind.Condition (Proximity a b least most)) h = read-proximity a b least most h.0 h.1
read-words kind.End h = (refl, refl)
read-words (kind.Operator Both) h = (refl, refl)
read-words (kind.Operator Either) h = (refl, refl)
read-words (kind.Operator FirstNotSecond) h = (refl, refl)
read-words (kind.Operator (AtLeast least of)) h =
    (rw (le-ltb least 1 h.0.0, le-ltb of least h.0.1, le-ltb of least_taken h.1.0, le-ltb most_taken of h.1.1), refl)

-- four words have the right form and are read as a row exactly if its numbers are in range and they are its words
pub reads-row : (k a b c : ℕ) (r : Row) → ((form_wrong k a b c ≡ false) × (row_of k a b c ≡ r)) ↔ (InRange r.kind × (words_of r.kind ≡ k ∷ a ∷ b ∷ c ∷ []))
reads-row k a b c r = (there, back)
  where
    there : (form_wrong k a b c ≡ false) × (row_of k a b c ≡ r) → InRange r.kind × (words_of r.kind ≡ k ∷ a ∷ b ∷ c ∷ [])
    there w = subst (λ (x : Row). InRange x.kind × (words_of x.kind ≡ k ∷ a ∷ b ∷ c ∷ [])) w.1 (range-of k a b c w.0, words-of k a b c w.0)

    back : InRange r.kind × (words_of r.kind ≡ k ∷ a ∷ b ∷ c ∷ []) → (form_wrong k a b c ≡ false) × (row_of k a b c ≡ r)
    back w = let q : ReadAs r.kind (k ∷ a ∷ b ∷ c ∷ []) = rw w.1 at (read-words r.kind w.0) in (q.0, ap (λ (x : Kind). record { kind = x }) q.1)

-- rows of the same words are the same
row_ext : (p q : List ℕ) (i j : ℕ) → kind_at p i ≡ kind_at q j → a_at p i ≡ a_at q j → b_at p i ≡ b_at q j → c_at p i ≡ c_at q j → row_at p i ≡ row_at q j
unfolding row_at
row_ext p q i j k a b c = rw (k, a, b, c)

module _ (p : List ℕ) where
  -- row i of the right form has the words that the plan has there
  words-at : (i : ℕ) → form_wrong_at p i ≡ false → words_of (row_at p i).kind ≡ kind_at p i ∷ a_at p i ∷ b_at p i ∷ c_at p i ∷ []
  unfolding row_at
  words-at i e = words-of (kind_at p i) (a_at p i) (b_at p i) (c_at p i) e

  -- the words of m rows of the right form, from row i on
  words-run : (i m : ℕ) → ((j : ℕ) → i ≤ j → j < i + m → form_wrong_at p j ≡ false) → plan_of (run (row_at p) i m) ≡ run (λ j. get_or p j 0) (4 * i) (4 * m)
  unfolding joined run
  words-run i zero formed = refl
  words-run i (suc m) formed =
      let e : 4 * suc m ≡ 4 + 4 * m = omega arith in
      let f : 4 * i + 4 ≡ 4 * suc i = omega arith in
      ap₂ (λ (u v : List ℕ). u ++ v) (words-at i (formed i (omega arith) (omega arith)) ∙ four) (words-run (suc i) m (λ j a b. formed j (omega arith) (omega arith)))
      ∙ sym (ap (run (λ j. get_or p j 0) (4 * i)) e ∙ run_append (λ j. get_or p j 0) (4 * i) 4 (4 * m) ∙ ap (λ (k : ℕ). run (λ j. get_or p j 0) (4 * i) 4 ++ run (λ j. get_or p j 0) k (4 * m)) f)
    where
      four : kind_at p i ∷ a_at p i ∷ b_at p i ∷ c_at p i ∷ [] ≡ run (λ j. get_or p j 0) (4 * i) 4
      four = rw (add-one, add-two, add-three)

-- slices of a plan that passes every test
module _ (t : ℕ) (p : List ℕ) (ok : Passed t p) where
  -- the rows of a slice of m whole rows, from row i on
  pub rows_slice : (i m : ℕ) → i + m ≤ row_count p → rows_of (take (4 * m) (drop (4 * i) p)) ≡ run (row_at p) i m
  rows_slice i m h =
      let n = ok.whole in
      let l : length (take (4 * m) (drop (4 * i) p)) ≡ 4 * m = length_slice p (4 * i) (4 * m) (omega arith) in
      let c : row_count (take (4 * m) (drop (4 * i) p)) ≡ m = omega arith in
      ap (run (row_at (take (4 * m) (drop (4 * i) p))) 0) c
      ∙ run_ext (row_at (take (4 * m) (drop (4 * i) p))) (row_at p) 0 i m same
    where
      word : (j w : ℕ) → j < m → w < 4 → get_or (take (4 * m) (drop (4 * i) p)) (4 * (0 + j) + w) 0 ≡ get_or p (4 * (i + j) + w) 0
      word j w g k =
          let e : 4 * i + (4 * (0 + j) + w) ≡ 4 * (i + j) + w = omega arith in
          get_or_slice p (4 * i) (4 * m) (4 * (0 + j) + w) 0 (omega arith) ∙ ap (λ (x : ℕ). get_or p x 0) e

      word_0 : (j : ℕ) → j < m → kind_at (take (4 * m) (drop (4 * i) p)) (0 + j) ≡ kind_at p (i + j)
      word_0 j g = rw (add-zero (4 * (0 + j)), add-zero (4 * (i + j))) at (word j 0 g (omega arith))

      same : (j : ℕ) → j < m → row_at (take (4 * m) (drop (4 * i) p)) (0 + j) ≡ row_at p (i + j)
      same j g = row_ext (take (4 * m) (drop (4 * i) p)) p (0 + j) (i + j) (word_0 j g) (word j 1 g (omega arith)) (word j 2 g (omega arith)) (word j 3 g (omega arith))

  -- which is their words
  pub words_slice : (i m : ℕ) → i + m ≤ row_count p → take (4 * m) (drop (4 * i) p) ≡ plan_of (run (row_at p) i m)
  words_slice i m h = let n = ok.whole in slice-run 0 p (4 * i) (4 * m) (omega arith) ∙ sym (words-run p i m (λ j a l. ok.formed j (omega arith)))

  -- the plan is the words of its rows
  pub plan-words : p ≡ plan_of (rows_of p)
  plan-words = let n = ok.whole in sym (take_all (4 * row_count p) p (omega arith)) ∙ words_slice 0 (row_count p) (omega arith)

-- the test of the form, the way the code takes it
module _ (k a b c : ℕ) where
  pub form-unknown : (k < 1) ⊎ ((1 ≤ k) × (last_kind < k)) → form_wrong k a b c ≡ true
  unfolding form_wrong
  form-unknown = ⊎_elim (λ h. simp (lt-ltb k 1 h)) (λ h. simp (le-ltb k 1 h.0, lt-ltb last_kind k h.1))

  -- what a known kind uses
  pub form-known : (u : Uses) → u ≡ uses_of (kind_of k a b c) → 1 ≤ k → k ≤ last_kind → form_wrong k a b c ≡ (misused u a b c || pair_wrong (kind_of k a b c))
  unfolding form_wrong
  form-known u e low high = simp (le-ltb k 1 low, le-ltb last_kind k high) (ap (λ (w : Uses). misused w a b c || pair_wrong (kind_of k a b c)) (sym e))

-- a test that is always false decides what never holds
pub never_decides : Decides false ⊥
never_decides = record { yes = λ e. true≢false (sym e); no = λ e x. x }

-- a word that is not used is not 0
stray_decides : (used : Bool) (x : ℕ) → Decides (stray used x) (Stray used x)
stray_decides used x = and_decides (record { yes = not-true used; no = λ e f. contrary (not-false used e) f }) (not_decides (eqb_decides x 0))

pair_wrong_decides : (k : Kind) → Decides (pair_wrong k) (WrongPair k)
pair_wrong_decides (kind.Voice list) = never_decides
pair_wrong_decides (kind.Condition (Distance a b limit)) = never_decides
pair_wrong_decides (kind.Condition (Ordered a b)) = never_decides
pair_wrong_decides (kind.Condition (Samepara a b)) = never_decides
pair_wrong_decides (kind.Condition (Window limit)) = never_decides
pair_wrong_decides (kind.Condition (Proximity a b least most)) = ltb_decides most least
pair_wrong_decides kind.End = never_decides
pair_wrong_decides (kind.Operator Both) = never_decides
pair_wrong_decides (kind.Operator Either) = never_decides
pair_wrong_decides (kind.Operator FirstNotSecond) = never_decides
pair_wrong_decides (kind.Operator (AtLeast least of)) =
    or_decides (ltb_decides least 1) (or_decides (ltb_decides of least) (or_decides (ltb_decides of least_taken) (ltb_decides most_taken of)))

pub form_wrong_decides : (k a b c : ℕ) → Decides (form_wrong k a b c) (WrongForm k a b c)
unfolding form_wrong misused
form_wrong_decides k a b c =
    let u = uses_of (kind_of k a b c) in
    let range = or_decides (ltb_decides c u.least) (ltb_decides u.most c) in
    let words = or_decides (stray_decides u.a a) (or_decides (stray_decides u.b b) (or_decides (stray_decides u.c c) range)) in
    or_decides (ltb_decides k 1) (or_decides (ltb_decides last_kind k) (or_decides words (pair_wrong_decides (kind_of k a b c))))
