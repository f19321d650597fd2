-- The words of a row, and the postings of a stretch of documents. No contract cites this file.
--     length-least            the least match has a position for each variable
--     even                    a row has as many words as the work's width
--     count_add, count-run    a list's postings in two stretches, in all documents
--     postings-none, postings_add          the same of all variables' lists
--     work-even, work-wide, work_add, work_none     the same of a plan over a volume
--     count_append            the postings of a list in two parts
--     count_none, postings-zero            a list that has none in a stretch; lists that have none, and a plan's variables
--     whole                   all postings of a plan's variables
--     count_index             postings from document a up to b: the distance of the cursors that stand there
-- Assumes nothing.
use Prim.Native.Nat.{ℕ, suc, ◌+◌, ◌-◌, ◌*◌, ◌<◌, ◌≤◌}
use native.Mathlib.Omega.{arith}
use mathlib.Core.Path.{◌≡◌, refl, sym, ap, ap₂, ◌∙◌, fun_ext}
use mathlib.Core.Bool.{Bool, true, false, cond, ◌&&◌, and-false}
use mathlib.Core.Logic.{⊎_elim}
use mathlib.Core.List.{List, [], ◌∷◌, ◌++◌, map, append-nil}
use mathlib.Core.Option.{Option, none, some}
use lib.ListN.{length, get_or, length-append, length-map, length-replicate}
use lib.Dec.{eqb, leb, ltb, eqb-suc-suc}
use borrow.Author.Tests.{eqb-true, leb-true, leb-false, le-leb, lt-leb, lt-ltb, le-ltb}
use Rattle.seq.specs.Lists.{keep, all, total, joined}
use Rattle.seq.specs.Numbers.{first_from, run}
use Rattle.seq.proofs.Laws.Tests.{both_true, below_or}
use Rattle.seq.proofs.Laws.Decides.{fails, leb_decides, ltb_decides, and_decides}
use Rattle.seq.proofs.Laws.Lists.{length-joined}
use Rattle.seq.proofs.Laws.Totals.{total_add, total-ones, total-joined, total-map, total-same, total_ext}
use Rattle.seq.proofs.Laws.Keep.{keep_append, keep-run-none, keep-run-all, length-keep, all_append, all_map, all_keep, all_first}
use Rattle.seq.proofs.Laws.Members.{Has, every_of, keep-nothing}
use Rattle.seq.proofs.Laws.Numbers.{first-le, first_ge, first-at, first-before, length_run}
use Rattle.seq.proofs.Laws.Slices.{run-parts}
use Rattle.block.specs.Bytes.{IsBytes}
use Rattle.volume.specs.Layout.{word, list_count, count, start, lists_of}
use Rattle.volume.specs.Posting.{doc_of}
use Rattle.volume.proofs.Laws.Stream.{word_lt}
use Rattle.volume.proofs.Laws.Volume.{list-of}
use Rattle.plan.specs.declared.row.Row.{Row}
use Rattle.plan.specs.Rows.{rows_of}
use Rattle.plan.specs.Patterns.{Pattern, no_row, patterns_of, vars_of}
use Rattle.plan.specs.Check.{sizes}
use Rattle.plan.specs.Check as plan
use Rattle.plan.specs.Accepted.{pattern_at}
use Rattle.plan.proofs.Laws.Accepted.{given}
use Rattle.fulltext.specs.Positions.{limit, list_of, positions_in, count_in}
use Rattle.fulltext.specs.Matches.{with_each, tuples, matches, all_hold, starts_in, vars_in, least_in}
use Rattle.fulltext.specs.Documents.{with_starts, shown, shown_in, row_in, postings_in, work_of, work}

-- a tuple has n positions
abbrev of_length : ℕ → List ℕ → Bool
of_length n ps = eqb (length ps) n

longer : (n p : ℕ) (rest : List (List ℕ)) → all (of_length n) rest ≡ true → all (of_length (suc n)) (map (λ r. p ∷ r) rest) ≡ true
longer n p rest e =
    all_map (of_length (suc n)) (λ r. p ∷ r) rest
    (ap (λ (test : List ℕ → Bool). all test rest) (fun_ext (λ (r : List ℕ). eqb-suc-suc (length r) n)) ∙ e)

each-longer : (n : ℕ) (ps : List ℕ) (rest : List (List ℕ)) → all (of_length n) rest ≡ true → all (of_length (suc n)) (with_each ps rest) ≡ true
unfolding all with_each
each-longer n [] rest e = refl
each-longer n (p ∷ ps) rest e = all_append (of_length (suc n)) (map (λ r. p ∷ r) rest) (with_each ps rest) (longer n p rest e) (each-longer n ps rest e)

length-tuples : (vs : List (List ℕ)) → all (of_length (length vs)) (tuples vs) ≡ true
unfolding all tuples
length-tuples [] = refl
length-tuples (l ∷ vs) = each-longer (length vs) l (tuples vs) (length-tuples vs)

-- a pattern's least match has a position for each variable
length-least : (lists : List (List ℕ)) (d : ℕ) (f : Pattern) (ps : List ℕ) → least_in lists d f ≡ some ps → length ps ≡ length f.vars
unfolding least_in matches
length-least lists d f ps e =
    let vs = vars_in lists d f.vars in
    eqb-true (length ps) (length vs)
    (all_first (of_length (length vs)) (matches (starts_in lists d) vs f.predicates) ps (all_keep (of_length (length vs)) (λ qs. all_hold (starts_in lists d) f.predicates qs) (tuples vs) (length-tuples vs)) e)
    ∙ length-map f.vars (λ l. positions_in d (list_of lists l))

-- positions with their starts are twice as many words
pub length_pairs : (starts ps : List ℕ) → length (with_starts starts ps) ≡ 2 * length ps
unfolding with_starts joined
length_pairs starts [] = refl
length_pairs starts (p ∷ ps) = let l : length (with_starts starts ps) ≡ 2 * length ps = length_pairs starts ps in omega arith

-- a pattern has a word, and two for each variable
pub length-shown : (lists : List (List ℕ)) (d : ℕ) (f : Pattern) → length (shown_in lists d f) ≡ 1 + 2 * length f.vars
length-shown lists d f = go (least_in lists d f) refl
  where
    go : (o : Option (List ℕ)) → least_in lists d f ≡ o
        → length (shown (starts_in lists d) (length f.vars) o) ≡ 1 + 2 * length f.vars
    go none e = let l = length-replicate {A = ℕ} (2 * length f.vars) 0 in omega arith
    go (some ps) e = let l = length-least lists d f ps e in let m = length_pairs (starts_in lists d) ps in omega arith

-- every row has the work's width
even : (lists : List (List ℕ)) (rows : List Row) (d : ℕ) → length ((work_of lists rows).row_of d) ≡ (work_of lists rows).width
unfolding work_of row_in
even lists rows d =
    let fs = patterns_of rows in
    let a = length-joined (map (shown_in lists d) fs) in
    let b = total-map length (shown_in lists d) fs in
    let c = total_ext (λ f. length (shown_in lists d f)) (λ f. 1 + (length f.vars + length f.vars)) fs (λ f. let s = length-shown lists d f in omega arith) in
    let e = total_add (λ f. 1) (λ f. length f.vars + length f.vars) fs in
    let t = total_add (λ (f : Pattern). length f.vars) (λ f. length f.vars) fs in
    let g = total-ones fs in
    omega arith

-- a document from a on and below b
abbrev within : ℕ → ℕ → ℕ → Bool
within a b d = leb a d && ltb d b

in_within : (a b d : ℕ) → a ≤ d → d < b → within a b d ≡ true
in_within a b d h l = both_true (leb a d) (ltb d b) (le-leb a d h) (lt-ltb d b l)

before-within : (a b d : ℕ) → d < a → within a b d ≡ false
before-within a b d h = rw (lt-leb a d h)

behind-within : (a b d : ℕ) → b ≤ d → within a b d ≡ false
behind-within a b d h = rw (le-ltb d b h) (and-false (leb a d))

-- one for a document there, and 0 for another
abbrev ones : ℕ → ℕ → ℕ → ℕ
ones a b p = cond (within a b (doc_of p)) 1 0

count_ones : (a b : ℕ) (l : List ℕ) → count_in a b l ≡ total (ones a b) l
unfolding count_in
count_ones a b l = length-keep (λ p. within a b (doc_of p)) l

within_add : (a b c d : ℕ) → a ≤ b → b ≤ c → cond (within a b d) 1 0 + cond (within b c d) 1 0 ≡ cond (within a c d) 1 0
within_add a b c d h l =
    ⊎_elim (λ (x : d < a). rw (before-within a b d x, before-within b c d (omega arith), before-within a c d x))
    (λ (x : a ≤ d).
    ⊎_elim (λ (y : d < b). rw (in_within a b d x y, before-within b c d y, in_within a c d x (omega arith)))
    (λ (y : b ≤ d).
    ⊎_elim (λ (z : d < c). rw (behind-within a b d y, in_within b c d y z, in_within a c d x z)) (λ (z : c ≤ d). rw (behind-within a b d y, behind-within b c d z, behind-within a c d z)) (below_or d c))
    (below_or d b))
    (below_or d a)

count_add : (a b c : ℕ) (l : List ℕ) → a ≤ b → b ≤ c → count_in a b l + count_in b c l ≡ count_in a c l
count_add a b c l h k =
    ap₂ (λ (x y : ℕ). x + y) (count_ones a b l) (count_ones b c l)
    ∙ total_add (ones a b) (ones b c) l
    ∙ total_ext (λ p. ones a b p + ones b c p) (ones a c) l (λ p. within_add a b c (doc_of p) h k)
    ∙ sym (count_ones a c l)

-- a list whose postings are words
count-run : (f : ℕ → ℕ) (k m : ℕ) → ((j : ℕ) → f j < 4294967296) → count_in 0 limit (run f k m) ≡ m
unfolding count_in
count-run f k m small =
    ap length (keep-run-all (λ p. within 0 limit (doc_of p)) f k m (λ j h l. let s = small j in in_within 0 limit (doc_of (f j)) (omega arith) (omega arith)))
    ∙ length_run f k m

pub count_append : (a b : ℕ) (ps qs : List ℕ) → count_in a b (ps ++ qs) ≡ count_in a b ps + count_in a b qs
unfolding count_in
count_append a b ps qs =
    let test : ℕ → Bool = λ p. within a b (doc_of p) in
    ap length (keep_append test ps qs) ∙ length-append (keep test ps) (keep test qs)

-- no posting of a list is of a document from a on and below b
pub count_none : (a b : ℕ) (ps : List ℕ) → ((p : ℕ) → Has p ps → a ≤ doc_of p → doc_of p < b → ⊥) → count_in a b ps ≡ 0
unfolding count_in
count_none a b ps f =
    let test : ℕ → Bool = λ p. within a b (doc_of p) in
    ap length
    (keep-nothing test ps
    (every_of (λ (p : ℕ). test p ≡ false) ps
    (λ p m. fails (and_decides (leb_decides a (doc_of p)) (ltb_decides (doc_of p) b)) (λ i. f p m i.0 i.1))))

module _ (lists : List (List ℕ)) (rows : List Row) where
  postings_add : (a b c : ℕ) → a ≤ b → b ≤ c → postings_in lists rows a b + postings_in lists rows b c ≡ postings_in lists rows a c
  unfolding postings_in
  postings_add a b c h k =
      total_add (λ l. count_in a b (list_of lists l)) (λ l. count_in b c (list_of lists l)) (vars_of rows)
      ∙ total_ext (λ l. count_in a b (list_of lists l) + count_in b c (list_of lists l)) (λ l. count_in a c (list_of lists l)) (vars_of rows) (λ l. count_add a b c (list_of lists l) h k)

  postings-none : (a : ℕ) → postings_in lists rows a a ≡ 0
  postings-none a = let e = postings_add a a a (omega arith) (omega arith) in omega arith

-- a plan over a volume
module _ (v p : List ℕ) where
  pub work-even : (d : ℕ) → length ((work v p).row_of d) ≡ (work v p).width
  unfolding work
  work-even = even (lists_of v) (rows_of p)

  pub work-wide : 1 ≤ (work v p).width
  unfolding work
  work-wide = omega arith

  pub work_add : (a b c : ℕ) → a ≤ b → b ≤ c → (work v p).postings a b + (work v p).postings b c ≡ (work v p).postings a c
  unfolding work
  work_add = postings_add (lists_of v) (rows_of p)

  pub work_none : (a : ℕ) → (work v p).postings a a ≡ 0
  unfolding work
  work_none = postings-none (lists_of v) (rows_of p)

  -- no posting of any list, so none of a plan's
  pub postings-zero : (a b : ℕ) → ((l : ℕ) → count_in a b (list_of (lists_of v) l) ≡ 0) → (work v p).postings a b ≡ 0
  unfolding work work_of postings_in
  postings-zero a b e =
      let vars = vars_of (rows_of p) in
      let z = total_add (λ (l : ℕ). 0) (λ (l : ℕ). 0) vars in
      total_ext (λ l. count_in a b (list_of (lists_of v) l)) (λ l. 0) vars e ∙ omega arith

  -- all postings of a list that is there
  all-postings : IsBytes v → (l : ℕ) → l < list_count v → count_in 0 limit (list_of (lists_of v) l) ≡ count v l
  all-postings bytes l h = ap (λ (xs : List ℕ). count_in 0 limit xs) (list-of v l h) ∙ count-run (word v) (start v l) (count v l) (λ j. word_lt v j bytes)

  -- of all variables
  pub whole : IsBytes v → plan.Accepted v p → (work v p).postings 0 limit ≡ total (λ l. count v l) (vars_of (rows_of p))
  unfolding work postings_in vars_of sizes
  whole bytes ok =
      let fs = patterns_of (rows_of p) in
      let vars : Pattern → List ℕ = λ f. f.vars in
      let f : ℕ → ℕ = λ l. count_in 0 limit (list_of (lists_of v) l) in
      let g : ℕ → ℕ = λ l. count v l in
      total-joined f (map vars fs) ∙ total-map (total f) vars fs
      ∙ total-same (λ (q : Pattern). total f q.vars) (λ (q : Pattern). total g q.vars) no_row fs
      (λ k h. total-same f g 0 (pattern_at p k).vars (λ i l. all-postings bytes (get_or (pattern_at p k).vars i 0) (((given v p ok).well-made k h).lists i l).1))
      ∙ sym (total-joined g (map vars fs) ∙ total-map (total g) vars fs)

-- the index of the first posting of a run that is of document d or behind it
abbrev pub index_of : (ℕ → ℕ) → ℕ → ℕ → ℕ → ℕ
index_of w s e d = first_from (λ i. leb (d * 65536) (w i)) s (e - s)

module _ (w : ℕ → ℕ) (s e : ℕ) (h : s ≤ e) (up : (j k : ℕ) → s ≤ j → j < k → k < e → w j < w k) where
  index_ge : (d : ℕ) → s ≤ index_of w s e d
  index_ge d = first_ge (λ i. leb (d * 65536) (w i)) s (e - s)

  index-le : (d : ℕ) → index_of w s e d ≤ e
  index-le d = let a = first-le (λ i. leb (d * 65536) (w i)) s (e - s) in omega arith

  -- postings before the index are of documents below d, those from it on are not
  before-index : (d j : ℕ) → s ≤ j → j < index_of w s e d → w j < d * 65536
  before-index d j a b = leb-false (d * 65536) (w j) (first-before (λ i. leb (d * 65536) (w i)) s (e - s) j a b)

  at-index : (d : ℕ) → index_of w s e d < e → d * 65536 ≤ w (index_of w s e d)
  at-index d a = leb-true (d * 65536) (w (index_of w s e d)) (first-at (λ i. leb (d * 65536) (w i)) s (e - s) (omega arith))

  from-index : (d j : ℕ) → index_of w s e d ≤ j → j < e → d * 65536 ≤ w j
  from-index d j a b =
      ⊎_elim (λ (x : index_of w s e d < j). let c = at-index d (omega arith) in let l = up (index_of w s e d) j (index_ge d) x b in omega arith)
      (λ (x : j ≤ index_of w s e d). let q : index_of w s e d ≡ j = omega arith in rw q at (at-index d (omega arith)))
      (below_or (index_of w s e d) j)

  index_mono : (a b : ℕ) → a ≤ b → index_of w s e a ≤ index_of w s e b
  index_mono a b l =
      ⊎_elim (λ (x : index_of w s e b < index_of w s e a).
      let y = index-le a in
      let c = from-index b (index_of w s e b) (omega arith) (omega arith) in
      let z = before-index a (index_of w s e b) (index_ge b) x in
      absurd (let k : ⊥ = omega arith in k))
      (λ x. x)
      (below_or (index_of w s e b) (index_of w s e a))

  -- the postings from document a up to document b lie between the indices
  pub count_index : (a b : ℕ) → a ≤ b → count_in a b (run w s (e - s)) + index_of w s e a ≡ index_of w s e b
  unfolding count_in
  count_index a b l = omega (arith, size, index_mono a b l)
    where
      first-a : ℕ
      first-a = index_of w s e a

      first-b : ℕ
      first-b = index_of w s e b

      test : ℕ → Bool
      test p = within a b (doc_of p)

      low : keep test (run w s (first-a - s)) ≡ []
      low = keep-run-none test w s (first-a - s) (λ j x y. let k = before-index a j x (omega (arith, index_ge a)) in before-within a b (doc_of (w j)) (omega arith))

      middle : keep test (run w first-a (first-b - first-a)) ≡ run w first-a (first-b - first-a)
      middle = keep-run-all test w first-a (first-b - first-a) (λ j x y.
          let o = index-le b in
          let k = from-index a j x (omega arith) in
          let z = before-index b j (omega (arith, index_ge a)) (omega arith) in
          in_within a b (doc_of (w j)) (omega arith) (omega arith))

      high : keep test (run w first-b (e - first-b)) ≡ []
      high = keep-run-none test w first-b (e - first-b) (λ j x y. let k = from-index b j x (omega (arith, index-le b)) in behind-within a b (doc_of (w j)) (omega arith))

      parts : run w s (e - s) ≡ run w s (first-a - s) ++ (run w first-a (first-b - first-a) ++ run w first-b (e - first-b))
      parts = run-parts w s first-a e (index_ge a) (index-le a) ∙ ap (λ (xs : List ℕ). run w s (first-a - s) ++ xs) (run-parts w first-a first-b e (index_mono a b l) (index-le b))

      kept : keep test (run w s (e - s)) ≡ run w first-a (first-b - first-a)
      kept =
          ap (keep test) parts
          ∙ keep_append test (run w s (first-a - s)) (run w first-a (first-b - first-a) ++ run w first-b (e - first-b))
          ∙ ap₂ (λ (xs ys : List ℕ). xs ++ ys) low (keep_append test (run w first-a (first-b - first-a)) (run w first-b (e - first-b)) ∙ ap₂ (λ (xs ys : List ℕ). xs ++ ys) middle high)
          ∙ append-nil (run w first-a (first-b - first-a))

      size : length (keep test (run w s (e - s))) ≡ first-b - first-a
      size = ap length kept ∙ length_run w first-a (first-b - first-a)
