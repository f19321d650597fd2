-- Documents in which nothing is found. No contract cites this file.
--     answer-none        where no pattern is found the plan's answer is no
--     matching-none      so the document is not true
--     found_none         a pattern is not found where one of its variables has no position
--     positions-none     a list with no postings in a stretch of documents has no position there
--     skip               where the variables have no postings in a stretch no document of it is true
-- Assumes nothing.
use Prim.Native.Nat.{ℕ, zero, suc, ◌<◌, ◌≤◌}
use native.Mathlib.Nat.{zero-add}
use native.Mathlib.Omega.{arith}
use mathlib.Core.Path.{◌≡◌, refl, sym, ap, ◌∙◌, subst}
use mathlib.Core.Bool.{Bool, true, false, not, ◌&&◌}
use mathlib.Core.List.{List, [], ◌∷◌, ◌++◌, map}
use lib.ListN.{length, get_or, take, drop, length-map}
use lib.Dec.{eqb, leb, ltb}
use borrow.Author.Tests.{ne_eqb, le-leb, lt-leb, lt-ltb}
use Rattle.seq.specs.Lists.{cons_if, keep, all, total, first}
use Rattle.seq.proofs.Laws.Tests.{both_true, contrary}
use Rattle.seq.proofs.Laws.Keep.{all_take, all_drop}
use Rattle.seq.proofs.Laws.Lists.{Each}
use Rattle.seq.proofs.Laws.Numbers.{length_run, get_or-run}
use Rattle.seq.proofs.Laws.Totals.{total-joined, total-map, total-zero}
use Rattle.volume.specs.Layout.{lists_of}
use Rattle.volume.specs.Posting.{doc_of, pos_of}
use Rattle.plan.specs.declared.row.Operator.{Operator}
use Rattle.plan.specs.declared.row.Operator.TheVariants.{Both, Either, FirstNotSecond, AtLeast}
use Rattle.plan.specs.declared.row.Kind.{Kind}
use Rattle.plan.specs.declared.row.Kind.TheVariants as kind
use Rattle.plan.specs.declared.row.Row.{Row}
use Rattle.plan.specs.Rows.{row_count, row_at, rows_of, form_wrong_at, InRange}
use Rattle.plan.specs.Patterns.{Pattern, no_row, open_after, closed, patterns_from, patterns_of, yeses, operate, answers_after, answers_from, answer, vars_of}
use Rattle.plan.specs.Check.{sizes}
use Rattle.plan.specs.Check as plan
use Rattle.plan.specs.Accepted.{pattern_at}
use Rattle.plan.proofs.Laws.Accepted.{given}
use Rattle.plan.proofs.Laws.Given.{row-range}
use Rattle.fulltext.specs.Positions.{list_of, positions_in, count_in}
use Rattle.fulltext.specs.Matches.{with_each, tuples, all_hold, starts_in, vars_in, matches, least_in}
use Rattle.fulltext.specs.Documents.{present, found, matching, postings_in, work}

-- none of answers that are all no is yes
yeses-none : (bs : List Bool) → all not bs ≡ true → yeses bs ≡ 0
unfolding yeses keep all
yeses-none [] e = refl
yeses-none (false ∷ bs) e = yeses-none bs e
yeses-none (true ∷ bs) e = absurd (contrary e refl)

-- an operator that asks for a yes leaves none among answers that are all no
operate-none : (o : Operator) → InRange (kind.Operator o) → (bs : List Bool) → all not bs ≡ true → all not (operate o bs) ≡ true
unfolding all
operate-none Both r [] e = refl
operate-none Both r (x ∷ []) e = refl
operate-none Both r (false ∷ (false ∷ bs)) e = e
operate-none Both r (false ∷ (true ∷ bs)) e = absurd (contrary e refl)
operate-none Both r (true ∷ (y ∷ bs)) e = absurd (contrary e refl)
operate-none Either r [] e = refl
operate-none Either r (x ∷ []) e = refl
operate-none Either r (false ∷ (false ∷ bs)) e = e
operate-none Either r (false ∷ (true ∷ bs)) e = absurd (contrary e refl)
operate-none Either r (true ∷ (y ∷ bs)) e = absurd (contrary e refl)
operate-none FirstNotSecond r [] e = refl
operate-none FirstNotSecond r (x ∷ []) e = refl
operate-none FirstNotSecond r (false ∷ (false ∷ bs)) e = e
operate-none FirstNotSecond r (false ∷ (true ∷ bs)) e = absurd (contrary e refl)
operate-none FirstNotSecond r (true ∷ (y ∷ bs)) e = absurd (contrary e refl)
operate-none (AtLeast least of) r bs e =
    let none : leb least (yeses (take of bs)) ≡ false = ap (leb least) (yeses-none (take of bs) (all_take not of bs e)) ∙ lt-leb least 0 r.0.0 in
    both_true (not (leb least (yeses (take of bs)))) (all not (drop of bs)) (ap not none) (all_drop not of bs e)

-- the numbers of a row are in their range
abbrev Ranged : Row → Type 0
Ranged r = InRange r.kind

-- where a list of rows has none
abbrev end : Row
end = record { kind = kind.End }

-- so are those of each row of a plan whose rows have the right form
rows-ranged : (p : List ℕ) → ((i : ℕ) → i < row_count p → form_wrong_at p i ≡ false) → Each Ranged end (rows_of p)
rows-ranged p formed i l =
    let n : i < row_count p = rw (length_run (row_at p) 0 (row_count p)) at l in
    subst Ranged (sym (get_or-run (row_at p) 0 (row_count p) i end n ∙ ap (row_at p) (zero-add i))) (row-range p i (formed i n))

module _ (test : Pattern → Bool) where
  -- none of some patterns passes the test
  abbrev pub NoneOf : List Pattern → Type 0
  NoneOf fs = (k : ℕ) → k < length fs → test (get_or fs k no_row) ≡ false

  -- so all answers stay no
  answers-none : (f : Pattern) (bs : List Bool) (rows : List Row) → Each Ranged end rows → NoneOf (patterns_from f rows) → all not bs ≡ true
      → all not (answers_from test f bs rows) ≡ true
  unfolding patterns_from answers_from all
  answers-none f bs [] in-range h e = e
  answers-none f bs (r ∷ rows) in-range h e =
      go r.kind (in-range 0 (omega arith)) h
      (answers-none (open_after f r.kind) (answers_after test f bs r.kind) rows (λ i l. in-range (suc i) (omega arith)))
    where
      go : (k : Kind) → InRange k → NoneOf (closed f k ++ patterns_from (open_after f k) rows)
          → (NoneOf (patterns_from (open_after f k) rows) → all not (answers_after test f bs k) ≡ true → all not (answers_from test (open_after f k) (answers_after test f bs k) rows) ≡ true)
          → all not (answers_from test (open_after f k) (answers_after test f bs k) rows) ≡ true
      go (kind.Voice list) r g rest = rest g e
      go (kind.Condition c) r g rest = rest g e
      go kind.End r g rest = rest (λ k l. g (suc k) (omega arith)) (both_true (not (test f)) (all not bs) (ap not (g 0 (omega arith))) e)
      go (kind.Operator o) r g rest = rest g (operate-none o r bs e)

  -- where no pattern is found the plan's answer is no
  answer-none : (rows : List Row) → Each Ranged end rows → NoneOf (patterns_of rows) → answer test rows ≡ false
  unfolding answer all
  answer-none rows in-range h = last (answers_from test no_row [] rows) (answers-none no_row [] rows in-range h refl)
    where
      last : (bs : List Bool) → all not bs ≡ true → get_or bs 0 false ≡ false
      last [] e = refl
      last (false ∷ bs) e = refl
      last (true ∷ bs) e = absurd (contrary e refl)

-- so a document in which no pattern of an accepted plan is found is not true
pub matching-none : (v p : List ℕ) → plan.Accepted v p → (d : ℕ) → NoneOf (found (lists_of v) d) (patterns_of (rows_of p))
    → matching (lists_of v) (rows_of p) d ≡ false
unfolding matching
matching-none v p ok d h = answer-none (found (lists_of v) d) (rows_of p) (rows-ranged p (given v p ok).formed) h

-- there is no tuple where a variable has no position
each_none : (ps : List ℕ) → with_each ps [] ≡ []
unfolding with_each
each_none [] = refl
each_none (p ∷ ps) = each_none ps

tuples-none : (vs : List (List ℕ)) (i : ℕ) → i < length vs → get_or vs i [] ≡ [] → tuples vs ≡ []
unfolding tuples with_each
tuples-none [] i h e = absurd (let z : ⊥ = omega arith in z)
tuples-none (l ∷ vs) zero h e = ap (λ (ps : List ℕ). with_each ps (tuples vs)) e
tuples-none (l ∷ vs) (suc i) h e = ap (with_each l) (tuples-none vs i (omega arith) e) ∙ each_none l

found_none : (lists : List (List ℕ)) (d : ℕ) (f : Pattern) (i : ℕ) → i < length f.vars → positions_in d (list_of lists (get_or f.vars i 0)) ≡ [] → found lists d f ≡ false
unfolding found least_in matches keep
found_none lists d f i h e =
    let vs = vars_in lists d f.vars in
    ap (λ (ts : List (List ℕ)). present (first (keep (λ ps. all_hold (starts_in lists d) f.predicates ps) ts)))
    (tuples-none vs i (rw (length-map f.vars (λ l. positions_in d (list_of lists l))) h) (nth f.vars i h ∙ e))
  where
    nth : (xs : List ℕ) (j : ℕ) → j < length xs → get_or (vars_in lists d xs) j [] ≡ positions_in d (list_of lists (get_or xs j 0))
    nth [] j l = absurd (let z : ⊥ = omega arith in z)
    nth (x ∷ xs) zero l = refl
    nth (x ∷ xs) (suc j) l = nth xs j (omega arith)

-- a list with no postings from document a up to b has no position in a document there
pub positions-none : (a b d : ℕ) (l : List ℕ) → a ≤ d → d < b → count_in a b l ≡ 0 → positions_in d l ≡ []
unfolding positions_in count_in keep
positions-none a b d [] h k e = refl
positions-none a b d (p ∷ ps) h k e = go (within (doc_of p)) refl (positions-none a b d ps h k) e
  where
    within : ℕ → Bool
    within c = leb a c && ltb c b

    go : (t : Bool) → within (doc_of p) ≡ t → (length (keep (λ q. within (doc_of q)) ps) ≡ 0 → map (λ q. pos_of q) (keep (λ q. eqb (doc_of q) d) ps) ≡ []) → length (cons_if t p (keep (λ q. within (doc_of q)) ps)) ≡ 0
        → map (λ q. pos_of q) (cons_if (eqb (doc_of p) d) p (keep (λ q. eqb (doc_of q) d) ps)) ≡ []
    go true w rest z = absurd (let y : ⊥ = omega arith in y)
    go false w rest z =
        let other : eqb (doc_of p) d ≡ false = ne_eqb (doc_of p) d (λ q. contrary (both_true (leb a (doc_of p)) (ltb (doc_of p) b) (le-leb a (doc_of p) (omega arith)) (lt-ltb (doc_of p) b (omega arith))) w) in
        rw other (rest z)

-- where the variables of an accepted plan have no postings from document a up to b, no document there is true
pub skip : (v p : List ℕ) → plan.Accepted v p → (a b : ℕ) → (work v p).postings a b ≡ 0 → (d : ℕ) → a ≤ d → d < b → (work v p).is_true d ≡ false
unfolding work postings_in vars_of sizes
skip v p ok a b e d h l = matching-none v p ok d none_found
  where
    counted : ℕ → ℕ
    counted i = count_in a b (list_of (lists_of v) i)

    vars : Pattern → List ℕ
    vars f = f.vars

    each-zero : total (λ (f : Pattern). total counted f.vars) (patterns_of (rows_of p)) ≡ 0
    each-zero = sym (total-joined counted (map vars (patterns_of (rows_of p))) ∙ total-map (total counted) vars (patterns_of (rows_of p))) ∙ e

    none_found : NoneOf (found (lists_of v) d) (patterns_of (rows_of p))
    none_found k m =
        let some : 1 ≤ length (pattern_at p k).vars = ((given v p ok).well-made k m).some-vars in
        found_none (lists_of v) d (pattern_at p k) 0 some
        (positions-none a b d (list_of (lists_of v) (get_or (pattern_at p k).vars 0 0)) h l
        (total-zero counted 0 (pattern_at p k).vars (total-zero (λ (f : Pattern). total counted f.vars) no_row (patterns_of (rows_of p)) each-zero k m) 0 some))
