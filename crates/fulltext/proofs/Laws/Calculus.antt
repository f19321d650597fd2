-- Demand 2: the tests that compute and the calculus agree. No contract cites this file.
--     predicate_decides, predicates_decide     the test of a predicate, and of several, decides the formula
--     tokens_iff                   the variables' formulas are true exactly if their lists hold their positions
--     tuple_iff                    a tuple matches a pattern exactly if the open formula is true of it
--     bound_iff                    n variables bound: there are positions for them
--     pattern_iff                  a pattern is found exactly if its formula is true
--     Tells                        answers and formulas, each answer deciding its formula
--     rows_tell                    so are those behind rows, where each pattern that the rows close is found exactly if its formula is true
--     agrees                       an accepted volume and plan
-- Assumes nothing.
use Prim.Native.Nat.{ℕ, zero, suc, ◌+◌, ◌<◌, ◌≤◌}
use native.Mathlib.Nat.{add-zero, zero-add}
use native.Mathlib.Omega.{arith}
use mathlib.Core.Path.{◌≡◌, refl, ap}
use mathlib.Core.Bool.{Bool, true, false, not, ◌&&◌, ◌||◌, true≢false}
use mathlib.Core.Logic.{inl, inr, ⊎_elim, ◌↔◌}
use mathlib.Core.List.{List, [], ◌∷◌, ◌++◌, append-nil, append_assoc}
use lib.ListN.{length, get_or, take, drop, get_or-eq_default}
use lib.Dec.{leb}
use borrow.Author.Tests.{leb-true, leb-false, le-leb, lt-leb}
use Rattle.seq.specs.Lists.{keep, all, rises}
use Rattle.seq.proofs.Laws.Tests.{both, both_true, below_or, contrary}
use Rattle.seq.proofs.Laws.Decides as decides
use Rattle.seq.proofs.Laws.Decides.{Decides, and_decides, or_decides, not_decides, same_decides, iff_decides}
use Rattle.seq.proofs.Laws.Lists.{Each}
use Rattle.volume.specs.Layout.{lists_of}
use Rattle.plan.specs.declared.row.Predicate.{Predicate}
use Rattle.plan.specs.declared.row.Predicate.TheVariants.{Distance, Ordered, Samepara, Window, Proximity}
use Rattle.plan.specs.declared.row.Operator.{Operator}
use Rattle.plan.specs.declared.row.Operator.TheVariants.{Both, Either, FirstNotSecond, AtLeast}
use Rattle.plan.specs.declared.row.Kind.{Kind}
use Rattle.plan.specs.declared.row.Kind.TheVariants as kind
use Rattle.plan.specs.declared.row.Row.{Row}
use Rattle.plan.specs.Rows.{rows_of}
use Rattle.plan.specs.Patterns.{Pattern, no_row, open_after, closed, patterns_from, patterns_of, two, yeses, operate, answers_after, answers_from}
use Rattle.plan.specs.Check as plan
use Rattle.plan.specs.Accepted.{pattern_at}
use Rattle.plan.proofs.Laws.Accepted.{given}
use Rattle.fulltext.specs.Positions.{list_of}
use Rattle.fulltext.specs.Calculus.{Formula, truth, conj, disj, neg, at, In, Holds, HasPos, Starts, InPara, OnePara, True, each, tokens, predicate_of, predicates_of, open_formula, bound, pattern_formula, join_two, at_least, join, formulas_after, formulas_from, plan_formula}
use Rattle.fulltext.specs.Matches.{holds, all_hold, fits, starts_in, vars_in, matches_at}
use Rattle.fulltext.specs.Documents.{found, matching}
use Rattle.fulltext.specs.Demands.{Agrees}
use Rattle.fulltext.proofs.Laws.Positions.{in-none, in-positions, positions_in_lem, lists-rise}
use Rattle.fulltext.proofs.Laws.Needs.{Begun, Together, holds_decides}
use Rattle.fulltext.proofs.Laws.Least.{fits_iff, found_iff}

module _ (lists : List (List ℕ)) (d : ℕ) where
  -- a start of the document, in its list of starts
  starts_in_lem : (s : ℕ) → Starts lists d s → In s (starts_in lists d)
  starts_in_lem s = in-positions d s (list_of lists 0)

  in-starts : (s : ℕ) → In s (starts_in lists d) → Starts lists d s
  in-starts s = positions_in_lem d s (list_of lists 0)

  begun : (p : ℕ) → Begun (starts_in lists d) p → InPara lists d p
  begun p w = (w.0, in-starts w.0 w.1, w.2)

  in_para_lem : (p : ℕ) → InPara lists d p → Begun (starts_in lists d) p
  in_para_lem p w = (w.0, starts_in_lem w.0 w.1, w.2)

  -- two positions in one paragraph, by the starts of the volume's list 0 and by those of the document
  same_para : (p q : ℕ) → Together (starts_in lists d) p q → OnePara lists d p q
  same_para p q h = (
    (begun p h.0.0, begun q h.0.1),
    (
      λ s i l k. omega (arith, (h.1 s (starts_in_lem s i)).1 k),
      λ s i l k. omega (arith, (h.1 s (starts_in_lem s i)).0 k),
    ),
  )

  together : (p q : ℕ) → OnePara lists d p q → Together (starts_in lists d) p q
  together p q h = (
    (in_para_lem p h.0.0, in_para_lem q h.0.1),
    λ s i. (
      λ k. ⊎_elim (λ (l : q < s). absurd (h.1.1 s (in-starts s i) l k)) (λ l. l) (below_or q s),
      λ k. ⊎_elim (λ (l : p < s). absurd (h.1.0 s (in-starts s i) l k)) (λ l. l) (below_or p s),
    ),
  )

  predicate_decides : (c : Predicate) (ps : List ℕ) → Decides (holds (starts_in lists d) c ps) (True lists d (predicate_of (length ps) c) ps)
  predicate_decides (Distance a b c) ps = holds_decides (starts_in lists d) (Distance a b c) ps
  predicate_decides (Ordered a b) ps = holds_decides (starts_in lists d) (Ordered a b) ps
  predicate_decides (Samepara a b) ps = same_decides (holds_decides (starts_in lists d) (Samepara a b) ps) (same_para (at ps a) (at ps b)) (together (at ps a) (at ps b))
  predicate_decides (Window c) ps = holds_decides (starts_in lists d) (Window c) ps
  predicate_decides (Proximity a b least most) ps = holds_decides (starts_in lists d) (Proximity a b least most) ps

  predicates_decide : (cs : List Predicate) (ps : List ℕ) → Decides (all_hold (starts_in lists d) cs ps) (True lists d (each (predicates_of (length ps) cs)) ps)
  unfolding all
  predicates_decide [] ps = record { yes = λ e. tt; no = λ e h. true≢false e }
  predicates_decide (c ∷ cs) ps = and_decides (predicate_decides c ps) (predicates_decide cs ps)

  -- a position of a list that is not list 0 is a position of the document
  has-pos : (p l : ℕ) → 1 ≤ l → Holds d p (list_of lists l) → HasPos lists d p
  has-pos p l h k = (l, h, ⊎_elim (λ (i : l < length lists). i) (λ (o : length lists ≤ l). absurd (in-none _ (rw (get_or-eq_default lists [] o) at k.1))) (below_or l (length lists)), k)

  -- each variable's list from x on holds the position of its variable
  abbrev HeldFrom : ℕ → List ℕ → List ℕ → Type 0
  HeldFrom x vars ps = (i : ℕ) → i < length vars → Holds d (at ps (x + i)) (list_of lists (get_or vars i 0))

  held_next : (x l : ℕ) (vars ps : List ℕ) → Holds d (at ps x) (list_of lists l) → HeldFrom (suc x) vars ps → HeldFrom x (l ∷ vars) ps
  held_next x l vars ps h rest zero k = rw (add-zero x) h
  held_next x l vars ps h rest (suc i) k = let e : x + suc i ≡ suc x + i = omega arith in rw e (rest i (omega arith))

  held-rest : (x l : ℕ) (vars ps : List ℕ) → HeldFrom x (l ∷ vars) ps → HeldFrom (suc x) vars ps
  held-rest x l vars ps h i k = let e : suc x + i ≡ x + suc i = omega arith in rw e (h (suc i) (omega arith))

  tokens_iff : (x : ℕ) (vars ps : List ℕ) → Each (λ l. 1 ≤ l) 0 vars → True lists d (each (tokens x vars)) ps ↔ HeldFrom x vars ps
  tokens_iff x [] ps some = (λ h i l. absurd (omega arith), λ h. tt)
  tokens_iff x (l ∷ vars) ps some =
      let rest = tokens_iff (suc x) vars ps (λ i k. some (suc i) (omega arith)) in (
        λ h. held_next x l vars ps h.0.1 (rest.0 h.1),
        λ h. let here = rw (add-zero x) at (h 0 (omega arith)) in ((has-pos (at ps x) l (some 0 (omega arith)) here, here), rest.1 (held-rest x l vars ps h)),
      )

  tuple_iff : (f : Pattern) → Each (λ l. 1 ≤ l) 0 f.vars → (ps : List ℕ) → (matches_at lists d f ps ≡ true) ↔ ((length ps ≡ length f.vars) × True lists d (open_formula f) ps)
  tuple_iff f some ps = (opens, matches)
    where
      held : (fits (vars_in lists d f.vars) ps ≡ true) ↔ ((length ps ≡ length f.vars) × ((x : ℕ) → x < length f.vars → Holds d (at ps x) (list_of lists (get_or f.vars x 0))))
      held = fits_iff lists d f.vars ps

      here : True lists d (each (tokens 0 f.vars)) ps ↔ HeldFrom 0 f.vars ps
      here = tokens_iff 0 f.vars ps some

      all_hold_lem : Decides (all_hold (starts_in lists d) f.predicates ps) (True lists d (each (predicates_of (length ps) f.predicates)) ps)
      all_hold_lem = predicates_decide f.predicates ps

      opens : matches_at lists d f ps ≡ true → (length ps ≡ length f.vars) × True lists d (open_formula f) ps
      opens m =
          let w = both (fits (vars_in lists d f.vars) ps) (all_hold (starts_in lists d) f.predicates ps) m in
          let h = held.0 w.0 in
          (h.0, (here.1 (λ i k. rw (zero-add i) (h.1 i k)), rw h.0 at (all_hold_lem.yes w.1)))

      matches : (length ps ≡ length f.vars) × True lists d (open_formula f) ps → matches_at lists d f ps ≡ true
      matches h =
          both_true (fits (vars_in lists d f.vars) ps) (all_hold (starts_in lists d) f.predicates ps)
          (held.1 (h.0, λ i k. rw (zero-add i) at (here.0 h.1.0 i k)))
          (decides.holds all_hold_lem (rw h.0 h.1.1))

  bound_iff : (n : ℕ) (f : Formula) (env : List ℕ) → True lists d (bound n f) env ↔ ((ps : List ℕ) × (length ps ≡ n) × True lists d f (env ++ ps))
  bound_iff zero f env = (λ h. ([], refl, rw append-nil h), λ w. none w.0 w.1 w.2)
    where
      none : (ps : List ℕ) → length ps ≡ 0 → True lists d f (env ++ ps) → True lists d f env
      none [] e h = rw append-nil at h
      none (p ∷ ps) e h = absurd (omega arith)
  bound_iff (suc n) f env = (
    λ h. let w = (bound_iff n f (env ++ (h.0 ∷ []))).0 h.1 in (h.0 ∷ w.0, ap suc w.1, rw (append_assoc env (h.0 ∷ []) w.0) at w.2),
    λ w. some (λ p. (bound_iff n f (env ++ (p ∷ []))).1) w.0 w.1 w.2,
  )
    where
      some : ((p : ℕ) → ((ps : List ℕ) × (length ps ≡ n) × True lists d f ((env ++ (p ∷ [])) ++ ps)) → True lists d (bound n f) (env ++ (p ∷ [])))
          → (ps : List ℕ) → length ps ≡ suc n → True lists d f (env ++ ps) → (p : ℕ) × True lists d (bound n f) (env ++ (p ∷ []))
      some rest [] e h = absurd (omega arith)
      some rest (p ∷ ps) e h = (p, rest p (ps, omega arith, rw (append_assoc env (p ∷ []) ps) h))

  pattern_iff : ((l : ℕ) → rises (list_of lists l) ≡ true) → (f : Pattern) → Each (λ l. 1 ≤ l) 0 f.vars → (found lists d f ≡ true) ↔ True lists d (pattern_formula f) []
  pattern_iff up f some =
      let b = bound_iff (length f.vars) (open_formula f) [] in
      let t = found_iff lists up d f in (
        λ e. let m = t.0 e in let w = (tuple_iff f some m.0).0 m.1 in b.1 (m.0, w.0, w.1),
        λ h. let w = b.0 h in t.1 (w.0, (tuple_iff f some w.0).1 (w.1, w.2)),
      )

  -- a pattern is found exactly if its formula is true
  abbrev Sound : Pattern → Type 0
  Sound f = Decides (found lists d f) (True lists d (pattern_formula f) [])

  -- answers and formulas: as many, and each answer decides its formula
  abbrev Tells : List Bool → List Formula → Type 0
  Tells [] [] = Unit
  Tells [] (f ∷ fs) = ⊥
  Tells (b ∷ bs) [] = ⊥
  Tells (b ∷ bs) (f ∷ fs) = Decides b (True lists d f []) × Tells bs fs

  two_tell : (g : Bool → Bool → Bool) (op : Formula → Formula → Formula)
      → ((a b : Bool) (e f : Formula) → Decides a (True lists d e []) → Decides b (True lists d f []) → Decides (g a b) (True lists d (op e f) []))
      → (bs : List Bool) (fs : List Formula) → Tells bs fs → Tells (two g bs) (join_two op fs)
  two_tell g op keeps [] [] t = tt
  two_tell g op keeps [] (f ∷ fs) t = absurd t
  two_tell g op keeps (b ∷ bs) [] t = absurd t
  two_tell g op keeps (b ∷ []) (f ∷ []) t = tt
  two_tell g op keeps (b ∷ []) (f ∷ (e ∷ fs)) t = absurd t.1
  two_tell g op keeps (b ∷ (a ∷ bs)) (f ∷ []) t = absurd t.1
  two_tell g op keeps (b ∷ (a ∷ bs)) (f ∷ (e ∷ fs)) t = (keeps a b e f t.1.0 t.0, t.1.1)

  -- the first ones of both, and the others
  take_tell : (n : ℕ) (bs : List Bool) (fs : List Formula) → Tells bs fs → Tells (take n bs) (take n fs)
  take_tell zero bs fs t = tt
  take_tell (suc n) [] [] t = tt
  take_tell (suc n) [] (f ∷ fs) t = absurd t
  take_tell (suc n) (b ∷ bs) [] t = absurd t
  take_tell (suc n) (b ∷ bs) (f ∷ fs) t = (t.0, take_tell n bs fs t.1)

  drop_tell : (n : ℕ) (bs : List Bool) (fs : List Formula) → Tells bs fs → Tells (drop n bs) (drop n fs)
  drop_tell zero bs fs t = t
  drop_tell (suc n) [] [] t = tt
  drop_tell (suc n) [] (f ∷ fs) t = absurd t
  drop_tell (suc n) (b ∷ bs) [] t = absurd t
  drop_tell (suc n) (b ∷ bs) (f ∷ fs) t = drop_tell n bs fs t.1

  -- n or more answers are yes exactly if n or more formulas are true
  count_decides : (n : ℕ) (bs : List Bool) (fs : List Formula) → Tells bs fs → Decides (leb n (yeses bs)) (True lists d (at_least n fs) [])
  unfolding yeses keep
  count_decides zero bs fs t = record { yes = λ e. tt; no = λ e x. contrary (le-leb 0 (yeses bs) (omega arith)) e }
  count_decides (suc n) [] [] t = record {
    yes = λ e. absurd (let l = leb-true (suc n) 0 e in let z : ⊥ = omega arith in z);
    no = λ e x. x tt;
  }
  count_decides (suc n) [] (f ∷ fs) t = absurd t
  count_decides (suc n) (b ∷ bs) [] t = absurd t
  count_decides (suc n) (true ∷ bs) (f ∷ fs) t =
      let fewer = count_decides n bs fs t.1 in
      let same = count_decides (suc n) bs fs t.1 in
      record {
        yes = λ e. inl (t.0.yes refl, fewer.yes (le-leb n (yeses bs) (let l = leb-true (suc n) (suc (yeses bs)) e in omega arith)));
        no = λ e.
            let l = leb-false (suc n) (suc (yeses bs)) e in
            ⊎_elim (λ x. fewer.no (lt-leb n (yeses bs) (omega arith)) x.1) (λ x. same.no (lt-leb (suc n) (yeses bs) (omega arith)) x);
      }
  count_decides (suc n) (false ∷ bs) (f ∷ fs) t =
      let same = count_decides (suc n) bs fs t.1 in
      record { yes = λ e. inr (same.yes e); no = λ e. ⊎_elim (λ x. t.0.no refl x.0) (λ x. same.no e x) }

  operate_tell : (o : Operator) (bs : List Bool) (fs : List Formula) → Tells bs fs → Tells (operate o bs) (join o fs)
  operate_tell Both bs fs t = two_tell (λ first second. first && second) (λ first second. conj first second) (λ a b e f x y. and_decides x y) bs fs t
  operate_tell Either bs fs t = two_tell (λ first second. first || second) (λ first second. disj first second) (λ a b e f x y. or_decides x y) bs fs t
  operate_tell FirstNotSecond bs fs t = two_tell (λ first second. first && not second) (λ first second. conj first (neg second)) (λ a b e f x y. and_decides x (not_decides y)) bs fs t
  operate_tell (AtLeast least of) bs fs t = (count_decides least (take of bs) (take of fs) (take_tell of bs fs t), drop_tell of bs fs t)

  -- one row in front of rows that close these patterns
  row_tells : (f : Pattern) (k : Kind) (rest : List Pattern) → Each Sound no_row (closed f k ++ rest) → (bs : List Bool) (fs : List Formula) → Tells bs fs
      → Tells (answers_after (found lists d) f bs k) (formulas_after f fs k) × Each Sound no_row rest
  row_tells f (kind.Voice list) rest sound bs fs t = (t, sound)
  row_tells f (kind.Condition c) rest sound bs fs t = (t, sound)
  row_tells f kind.End rest sound bs fs t = ((sound 0 (omega arith), t), λ i l. sound (suc i) (omega arith))
  row_tells f (kind.Operator o) rest sound bs fs t = (operate_tell o bs fs t, sound)

  rows_tell : (f : Pattern) (rows : List Row) → Each Sound no_row (patterns_from f rows) → (bs : List Bool) (fs : List Formula) → Tells bs fs → Tells (answers_from (found lists d) f bs rows) (formulas_from f fs rows)
  unfolding patterns_from answers_from formulas_from
  rows_tell f [] sound bs fs t = t
  rows_tell f (r ∷ rows) sound bs fs t =
      let w = row_tells f r.kind (patterns_from (open_after f r.kind) rows) sound bs fs t in
      rows_tell (open_after f r.kind) rows w.1 (answers_after (found lists d) f bs r.kind) (formulas_after f fs r.kind) w.0

  -- where there is an answer, the first
  first_tells : (bs : List Bool) (fs : List Formula) → length bs ≡ 1 → Tells bs fs → Decides (get_or bs 0 false) (True lists d (get_or fs 0 truth) [])
  first_tells [] fs e t = absurd (omega arith)
  first_tells (b ∷ bs) [] e t = absurd t
  first_tells (b ∷ bs) (f ∷ fs) e t = t.0

  plan_decides : (rows : List Row) → Each Sound no_row (patterns_from no_row rows) → length (answers_from (found lists d) no_row [] rows) ≡ 1 → Decides (matching lists rows d) (True lists d (plan_formula rows) [])
  unfolding matching plan_formula
  plan_decides rows sound one = first_tells (answers_from (found lists d) no_row [] rows) (formulas_from no_row [] rows) one (rows_tell no_row rows sound [] [] tt)

pub agrees : (v p : List ℕ) → plan.Accepted v p → Agrees v p
unfolding plan.sizes
agrees v p ok = record {
  tuples = λ k d ps. tuple_iff (lists_of v) d (pattern_at p k) (some k) ps;
  patterns = pattern;
  documents = λ d. let w = plan_decides (lists_of v) d (rows_of p) (λ k h. iff_decides (pattern k d)) ((given v p ok).one_answer (found (lists_of v) d)) in (w.yes, decides.holds w);
}
  where
    -- a pattern that is not there has no variables
    some : (k : ℕ) → Each (λ l. 1 ≤ l) 0 (pattern_at p k).vars
    some k i l =
        ⊎_elim (λ h. (((given v p ok).well-made k h).lists i l).0)
        (λ h. let z : i < 0 = rw (get_or-eq_default (patterns_of (rows_of p)) no_row h) at l in absurd (omega arith))
        (below_or k (plan.sizes p).patterns)

    pattern : (k d : ℕ) → (found (lists_of v) d (pattern_at p k) ≡ true) ↔ True (lists_of v) d (pattern_formula (pattern_at p k)) []
    pattern k d = pattern_iff (lists_of v) d (lists-rise v (given v p ok).volume-accepted) (pattern_at p k) (some k)
