-- The postings passed, variable by variable. No contract cites this file.
--     length-vars, var-there     the variables of a plan, and the list of each
--     seek_on, counted           seeking on; the postings that a seek passes
--     Turn, turn                 a variable's cursor, and the postings that it passes
--     Tallied, tallied-first, tallied-next, tallied-done     the postings of the first variables
-- Assumes nothing.
use Prim.Native.Nat.{ℕ, suc, ◌+◌, ◌-◌, ◌*◌, ◌<◌, ◌≤◌}
use native.Mathlib.Numerals.{add-one}
use native.Mathlib.Omega.{arith}
use mathlib.Core.Path.{◌≡◌, refl, sym, ap, ◌∙◌}
use mathlib.Core.Logic.{⊎_elim}
use mathlib.Core.List.{List, [], ◌∷◌, ◌++◌, map}
use lib.ListN.{length, get_or, take, length-append, get_or-append}
use lib.Seq.{take_all, take-suc, get_or-append-add}
use Rattle.seq.specs.Lists.{total, joined}
use Rattle.seq.specs.Numbers.{run}
use Rattle.seq.proofs.Laws.Lists.{length-joined, total-snoc}
use Rattle.seq.proofs.Laws.Totals.{total-map}
use Rattle.seq.proofs.Laws.Tests.{below_or}
use Rattle.volume.specs.Layout.{word, list_count, count, start, lists_of}
use Rattle.volume.specs.Check as volume
use Rattle.volume.proofs.Laws.Check.{good}
use Rattle.plan.specs.Rows.{rows_of}
use Rattle.plan.specs.Patterns.{Pattern, no_row, patterns_of, vars_of}
use Rattle.plan.specs.Check.{Accepted, sizes}
use Rattle.plan.proofs.Laws.Accepted.{given}
use Rattle.fulltext.specs.Positions.{list_of, count_in}
use Rattle.fulltext.specs.Documents.{postings_in}
use Rattle.matcher.specs.Inner.Cursors.{seek_from, Stretch, list_end}
use Rattle.matcher.specs.Inner.Tables.{var_at, Cursors}
use Rattle.matcher.proofs.Laws.Cursors.{seek_ge, seek-le, seek-below, stretch-within, galloped-end}
use Rattle.fulltext.proofs.Laws.Counts.{count_index}
use Rattle.matcher.proofs.Laws.Volume.{list-is, list-stretch}

length-vars : (p : List ℕ) → length (vars_of (rows_of p)) ≡ (sizes p).vars
unfolding vars_of sizes
length-vars p = length-joined (map (λ (f : Pattern). f.vars) (patterns_of (rows_of p))) ∙ total-map length (λ (f : Pattern). f.vars) (patterns_of (rows_of p))

-- lists below t in each pattern are below t among all
joined-below : (t : ℕ) (fs : List Pattern) → ((k : ℕ) → k < length fs → (i : ℕ) → i < length (get_or fs k no_row).vars → get_or (get_or fs k no_row).vars i 0 < t) → (x : ℕ) → x < length (joined (map (λ (f : Pattern). f.vars) fs)) → get_or (joined (map (λ (f : Pattern). f.vars) fs)) x 0 < t
unfolding joined
joined-below t [] each x h = absurd (let z : ⊥ = omega arith in z)
joined-below t (f ∷ fs) each x h = ⊎_elim here (behind (joined-below t fs (λ k b. each (suc k) (omega arith)))) (below_or x (length f.vars))
  where
    rest : List ℕ
    rest = joined (map (λ (g : Pattern). g.vars) fs)

    here : x < length f.vars → get_or (f.vars ++ rest) x 0 < t
    here l = rw (get_or-append f.vars rest 0 x l) (each 0 (omega arith) x l)

    behind : ((y : ℕ) → y < length rest → get_or rest y 0 < t) → length f.vars ≤ x → get_or (f.vars ++ rest) x 0 < t
    behind later l =
        let y = x - length f.vars in
        let e : length f.vars + y ≡ x = omega arith in
        let n = length-append f.vars rest in
        rw (← e, get_or-append-add f.vars rest y 0) (later y (omega arith))

pub var-there : (v p : List ℕ) → Accepted v p → (x : ℕ) → x < (sizes p).vars → var_at p x < list_count v
unfolding vars_of sizes
var-there v p ok x h = let e = length-vars p in joined-below (list_count v) (patterns_of (rows_of p)) (λ k b i l. (((given v p ok).well-made k b).lists i l).1) x (omega arith)

-- seeking on from an index that was sought for less is seeking from the start
seek_on : (v : List ℕ) (t u i e : ℕ) → Stretch v i e → t ≤ u → seek_from v u (seek_from v t i e) e ≡ seek_from v u i e
seek_on v t u i e s h =
    galloped-end v u i e s (seek_from v t i e) (record { from = seek_ge v t i e; to = seek-le v t i e s.order; below = λ j a b. let w = seek-below v t i e j a b in omega arith })

-- a list's postings from document a up to document b lie between the indices that are sought for them
pub counted : (v : List ℕ) → volume.Accepted v → (l : ℕ) → l < list_count v → (a b : ℕ) → a ≤ b → count_in a b (list_of (lists_of v) l) + seek_from v (a * 65536) (start v l) (list_end v l) ≡ seek_from v (b * 65536) (start v l) (list_end v l)
unfolding seek_from
counted v ok l there a b h =
    let s = list-stretch v ok l there in
    let e : count v l ≡ list_end v l - start v l = omega arith in
    ap (λ (xs : List ℕ). count_in a b xs + seek_from v (a * 65536) (start v l) (list_end v l)) (list-is v ok l there ∙ ap (run (word v) (start v l)) e)
    ∙ count_index (word v) (start v l) (list_end v l) s.order s.rising a b h

-- a variable's cursor at index `at`: it may be sought on to document b, and passes as many postings as its list has there, which are few
pub record Turn (v p : List ℕ) (a b x at end : ℕ) : Type 0 where
  pub stretch : Stretch v at end
  pub passed : count_in a b (list_of (lists_of v) (var_at p x)) + at ≡ seek_from v (b * 65536) at end
  pub few : count_in a b (list_of (lists_of v) (var_at p x)) ≤ 1032192

pub turn : (v p : List ℕ) → Accepted v p → (a b : ℕ) → a ≤ b → (ats ends : List ℕ) → Cursors v p a ats ends → (x : ℕ) → x < (sizes p).vars → Turn v p a b x (get_or ats x 0) (get_or ends x 0)
turn v p ok a b h ats ends cursors x l =
    let g = (given v p ok).volume-accepted in
    let list = var_at p x in
    let there = var-there v p ok x l in
    let s = list-stretch v g list there in
    let from = seek_ge v (a * 65536) (start v list) (list_end v list) in
    let to = seek-le v (a * 65536) (start v list) (list_end v list) s.order in
    let n = counted v g list there a b h in
    rw ((cursors x l).at-is, (cursors x l).end_is) (record {
      stretch = stretch-within v (start v list) (list_end v list) (seek_from v (a * 65536) (start v list) (list_end v list)) (list_end v list) s from to (omega arith);
      passed = n ∙ sym (seek_on v (a * 65536) (b * 65536) (start v list) (list_end v list) s (omega arith));
      few = let last = seek-le v (b * 65536) (start v list) (list_end v list) s.order in let w = s.within in let m = (good v g).blocks-most in omega arith;
    })

-- the postings of the first x variables
pub record Tallied (v p : List ℕ) (a b sum x : ℕ) : Type 0 where
  pub most : x ≤ (sizes p).vars
  pub sum_is : sum ≡ total (λ l. count_in a b (list_of (lists_of v) l)) (take x (vars_of (rows_of p)))
  pub few : sum ≤ x * 1032192

module _ (v p : List ℕ) (a b : ℕ) where
  pub tallied-first : Tallied v p a b 0 0
  unfolding total
  tallied-first = record { most = omega arith; sum_is = refl; few = omega arith }

  pub tallied-next : (at end sum x r : ℕ) → Tallied v p a b sum x → x < (sizes p).vars → Turn v p a b x at end → r ≡ seek_from v (b * 65536) at end → Tallied v p a b (sum + (r - at)) (x + 1)
  tallied-next at end sum x r t h turned e =
      let f : ℕ → ℕ = λ l. count_in a b (list_of (lists_of v) l) in
      let q = turned.passed in
      let k = turned.few in
      let m = t.few in
      let s = t.sum_is in
      let n = ap (λ (i : ℕ). total f (take i (vars_of (rows_of p)))) (add-one x) ∙ ap (total f) (take-suc (vars_of (rows_of p)) x 0 (let z = length-vars p in omega arith)) ∙ total-snoc f (take x (vars_of (rows_of p))) (var_at p x) in
      record { most = omega arith; sum_is = omega arith; few = omega arith }

  pub tallied-done : (sum x : ℕ) → Tallied v p a b sum x → (sizes p).vars ≤ x → sum ≡ postings_in (lists_of v) (rows_of p) a b
  unfolding postings_in
  tallied-done sum x t h =
      t.sum_is ∙ ap (total (λ l. count_in a b (list_of (lists_of v) l))) (take_all x (vars_of (rows_of p)) (let z = length-vars p in omega arith))
