-- The laws of `specs/Inner/Tables.antt` on cursors: the list of each variable of an accepted plan, and a cursor for each. No contract cites this file.
--     var_at-is                                 the variables of a plan are those of its patterns in order
--     Voiced, voiced, voiced-list              what the VOICE row of a variable gives
--     var-is, var-few                          the variable of a row, among those of the plan
--     Placing, placing-first, placing_as, placing-next, placing-done     cursors that are set one by one
-- Assumes nothing.
use Prim.Native.Nat.{ℕ, zero, suc, ◌+◌, ◌-◌, ◌<◌, ◌≤◌}
use native.Mathlib.Nat.{zero-add, add_assoc}
use native.Mathlib.Omega.{arith}
use mathlib.Core.Path.{◌≡◌, refl, sym, ap, ◌∙◌}
use mathlib.Core.Bool.{false}
use mathlib.Core.Logic.{⊎_elim}
use mathlib.Core.List.{List, [], ◌∷◌, ◌++◌, map}
use lib.ListN.{length, get_or, set, take, length-set, get_or-append}
use lib.Seq.{get_or-append-add, get_or-set_same, get_or-set_other}
use Rattle.seq.specs.Lists.{total, joined}
use Rattle.seq.proofs.Laws.Tests.{below_or}
use Rattle.volume.specs.Layout.{list_count}
use Rattle.plan.specs.declared.row.Kind.{Kind}
use Rattle.plan.specs.declared.row.Kind.TheVariants as kind
use Rattle.plan.specs.declared.outline.Outline.{Outline}
use Rattle.plan.specs.Limits.{most_vars}
use Rattle.plan.specs.Rows.{row_count, row_at, rows_of, form_wrong_at}
use Rattle.plan.specs.Patterns.{Pattern, no_row, patterns_of, vars_of}
use Rattle.plan.specs.Check.{Accepted, sizes}
use Rattle.plan.specs.Accepted.{pattern_at}
use Rattle.plan.proofs.Laws.Accepted.{given}
use Rattle.matcher.specs.declared.cursor.Cursor.{Cursor}
use Rattle.plan.specs.Inner.Outline.{vars_before, Outlines, Entry}
use Rattle.matcher.specs.Inner.Tables.{var_at, cursor_on, Placed, Cursors}
use Rattle.plan.proofs.Laws.Outline.{vars_before-first, vars_before-end, vars-within}

-- variable i of pattern k, among those of all patterns
joined_at_lem : (fs : List Pattern) (k i : ℕ) → k < length fs → i < length (get_or fs k no_row).vars → get_or (joined (map (λ (f : Pattern). f.vars) fs)) (total (λ (f : Pattern). length f.vars) (take k fs) + i) 0 ≡ get_or (get_or fs k no_row).vars i 0
unfolding joined total
joined_at_lem [] k i h l = absurd (let z : ⊥ = omega arith in z)
joined_at_lem (f ∷ fs) zero i h l =
    ap (λ (n : ℕ). get_or (f.vars ++ joined (map (λ (f : Pattern). f.vars) fs)) n 0) (zero-add i)
    ∙ get_or-append f.vars (joined (map (λ (f : Pattern). f.vars) fs)) 0 i l
joined_at_lem (f ∷ fs) (suc k) i h l =
    ap (λ (n : ℕ). get_or (f.vars ++ joined (map (λ (f : Pattern). f.vars) fs)) n 0) (add_assoc (length f.vars) (total (λ (f : Pattern). length f.vars) (take k fs)) i)
    ∙ get_or-append-add f.vars (joined (map (λ (f : Pattern). f.vars) fs)) (total (λ (f : Pattern). length f.vars) (take k fs) + i) 0
    ∙ joined_at_lem fs k i (omega arith) l

pub var_at-is : (p : List ℕ) (k i : ℕ) → k < (sizes p).patterns → i < length (pattern_at p k).vars → var_at p (vars_before p k + i) ≡ get_or (pattern_at p k).vars i 0
unfolding vars_of vars_before sizes
var_at-is p k i h l = joined_at_lem (patterns_of (rows_of p)) k i h l

-- what row `row` gives, the VOICE over `list` of a variable
pub record Voiced (v p : List ℕ) (row list : ℕ) : Type 0 where
  pub inside : row < row_count p
  pub formed : form_wrong_at p row ≡ false
  pub kind-is : (row_at p row).kind ≡ kind.Voice list
  pub there : list < list_count v

module _ (v p : List ℕ) (accepted : Accepted v p) (o : Outline) (h : o.pattern < (sizes p).patterns) where
  pub voiced : Outlines p o → (i : ℕ) → i < o.vars → Voiced v p (o.condition - o.vars + i) (get_or (pattern_at p o.pattern).vars i 0)
  voiced e i l =
      let g = given v p accepted in
      let n = e.vars_are in
      let inside : o.condition - o.vars + i < row_count p = let a = e.room in let b = e.last-is in let c = e.inside in omega arith in
      record {
        inside = inside;
        formed = g.formed (o.condition - o.vars + i) inside;
        kind-is = e.voices i l;
        there = ((g.well-made o.pattern h).lists i (omega arith)).1;
      }

  -- its list is that of variable first + i of the plan, one of at most `most_vars`
  module _ (e : Entry p o) (i : ℕ) (l : i < o.vars) where
    pub var-is : get_or (pattern_at p o.pattern).vars i 0 ≡ var_at p (o.first + i)
    var-is =
        let n = e.outlines.vars_are in
        sym (ap (λ (x : ℕ). var_at p (x + i)) e.first-is ∙ var_at-is p o.pattern i h (omega arith))

    pub var-few : o.first + i < most_vars
    var-few =
        let w = vars-within p o.pattern h in
        let f = e.first-is in
        let n = e.outlines.vars_are in
        let b = (given v p accepted).most-vars in
        omega arith

-- the list that a row is read to name is that list
named : Kind → ℕ
named (kind.Voice list) = list
named (kind.Condition c) = 0
named kind.End = 0
named (kind.Operator o) = 0

pub voiced-list : {v p : List ℕ} {row list : ℕ} → Voiced v p row list → (r : ℕ) → (row_at p row).kind ≡ kind.Voice r → r ≡ list
unfolding named
voiced-list w r e = ap named (sym e ∙ w.kind-is)

-- the cursors of the first x variables, in two buffers of n and m numbers
pub record Placing (v p : List ℕ) (d n m : ℕ) (ats ends : List ℕ) (x : ℕ) : Type 0 where
  pub same_ats : length ats ≡ n
  pub same_ends : length ends ≡ m
  pub placed : (y : ℕ) → y < x → Placed v p d y (get_or ats y 0) (get_or ends y 0)

module _ (v p : List ℕ) (d : ℕ) where
  pub placing-first : (ats ends : List ℕ) → Placing v p d (length ats) (length ends) ats ends (vars_before p 0)
  placing-first ats ends = let e = vars_before-first p in record { same_ats = refl; same_ends = refl; placed = λ y h. absurd (let z : ⊥ = omega arith in z) }

  pub placing_as : (n m x n' m' x' : ℕ) (ats ends : List ℕ) → Placing v p d n m ats ends x → n ≡ n' → m ≡ m' → x ≡ x' → Placing v p d n' m' ats ends x'
  placing_as n m x n' m' x' ats ends r a b c = rw (a, b, c) at r

  pub placing-next : (n m : ℕ) (ats ends : List ℕ) (x : ℕ) → Placing v p d n m ats ends x → x < n → x < m → (c : Cursor) → c ≡ cursor_on v (var_at p x) d → Placing v p d n m (set ats x c.at) (set ends x c.end) (x + 1)
  placing-next n m ats ends x r h l c e = record {
    same_ats = simp length-set r.same_ats;
    same_ends = simp length-set r.same_ends;
    placed = λ y b. ⊎_elim (earlier y) (λ (o : x ≤ y). let q : y ≡ x = omega arith in rw q here) (below_or y x);
  }
    where
      here : Placed v p d x (get_or (set ats x c.at) x 0) (get_or (set ends x c.end) x 0)
      here =
          let s = r.same_ats in
          let t = r.same_ends in
          rw (get_or-set_same ats x c.at 0 (omega arith), get_or-set_same ends x c.end 0 (omega arith))
          (record { at-is = ap (λ (y : Cursor). y.at) e; end_is = ap (λ (y : Cursor). y.end) e })

      earlier : (y : ℕ) → y < x → Placed v p d y (get_or (set ats x c.at) y 0) (get_or (set ends x c.end) y 0)
      earlier y b = rw (get_or-set_other ats x y c.at 0 (λ q. omega arith), get_or-set_other ends x y c.end 0 (λ q. omega arith)) (r.placed y b)

  pub placing-done : (n m : ℕ) (ats ends : List ℕ) (k : ℕ) → Placing v p d n m ats ends (vars_before p k) → k ≡ (sizes p).patterns → Cursors v p d ats ends
  placing-done n m ats ends k r e = λ x h. let q = ap (vars_before p) e ∙ vars_before-end p in r.placed x (omega arith)
