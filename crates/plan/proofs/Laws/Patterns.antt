-- The laws of `specs/Patterns.antt`: how the patterns and the answers of rows go with the state. No contract cites this file.
--     patterns-length, patterns-vars    the patterns that rows close and their variables, by the states at both ends
--     Passes, PassAll                   a row that passes every test where it stands; rows that all do
--     Fits, fits-none, fits_after       what holds of the open pattern; it does where none is open, and a row that passes keeps it
--     patterns-made                     the patterns that such rows close are well made
--     answers-length                    the answers behind such rows are as many as the state says
--     Bound, bound-initial, bound-after_all     how the numbers of a state bound each other behind such rows
-- Assumes nothing.
use Prim.Native.Nat.{ℕ, suc, ◌+◌, ◌-◌, ◌*◌, ◌<◌, ◌≤◌}
use native.Mathlib.Nat.{add-zero}
use native.Mathlib.Omega.{arith}
use mathlib.Core.Path.{◌≡◌, refl, sym, ap, ◌∙◌}
use mathlib.Core.Bool.{Bool, true, false, not, ◌&&◌, ◌||◌}
use mathlib.Core.Logic.{◌⊎◌, inl, inr, ⊎_elim, ◌≢◌}
use mathlib.Core.List.{List, [], ◌∷◌, ◌++◌}
use lib.ListN.{length, get_or, length-drop}
use lib.Dec.{eqb, ltb, leb}
use borrow.Author.Tests.{ltb-true, leb-false, eqb-false, lt-ltb}
use Rattle.seq.specs.Lists.{total}
use Rattle.seq.proofs.Laws.Tests.{both, both_true, neither}
use Rattle.seq.proofs.Laws.Decides.{eqb_decides, leb_decides, and_decides}
use Rattle.plan.specs.declared.row.Predicate.{Predicate}
use Rattle.plan.specs.declared.row.Predicate.TheVariants.{Distance, Ordered, Samepara, Window, Proximity}
use Rattle.plan.specs.declared.row.Operator.{Operator}
use Rattle.plan.specs.declared.row.Operator.TheVariants.{Both, Either, FirstNotSecond, AtLeast}
use Rattle.plan.specs.declared.row.Kind.{Kind}
use Rattle.plan.specs.declared.row.Kind.TheVariants as kind
use Rattle.plan.specs.declared.row.Row.{Row}
use Rattle.plan.specs.declared.state.State.{State}
use Rattle.plan.specs.Limits.{most_patterns, most_pattern_vars}
use Rattle.plan.specs.Rows.{InRange}
use Rattle.plan.specs.State.{initial, takes, after, after_all, names_below, list_wrong, too_many, order_wrong}
use Rattle.plan.specs.Patterns.{Pattern, no_row, open_after, closed, patterns_from, two, operate, answers_after, answers_from}
use Rattle.plan.specs.Accepted.{WellMade}
use Rattle.plan.proofs.Laws.State.{condition-stands, end-stands, operator-stands, takes-some}
use Rattle.seq.proofs.Laws.Lists.{length-snoc, Each, each_cons, each_snoc}

-- a row closes as many patterns as it adds to those of the state
closed-length : (s : State) (f : Pattern) (k : Kind) (fs : List Pattern) → s.patterns + length (closed f k ++ fs) ≡ (after s k).patterns + length fs
closed-length s f (kind.Voice list) fs = refl
closed-length s f (kind.Condition c) fs = refl
closed-length s f kind.End fs = omega arith
closed-length s f (kind.Operator o) fs = refl

pub patterns-length : (s : State) (f : Pattern) (rows : List Row) → (after_all s rows).patterns ≡ s.patterns + length (patterns_from f rows)
unfolding after_all patterns_from
patterns-length s f [] = omega arith
patterns-length s f (r ∷ rows) = patterns-length (after s r.kind) (open_after f r.kind) rows ∙ sym (closed-length s f r.kind (patterns_from (open_after f r.kind) rows))

-- the number of a pattern's variables
abbrev pub vars_of : Pattern → ℕ
vars_of f = length f.vars

-- the open pattern has as many variables as the state says
vars_of-after : (s : State) (f : Pattern) (k : Kind) → vars_of f ≡ s.vars → vars_of (open_after f k) ≡ (after s k).vars
vars_of-after s f (kind.Voice list) e = length-snoc f.vars list ∙ ap (λ (n : ℕ). n + 1) e
vars_of-after s f (kind.Condition c) e = e
vars_of-after s f kind.End e = refl
vars_of-after s f (kind.Operator o) e = e

-- one row in front of rows that close fs, behind which there are v variables in all and w of an open pattern
closed-vars : (s : State) (f : Pattern) (k : Kind) (fs : List Pattern) (v w : ℕ) → v + vars_of (open_after f k) ≡ (after s k).total + total vars_of fs + w → v + vars_of f ≡ s.total + total vars_of (closed f k ++ fs) + w
unfolding total
closed-vars s f (kind.Voice list) fs v w e = let l = length-snoc f.vars list in omega arith
closed-vars s f (kind.Condition c) fs v w e = e
closed-vars s f kind.End fs v w e = omega arith
closed-vars s f (kind.Operator o) fs v w e = e

pub patterns-vars : (s : State) (f : Pattern) (rows : List Row) → vars_of f ≡ s.vars → (after_all s rows).total + vars_of f ≡ s.total + total vars_of (patterns_from f rows) + (after_all s rows).vars
unfolding after_all patterns_from total
patterns-vars s f [] e = omega arith
patterns-vars s f (r ∷ rows) e =
    let s' = after s r.kind in
    let f' = open_after f r.kind in
    closed-vars s f r.kind (patterns_from f' rows) (after_all s' rows).total (after_all s' rows).vars (patterns-vars s' f' rows (vars_of-after s f r.kind e))

-- a row passes every test over t lists where the reading stands at s
pub record Passes (t : ℕ) (s : State) (k : Kind) : Type 0 where
  pub in-range : InRange k
  pub listed : list_wrong t k ≡ false
  pub few : too_many s k ≡ false
  pub ordered : order_wrong s k ≡ false

-- each of several rows does, where the reading stands at s in front of the first
unfoldable pub PassAll : ℕ → State → List Row → Type 0
PassAll t s [] = Unit
PassAll t s (r ∷ rows) = Passes t s r.kind × PassAll t (after s r.kind) rows

-- what a row that passes tells of its state
module _ (t : ℕ) (s : State) where
  voice-list : (list : ℕ) → Passes t s (kind.Voice list) → (1 ≤ list) × (list < t)
  voice-list list h =
      let w = neither (eqb list 0) (leb t list) h.listed in
      let a : list ≢ 0 = eqb-false list 0 w.0 in
      (omega arith, leb-false t list w.1)

  voice-few : (list : ℕ) → Passes t s (kind.Voice list) → (s.vars < most_pattern_vars) × (s.vars ≡ 0 → s.patterns < most_patterns)
  voice-few list h =
      let w = neither (leb most_pattern_vars s.vars) (eqb s.vars 0 && leb most_patterns s.patterns) h.few in
      let no = (and_decides (eqb_decides s.vars 0) (leb_decides most_patterns s.patterns)).no w.1 in
      (leb-false most_pattern_vars s.vars w.0, λ e. let n : most_patterns ≤ s.patterns → ⊥ = λ l. no (e, l) in omega arith)

  condition-names : (c : Predicate) → Passes t s (kind.Condition c) → names_below s.vars c ≡ true
  condition-names c h = (condition-stands s c h.ordered).1

  end-some : Passes t s kind.End → 1 ≤ s.vars
  end-some h = let n = end-stands s h.ordered in omega arith

  operator-some : (o : Operator) → Passes t s (kind.Operator o) → takes o ≤ s.answers
  operator-some o h = (operator-stands s o h.ordered).1

-- two names below n are below any m that is not less
two-below : (n m a b : ℕ) → n ≤ m → (ltb a n && ltb b n) ≡ true → (ltb a m && ltb b m) ≡ true
two-below n m a b l e =
    let w = both (ltb a n) (ltb b n) e in
    let x : a < n = ltb-true a n w.0 in
    let y : b < n = ltb-true b n w.1 in
    both_true (ltb a m) (ltb b m) (lt-ltb a m (omega arith)) (lt-ltb b m (omega arith))

names_below-le : (n m : ℕ) (c : Predicate) → n ≤ m → names_below n c ≡ true → names_below m c ≡ true
names_below-le n m (Distance a b limit) l e = two-below n m a b l e
names_below-le n m (Ordered a b) l e = two-below n m a b l e
names_below-le n m (Samepara a b) l e = two-below n m a b l e
names_below-le n m (Window limit) l e = refl
names_below-le n m (Proximity a b least most) l e = two-below n m a b l e

-- the open pattern f where the reading stands at s, over t lists: all that a pattern is held to, but that it has a variable
pub record Fits (t : ℕ) (s : State) (f : Pattern) : Type 0 where
  pub count : vars_of f ≡ s.vars
  pub most : s.vars ≤ most_pattern_vars
  pub lists : (i : ℕ) → i < vars_of f → (1 ≤ get_or f.vars i 0) × (get_or f.vars i 0 < t)
  pub names : (j : ℕ) → j < length f.predicates → names_below (vars_of f) (get_or f.predicates j (Window 1)) ≡ true
  pub ranges : (j : ℕ) → j < length f.predicates → InRange (kind.Condition (get_or f.predicates j (Window 1)))

pub fits-none : (t : ℕ) (s : State) → s.vars ≡ 0 → Fits t s no_row
fits-none t s e = record { count = sym e; most = omega arith; lists = λ i l. absurd (omega arith); names = λ j l. absurd (omega arith); ranges = λ j l. absurd (omega arith) }

fits-made : (t : ℕ) (s : State) (f : Pattern) → Fits t s f → 1 ≤ s.vars → WellMade t f
fits-made t s f h l = record { some-vars = omega arith; most-vars = omega arith; lists = h.lists; names = h.names; ranges = h.ranges }

-- a row that passes keeps it
fits_after : (t : ℕ) (s : State) (f : Pattern) (k : Kind) → Passes t s k → Fits t s f → Fits t (after s k) (open_after f k)
fits_after t s f (kind.Voice list) p h = record {
  count = vars_of-after s f (kind.Voice list) h.count;
  most = let w : s.vars < most_pattern_vars = (voice-few t s list p).0 in omega arith;
  lists = each_snoc (λ (n : ℕ). (1 ≤ n) × (n < t)) 0 list f.vars h.lists (voice-list t s list p);
  names = λ j l. let e = length-snoc f.vars list in names_below-le (vars_of f) (length (f.vars ++ (list ∷ []))) (get_or f.predicates j (Window 1)) (omega arith) (h.names j l);
  ranges = h.ranges;
}
fits_after t s f (kind.Condition c) p h = record {
  count = h.count;
  most = h.most;
  lists = h.lists;
  names = each_snoc (λ (x : Predicate). names_below (vars_of f) x ≡ true) (Window 1) c f.predicates h.names (rw h.count (condition-names t s c p));
  ranges = each_snoc (λ (x : Predicate). InRange (kind.Condition x)) (Window 1) c f.predicates h.ranges p.in-range;
}
fits_after t s f kind.End p h = fits-none t (after s kind.End) refl
fits_after t s f (kind.Operator o) p h = record { count = h.count; most = h.most; lists = h.lists; names = h.names; ranges = h.ranges }

-- a row that passes closes a pattern that is well made, in front of fs
closed-made : (t : ℕ) (s : State) (f : Pattern) (k : Kind) (fs : List Pattern) → Passes t s k → Fits t s f → Each (WellMade t) no_row fs → Each (WellMade t) no_row (closed f k ++ fs)
closed-made t s f (kind.Voice list) fs p h each = each
closed-made t s f (kind.Condition c) fs p h each = each
closed-made t s f kind.End fs p h each = each_cons (WellMade t) no_row f fs (fits-made t s f h (end-some t s p)) each
closed-made t s f (kind.Operator o) fs p h each = each

pub patterns-made : (t : ℕ) (s : State) (f : Pattern) (rows : List Row) → PassAll t s rows → Fits t s f → Each (WellMade t) no_row (patterns_from f rows)
unfolding PassAll patterns_from
patterns-made t s f [] p h = λ i l. absurd (omega arith)
patterns-made t s f (r ∷ rows) p h =
    closed-made t s f r.kind (patterns_from (open_after f r.kind) rows) p.0 h
    (patterns-made t (after s r.kind) (open_after f r.kind) rows p.1 (fits_after t s f r.kind p.0 h))

-- two answers become one
two-length : (g : Bool → Bool → Bool) (answers : List Bool) → 2 ≤ length answers → length (two g answers) ≡ length answers + 1 - 2
two-length g [] l = absurd (omega arith)
two-length g (second ∷ []) l = absurd (omega arith)
two-length g (second ∷ (first ∷ answers)) l = omega arith

pub operate-length : (o : Operator) (answers : List Bool) → takes o ≤ length answers → length (operate o answers) ≡ length answers + 1 - takes o
operate-length Both answers l = two-length (λ first second. first && second) answers l
operate-length Either answers l = two-length (λ first second. first || second) answers l
operate-length FirstNotSecond answers l = two-length (λ first second. first && not second) answers l
operate-length (AtLeast least of) answers l = let d = length-drop of answers in omega arith

answers_after-length : (found : Pattern → Bool) (t : ℕ) (s : State) (f : Pattern) (answers : List Bool) (k : Kind) → Passes t s k → length answers ≡ s.answers → length (answers_after found f answers k) ≡ (after s k).answers
answers_after-length found t s f answers (kind.Voice list) p e = e
answers_after-length found t s f answers (kind.Condition c) p e = e
answers_after-length found t s f answers kind.End p e = omega arith
answers_after-length found t s f answers (kind.Operator o) p e =
    let w : takes o ≤ s.answers = operator-some t s o p in
    operate-length o answers (omega arith) ∙ ap (λ (n : ℕ). n + 1 - takes o) e

pub answers-length : (found : Pattern → Bool) (t : ℕ) (s : State) (f : Pattern) (answers : List Bool) (rows : List Row) → PassAll t s rows → length answers ≡ s.answers → length (answers_from found f answers rows) ≡ (after_all s rows).answers
unfolding PassAll answers_from after_all
answers-length found t s f answers [] p e = e
answers-length found t s f answers (r ∷ rows) p e =
    answers-length found t (after s r.kind) (open_after f r.kind) (answers_after found f answers r.kind) rows p.1 (answers_after-length found t s f answers r.kind p.0 e)

-- how the numbers of a state bound each other behind i rows that pass
pub record Bound (i : ℕ) (s : State) : Type 0 where
  -- a variable and an END take a row each; where there are fewer answers than patterns, an operator has taken one
  pub rows : s.total + s.patterns ≤ i
  pub joined : s.answers < s.patterns → s.total + s.patterns + 1 ≤ i
  -- a pattern has at least one variable and at most eight
  pub few-vars : s.total ≤ most_pattern_vars * s.patterns + s.vars
  pub some-vars : s.patterns + s.vars ≤ s.total
  pub open-vars : s.vars ≤ most_pattern_vars
  -- eight patterns, the open one too
  pub few-patterns : s.patterns ≤ most_patterns
  pub open-patterns : (s.vars ≡ 0) ⊎ (s.patterns < most_patterns)
  -- an answer comes of a pattern
  pub few-answers : s.answers ≤ s.patterns

pub bound-initial : Bound 0 initial
bound-initial = record {
  rows = omega arith;
  joined = λ l. omega arith;
  few-vars = omega arith;
  some-vars = omega arith;
  open-vars = omega arith;
  few-patterns = omega arith;
  open-patterns = inl refl;
  few-answers = omega arith;
}

bound-after : (t i : ℕ) (s : State) (k : Kind) → Passes t s k → Bound i s → Bound (i + 1) (after s k)
bound-after t i s (kind.Voice list) p h =
    let w = voice-few t s list p in
    let y : s.patterns < most_patterns = ⊎_elim w.1 (λ z. z) h.open-patterns in
    record {
      rows = omega arith;
      joined = λ l. let j = h.joined l in omega arith;
      few-vars = omega arith;
      some-vars = omega arith;
      open-vars = omega (arith, w.0);
      few-patterns = omega arith;
      open-patterns = inr y;
      few-answers = omega arith;
    }
bound-after t i s (kind.Condition c) p h = record {
  rows = omega arith;
  joined = λ l. let j = h.joined l in omega arith;
  few-vars = h.few-vars;
  some-vars = h.some-vars;
  open-vars = h.open-vars;
  few-patterns = h.few-patterns;
  open-patterns = h.open-patterns;
  few-answers = h.few-answers;
}
bound-after t i s kind.End p h =
    let x : 1 ≤ s.vars = end-some t s p in
    let y : s.patterns < most_patterns = ⊎_elim (λ (z : s.vars ≡ 0). omega arith) (λ z. z) h.open-patterns in
    record {
      rows = omega arith;
      joined = λ l. let j = h.joined (omega arith) in omega arith;
      few-vars = omega arith;
      some-vars = omega arith;
      open-vars = omega arith;
      few-patterns = omega arith;
      open-patterns = inl refl;
      few-answers = omega arith;
    }
bound-after t i s (kind.Operator o) p h =
    let x : takes o ≤ s.answers = operator-some t s o p in
    let y = takes-some o p.in-range in
    record {
      rows = omega arith;
      joined = λ l. omega arith;
      few-vars = h.few-vars;
      some-vars = h.some-vars;
      open-vars = h.open-vars;
      few-patterns = h.few-patterns;
      open-patterns = h.open-patterns;
      few-answers = omega arith;
    }

pub bound-after_all : (t i : ℕ) (s : State) (rows : List Row) → PassAll t s rows → Bound i s → Bound (i + length rows) (after_all s rows)
unfolding PassAll after_all
bound-after_all t i s [] p h = rw add-zero h
bound-after_all t i s (r ∷ rows) p h =
    let e : i + 1 + length rows ≡ i + suc (length rows) = omega arith in
    rw e at (bound-after_all t (i + 1) (after s r.kind) rows p.1 (bound-after t i s r.kind p.0 h))
