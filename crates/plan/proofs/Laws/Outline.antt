-- The laws of `specs/Inner/Outline.antt`: the rows and the variables of each pattern of an accepted plan. No contract cites this file.
--     vars_before-first, vars_before-next, vars_before-end, vars-within     the variables in front of a pattern
--     last_row_lem, behind_voices-is                the rows of a pattern
--     entry-is                                 its entry in a table
--     Spanned, spanned                         its rows, from its span in words
--     EntryAt                                  the entry of a pattern in a table
--     Laid, laid-first, laid_next, laid_done   a table that is laid out entry by entry
--     Outlined, outlined                       the outline of a pattern, as it is read from a table
-- Assumes nothing.
use Prim.Native.Nat.{ℕ, zero, suc, ◌+◌, ◌-◌, ◌/◌, ◌<◌, ◌≤◌}
use native.Mathlib.Nat.{add-zero}
use native.Mathlib.Numerals.{add-one}
use native.Mathlib.Omega.{arith}
use mathlib.Core.Path.{◌≡◌, refl, sym, ap, ap₂, ◌∙◌}
use mathlib.Core.Bool.{Bool, true, false, not}
use mathlib.Core.Logic.{⊎_elim}
use mathlib.Core.List.{List, [], ◌∷◌, ◌++◌, map}
use lib.ListN.{length, get_or, set, take, length-append, length-map, length-set, get_or-append}
use lib.Seq.{take_all, take-suc, get_or-append-add, get_or-set_same, get_or-set_other}
use Rattle.seq.specs.Lists.{total}
use Rattle.seq.specs.Numbers.{first_from, run}
use Rattle.seq.proofs.Laws.Lists.{total-snoc}
use Rattle.seq.proofs.Laws.Numbers.{first_ge, first-at, first-before, length_run, get_or-run}
use Rattle.seq.proofs.Laws.Tests.{contrary, below_or}
use Rattle.volume.specs.Layout.{list_count}
use Rattle.plan.specs.declared.row.Predicate.{Predicate}
use Rattle.plan.specs.declared.row.Predicate.TheVariants.{Window}
use Rattle.plan.specs.declared.row.Kind.{Kind}
use Rattle.plan.specs.declared.row.Kind.TheVariants as kind
use Rattle.plan.specs.declared.row.Row.{Row}
use Rattle.plan.specs.declared.outline.Outline.{Outline}
use Rattle.plan.specs.declared.showing.Span.{Span}
use Rattle.plan.specs.Rows.{row_count, row_at, rows_of, is_voice}
use Rattle.plan.specs.Patterns.{Pattern, no_row, patterns_of}
use Rattle.plan.specs.Parts.{first_of, first_row, last_row, span_at, pattern_rows}
use Rattle.plan.specs.Check.{Accepted, sizes}
use Rattle.plan.specs.Accepted.{pattern_at}
use Rattle.plan.proofs.Laws.Passed.{Passed}
use Rattle.plan.proofs.Laws.Check.{verdict-passed}
use Rattle.plan.proofs.Laws.Rows.{rows_slice}
use Rattle.plan.proofs.Laws.Parts.{span-within, span-rises, part-rows}
use Rattle.plan.specs.Inner.Outline.{behind_voices, vars_before, no_outline, outline_at, Entry, Tabled}

-- the number of a pattern's variables, and of its predicates
abbrev var_count : Pattern → ℕ
var_count f = length f.vars

abbrev predicate_count : Pattern → ℕ
predicate_count f = length f.predicates

-- a sum over the front of a list is not above that over the list
total-take : {A : Type 0} (f : A → ℕ) (n : ℕ) (xs : List A) → total f (take n xs) ≤ total f xs
unfolding total
total-take f zero xs = omega arith
total-take f (suc n) [] = omega arith
total-take f (suc n) (x ∷ xs) = let l = total-take f n xs in omega arith

module _ (p : List ℕ) where
  pub vars_before-first : vars_before p 0 ≡ 0
  unfolding vars_before total
  vars_before-first = refl

  pub vars_before-next : (k : ℕ) → k < (sizes p).patterns → vars_before p (k + 1) ≡ vars_before p k + var_count (pattern_at p k)
  unfolding vars_before sizes
  vars_before-next k h =
      ap (λ (n : ℕ). total var_count (take n (patterns_of (rows_of p)))) (add-one k)
      ∙ ap (total var_count) (take-suc (patterns_of (rows_of p)) k no_row h)
      ∙ total-snoc var_count (take k (patterns_of (rows_of p))) (pattern_at p k)

  pub vars_before-end : vars_before p (sizes p).patterns ≡ (sizes p).vars
  unfolding vars_before sizes
  vars_before-end = ap (total var_count) (take_all (length (patterns_of (rows_of p))) (patterns_of (rows_of p)) (omega arith))

  pub vars-within : (k : ℕ) → k < (sizes p).patterns → vars_before p k + var_count (pattern_at p k) ≤ (sizes p).vars
  unfolding vars_before sizes
  vars-within k h = let e = vars_before-next k h in let l = total-take var_count (k + 1) (patterns_of (rows_of p)) in omega arith

get_d_map : {A B : Type 0} (g : A → B) (xs : List A) (i : ℕ) (d : A) (e : B) → i < length xs → get_or (map g xs) i e ≡ g (get_or xs i d)
get_d_map g [] i d e h = absurd (let z : ⊥ = omega arith in z)
get_d_map g (x ∷ xs) zero d e h = refl
get_d_map g (x ∷ xs) (suc i) d e h = get_d_map g xs i d e (omega arith)

-- the rows that say a pattern
abbrev voice : ℕ → Row
voice list = record { kind = kind.Voice list }

abbrev condition : Predicate → Row
condition c = record { kind = kind.Condition c }

abbrev end : Row
end = record { kind = kind.End }

module _ (f : Pattern) where
  front_length : length (map voice f.vars ++ map condition f.predicates) ≡ var_count f + predicate_count f
  front_length = length-append (map voice f.vars) (map condition f.predicates) ∙ ap₂ (λ (a b : ℕ). a + b) (length-map f.vars voice) (length-map f.predicates condition)

  rows-length : length (pattern_rows f) ≡ var_count f + predicate_count f + 1
  rows-length = length-append (map voice f.vars ++ map condition f.predicates) (end ∷ []) ∙ ap (λ (n : ℕ). n + 1) front_length

  -- row i of them, in front of END
  rows-front : (i : ℕ) → i < var_count f + predicate_count f → get_or (pattern_rows f) i end ≡ get_or (map voice f.vars ++ map condition f.predicates) i end
  rows-front i h = let e = front_length in get_or-append (map voice f.vars ++ map condition f.predicates) (end ∷ []) end i (omega arith)

  rows-voice : (i : ℕ) → i < var_count f → get_or (pattern_rows f) i end ≡ voice (get_or f.vars i 0)
  rows-voice i h =
      let e = length-map f.vars voice in
      rows-front i (omega arith)
      ∙ get_or-append (map voice f.vars) (map condition f.predicates) end i (omega arith)
      ∙ get_d_map voice f.vars i 0 end h

  rows-condition : (j : ℕ) → j < predicate_count f → get_or (pattern_rows f) (var_count f + j) end ≡ condition (get_or f.predicates j (Window 1))
  rows-condition j h =
      rows-front (var_count f + j) (omega arith)
      ∙ ap (λ (n : ℕ). get_or (map voice f.vars ++ map condition f.predicates) (n + j) end) (sym (length-map f.vars voice))
      ∙ get_or-append-add (map voice f.vars) (map condition f.predicates) j end
      ∙ get_d_map condition f.predicates j (Window 1) end h

  rows_end : get_or (pattern_rows f) (var_count f + predicate_count f) end ≡ end
  rows_end =
      ap (λ (n : ℕ). get_or (pattern_rows f) n end) (sym (add-zero (var_count f + predicate_count f)) ∙ ap (λ (n : ℕ). n + 0) (sym front_length))
      ∙ get_or-append-add (map voice f.vars ++ map condition f.predicates) (end ∷ []) 0 end

  -- the row behind the variables is no VOICE
  rows_behind : is_voice (get_or (pattern_rows f) (var_count f) end).kind ≡ false
  rows_behind = ⊎_elim some none (below_or 0 (predicate_count f))
    where
      some : 0 < predicate_count f → is_voice (get_or (pattern_rows f) (var_count f) end).kind ≡ false
      some h =
          ap (λ (n : ℕ). is_voice (get_or (pattern_rows f) n end).kind) (sym (add-zero (var_count f)))
          ∙ ap (λ (r : Row). is_voice r.kind) (rows-condition 0 h)

      none : predicate_count f ≤ 0 → is_voice (get_or (pattern_rows f) (var_count f) end).kind ≡ false
      none h =
          let n : var_count f ≡ var_count f + predicate_count f = omega arith in
          ap (λ (n : ℕ). is_voice (get_or (pattern_rows f) n end).kind) n ∙ ap (λ (r : Row). is_voice r.kind) rows_end

-- the only index at which a test holds with none before
first-is : (test : ℕ → Bool) (i n k : ℕ) → i ≤ k → k < n → test k ≡ true → ((j : ℕ) → i ≤ j → j < k → test j ≡ false) → first_from test i (n - i) ≡ k
first-is test i n k a b here before =
    ⊎_elim
    (λ (l : first_from test i (n - i) < k). absurd (contrary (first-at test i (n - i) (omega arith)) (before (first_from test i (n - i)) (first_ge test i (n - i)) l)))
    (λ (l : k ≤ first_from test i (n - i)). ⊎_elim
    (λ (m : k < first_from test i (n - i)). absurd (contrary here (first-before test i (n - i) k a m)))
    (λ (m : first_from test i (n - i) ≤ k). let q : first_from test i (n - i) ≡ k = omega arith in q)
    (below_or k (first_from test i (n - i))))
    (below_or (first_from test i (n - i)) k)

-- pattern k of an accepted plan
module _ (v p : List ℕ) (accepted : Accepted v p) (k : ℕ) (h : k < (sizes p).patterns) where
  passed : Passed (list_count v) p
  passed = verdict-passed v p (sizes p) accepted

  span-order : (first_row p k < last_row p k) × (last_row p k < row_count p)
  unfolding sizes
  span-order = (span-rises (list_count v) p passed k h, span-within (list_count v) p passed k h)

  rows_are : run (row_at p) (first_row p k) (last_row p k + 1 - first_row p k) ≡ pattern_rows (pattern_at p k)
  unfolding sizes
  rows_are =
      let s = span-order in
      sym (rows_slice (list_count v) p passed (first_row p k) (last_row p k + 1 - first_row p k) (omega arith)) ∙ part-rows (list_count v) p passed k h

  -- END stands behind the variables and the predicates
  last_row_lem : last_row p k ≡ first_row p k + var_count (pattern_at p k) + predicate_count (pattern_at p k)
  last_row_lem =
      let s = span-order in
      let a = length_run (row_at p) (first_row p k) (last_row p k + 1 - first_row p k) in
      let b = ap length rows_are in
      let c = rows-length (pattern_at p k) in
      omega arith

  row_is : (i : ℕ) → i ≤ var_count (pattern_at p k) + predicate_count (pattern_at p k) → row_at p (first_row p k + i) ≡ get_or (pattern_rows (pattern_at p k)) i end
  row_is i l =
      let e = last_row_lem in
      sym (get_or-run (row_at p) (first_row p k) (last_row p k + 1 - first_row p k) i end (omega arith)) ∙ ap (λ (rows : List Row). get_or rows i end) rows_are

  voice-row : (i : ℕ) → i < var_count (pattern_at p k) → (row_at p (first_row p k + i)).kind ≡ kind.Voice (get_or (pattern_at p k).vars i 0)
  voice-row i l = ap (λ (r : Row). r.kind) (row_is i (omega arith) ∙ rows-voice (pattern_at p k) i l)

  condition-row : (j : ℕ) → j < predicate_count (pattern_at p k) → (row_at p (first_row p k + (var_count (pattern_at p k) + j))).kind ≡ kind.Condition (get_or (pattern_at p k).predicates j (Window 1))
  condition-row j l = ap (λ (r : Row). r.kind) (row_is (var_count (pattern_at p k) + j) (omega arith) ∙ rows-condition (pattern_at p k) j l)

  behind_voices-is : behind_voices p (first_row p k) ≡ first_row p k + var_count (pattern_at p k)
  unfolding first_of
  behind_voices-is =
      let e = last_row_lem in
      let s = span-order in
      first-is (λ j. not (is_voice (row_at p j).kind)) (first_row p k) (row_count p) (first_row p k + var_count (pattern_at p k)) (omega arith) (omega arith)
      behind voices
    where
      behind : not (is_voice (row_at p (first_row p k + var_count (pattern_at p k))).kind) ≡ true
      behind = ap not (ap (λ (r : Row). is_voice r.kind) (row_is (var_count (pattern_at p k)) (omega arith)) ∙ rows_behind (pattern_at p k))

      voices : (j : ℕ) → first_row p k ≤ j → j < first_row p k + var_count (pattern_at p k) → not (is_voice (row_at p j).kind) ≡ false
      voices j a b =
          let i : j ≡ first_row p k + (j - first_row p k) = omega arith in
          ap (λ (n : ℕ). not (is_voice (row_at p n).kind)) i ∙ ap (λ (x : Kind). not (is_voice x)) (voice-row (j - first_row p k) (omega arith))

  entry-is : (first vars behind last : ℕ) → first ≡ vars_before p k → vars ≡ var_count (pattern_at p k) → behind ≡ first_row p k + var_count (pattern_at p k) → last ≡ last_row p k → Entry p (record { pattern = k; first = first; vars = vars; condition = behind; last = last })
  entry-is first vars behind last a b c d =
      let e = last_row_lem in
      let s = span-order in
      record {
        first-is = a;
        outlines = record {
          vars_are = b;
          room = omega arith;
          last-is = omega arith;
          inside = omega arith;
          voices = λ i l. let q : first_row p k + i ≡ (behind - vars) + i = omega arith in rw q at (voice-row i (omega arith));
          conditions = λ j l. let q : first_row p k + (var_count (pattern_at p k) + j) ≡ behind + j = omega arith in rw q at (condition-row j l);
        };
      }

-- the span of pattern k in rows, and the row behind its variables
pub record Spanned (p : List ℕ) (k start len behind : ℕ) : Type 0 where
  pub starts : start / 4 ≡ first_row p k
  pub ends : start / 4 + len / 4 - 1 ≡ last_row p k
  pub some : 1 ≤ len / 4
  pub behind-is : behind ≡ behind_voices p (start / 4)
  pub vars_are : behind ≡ start / 4 + var_count (pattern_at p k)
  pub order : behind ≤ last_row p k
  pub inside : last_row p k < row_count p

pub spanned : (v p : List ℕ) → Accepted v p → (k : ℕ) → k < (sizes p).patterns → (s : Span) (behind : ℕ) → s ≡ span_at p k → behind ≡ behind_voices p (s.start / 4) → Spanned p k s.start s.len behind
spanned v p accepted k h s behind e b =
    let a = ap (λ (x : Span). x.start) e in
    let l = ap (λ (x : Span). x.len) e in
    let o = span-order v p accepted k h in
    let n = last_row_lem v p accepted k h in
    let f : s.start / 4 ≡ first_row p k = omega arith in
    let q : behind ≡ first_row p k + var_count (pattern_at p k) = b ∙ ap (behind_voices p) f ∙ behind_voices-is v p accepted k h in
    record { starts = f; ends = omega arith; some = omega arith; behind-is = b; vars_are = omega arith; order = omega arith; inside = o.1 }

-- the entry of pattern k
abbrev pub EntryAt : List ℕ → List Outline → ℕ → Type 0
EntryAt p table k = Entry p (outline_at table k) × ((outline_at table k).pattern ≡ k)

-- the entries of the first k patterns, which have so many variables, in a table of n outlines
pub record Laid (p : List ℕ) (n : ℕ) (table : List Outline) (vars k : ℕ) : Type 0 where
  pub within : k ≤ (sizes p).patterns
  pub same : length table ≡ n
  pub vars_are : vars ≡ vars_before p k
  pub entries : (j : ℕ) → j < k → EntryAt p table j

pub laid-first : (p : List ℕ) (table : List Outline) → Laid p (length table) table 0 0
laid-first p table = record { within = omega arith; same = refl; vars_are = sym (vars_before-first p); entries = λ j h. absurd (let z : ⊥ = omega arith in z) }

-- one more entry
module _ (v p : List ℕ) (accepted : Accepted v p) (n : ℕ) (table : List Outline) (vars k start len behind : ℕ) where
  -- its outline, and the table with it
  abbrev outline : Outline
  outline = record { pattern = k; first = vars; vars = behind - start / 4; condition = behind; last = start / 4 + len / 4 - 1 }

  abbrev pub entered : List Outline
  entered = set table k outline

  module _ (r : Laid p n table vars k) (h : k < (sizes p).patterns) (l : (sizes p).patterns ≤ n) (t : Spanned p k start len behind) where
    entry_here : EntryAt p entered k
    entry_here =
        let s = r.same in
        rw (get_or-set_same table k outline no_outline (omega arith))
        (entry-is v p accepted k h vars (behind - start / 4) behind (start / 4 + len / 4 - 1) r.vars_are (omega arith) (omega arith) t.ends, refl)

    entry-before : (j : ℕ) → j < k → EntryAt p entered j
    entry-before j m = rw (get_or-set_other table k j outline no_outline (λ e. omega arith)) (r.entries j m)

    pub laid_next : Laid p n entered (vars + (behind - start / 4)) (k + 1)
    laid_next =
        record {
          within = omega arith;
          same = length-set table k outline ∙ r.same;
          vars_are = let e = r.vars_are in let m = vars_before-next p k h in omega arith;
          entries = λ j m. ⊎_elim (entry-before j) (λ (o : k ≤ j). let e : j ≡ k = omega arith in rw e entry_here) (below_or j k);
        }

pub laid_done : (p : List ℕ) (n : ℕ) (table : List Outline) (vars k : ℕ) → Laid p n table vars k → (sizes p).patterns ≤ k → Tabled p table
laid_done p n table vars k r h = λ j m. r.entries j (omega arith)

-- the outline of pattern k, as it is read from a table
pub record Outlined (p : List ℕ) (k : ℕ) (o : Outline) : Type 0 where
  pub entry : Entry p o
  pub pattern-is : o.pattern ≡ k
  pub there : o.pattern < (sizes p).patterns
  pub room : o.vars ≤ o.condition
  pub first-is : o.first ≡ vars_before p k
  pub vars_are : o.vars ≡ length (pattern_at p k).vars

pub outlined : {p : List ℕ} (table : List Outline) → Tabled p table → (k : ℕ) → k < (sizes p).patterns → {o : Outline} → o ≡ outline_at table k → Outlined p k o
outlined {p} table t k h e =
    let here = (t k h).0 in
    let same = (t k h).1 in
    rw e
    (record {
      entry = here;
      pattern-is = same;
      there = omega arith;
      room = here.outlines.room;
      first-is = rw same at here.first-is;
      vars_are = rw same at here.outlines.vars_are;
    })
