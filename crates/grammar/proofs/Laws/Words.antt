-- The words of rows, and the rows that they are read as. No contract cites this file.
--     words-four, plan-length    a row has four words
--     rows_words                 the words of rows are read as these rows, where each row is packed
--     line_packed                the rows of a line of the grammar are
--     line-truth                 a document is true of the words that a line gives exactly if it is true of the line on its own
-- Assumes nothing.
use Prim.Native.Nat.{ℕ, suc, ◌+◌, ◌-◌, ◌*◌, ◌/◌, ◌%◌, ◌<◌, ◌≤◌}
use native.Mathlib.Omega.{arith}
use mathlib.Core.Path.{◌≡◌, refl, ap, ap₂, ◌∙◌}
use mathlib.Core.List.{List, [], ◌∷◌, ◌++◌, map}
use lib.ListN.{length, get_or, length-append}
use lib.Seq.{get_or-append-add}
use Rattle.seq.specs.Lists.{keep, joined}
use Rattle.seq.specs.Numbers.{run}
use Rattle.seq.proofs.Laws.Keep.{keep_ext}
use Rattle.seq.proofs.Laws.Numbers.{run_ext}
use Rattle.volume.specs.Layout.{lists_of}
use Rattle.plan.specs.declared.row.Kind.{Kind}
use Rattle.plan.specs.declared.row.Kind.TheVariants as kind
use Rattle.plan.specs.declared.row.Predicate.TheVariants.{Distance, Ordered, Samepara, Window, Proximity}
use Rattle.plan.specs.declared.row.Operator.{Operator}
use Rattle.plan.specs.declared.row.Operator.TheVariants.{Both, Either, FirstNotSecond, AtLeast}
use Rattle.plan.specs.declared.row.Row.{Row}
use Rattle.plan.specs.Limits.{least_unit}
use Rattle.plan.specs.Parts.{pattern_rows}
use Rattle.plan.specs.Rows.{row_at, row_of, rows_of, kind_of, words_of, plan_of}
use Rattle.fulltext.specs.Documents.{work_of, work, matching, docs_in}
use Rattle.grammar.specs.Grammar as g
use Rattle.grammar.specs.Grammar.{Word, Condition, Figure, Line, Part, Item, Lines, arity, line_count, ConditionFits, FigureFits}
use Rattle.grammar.specs.Grammar.{Fits, PartFits, ItemFits, LinesFit, no_condition}
use Rattle.grammar.specs.Demands.{Meant}
use Rattle.grammar.specs.Meaning.{predicate_by, predicate_of, pattern_of, operator_of, operator_row, line_rows, part_rows, item_rows}
use Rattle.grammar.specs.Meaning.{lines_rows, line_true}
use Rattle.grammar.proofs.Laws.Query.{voice, condition, end, meaning}

-- four words of a row
pub words-four : (k : Kind) → words_of k ≡ get_or (words_of k) 0 0 ∷ get_or (words_of k) 1 0 ∷ get_or (words_of k) 2 0 ∷ get_or (words_of k) 3 0 ∷ []
words-four (kind.Voice l) = refl
words-four (kind.Condition (Distance a b c)) = refl
words-four (kind.Condition (Ordered a b)) = refl
words-four (kind.Condition (Samepara a b)) = refl
words-four (kind.Condition (Window c)) = refl
words-four (kind.Condition (Proximity a b least most)) = refl
words-four kind.End = refl
words-four (kind.Operator Both) = refl
words-four (kind.Operator Either) = refl
words-four (kind.Operator FirstNotSecond) = refl
words-four (kind.Operator (AtLeast least of)) = refl

-- rows have four words each
pub plan-length : (rs : List Row) → length (plan_of rs) ≡ 4 * length rs
unfolding joined
plan-length [] = refl
plan-length (r ∷ rs) =
    let e = length-append (words_of r.kind) (plan_of rs) in
    let f = ap length (words-four r.kind) in
    let g = plan-length rs in
    omega arith

-- the most of APART leaves its least to be read from the same word
abbrev Packed : Kind → Type 0
Packed (kind.Voice l) = Unit
Packed (kind.Condition (Distance a b c)) = Unit
Packed (kind.Condition (Ordered a b)) = Unit
Packed (kind.Condition (Samepara a b)) = Unit
Packed (kind.Condition (Window c)) = Unit
Packed (kind.Condition (Proximity a b least most)) = most ≤ 65535
Packed kind.End = Unit
Packed (kind.Operator o) = Unit

unfoldable AllPacked : List Row → Type 0
AllPacked [] = Unit
AllPacked (r ∷ rs) = Packed r.kind × AllPacked rs

packed_none : AllPacked []
unfolding AllPacked
packed_none = tt

packed_append : (rs ss : List Row) → AllPacked rs → AllPacked ss → AllPacked (rs ++ ss)
unfolding AllPacked
packed_append [] ss h k = k
packed_append (r ∷ rs) ss h k = (h.0, packed_append rs ss h.1 k)

-- four words of a packed row are read as that row
apart-back : (a b least most : ℕ) → most ≤ 65535 → kind_of 10 a b (least * least_unit + most) ≡ kind.Condition (Proximity a b least most)
apart-back a b least most h =
    let x : (least * least_unit + most) / least_unit ≡ least = omega arith in
    let y : (least * least_unit + most) % least_unit ≡ most = omega arith in
    ap₂ (λ (m n : ℕ). kind.Condition (Proximity a b m n)) x y

kind-back : (k : Kind) → Packed k → kind_of (get_or (words_of k) 0 0) (get_or (words_of k) 1 0) (get_or (words_of k) 2 0) (get_or (words_of k) 3 0) ≡ k
kind-back (kind.Voice l) h = refl
kind-back (kind.Condition (Distance a b c)) h = refl
kind-back (kind.Condition (Ordered a b)) h = refl
kind-back (kind.Condition (Samepara a b)) h = refl
kind-back (kind.Condition (Window c)) h = refl
kind-back (kind.Condition (Proximity a b least most)) h = apart-back a b least most h
kind-back kind.End h = refl
kind-back (kind.Operator Both) h = refl
kind-back (kind.Operator Either) h = refl
kind-back (kind.Operator FirstNotSecond) h = refl
kind-back (kind.Operator (AtLeast least of)) h = refl

here : (k : Kind) (q : List ℕ) → Packed k → row_at (words_of k ++ q) 0 ≡ record { kind = k }
unfolding row_at
here k q h =
    ap (λ (ws : List ℕ). row_of (get_or (ws ++ q) 0 0) (get_or (ws ++ q) 1 0) (get_or (ws ++ q) 2 0) (get_or (ws ++ q) 3 0)) (words-four k)
    ∙ ap (λ (x : Kind). record { kind = x }) (kind-back k h)

past : (ws q : List ℕ) (i m : ℕ) → length ws ≡ 4 → m ≡ 4 + i → get_or (ws ++ q) m 0 ≡ get_or q i 0
past ws q i m e f =
    let z : m ≡ length ws + i = omega arith in
    ap (λ (n : ℕ). get_or (ws ++ q) n 0) z ∙ get_or-append-add ws q i 0

later : (k : Kind) (q : List ℕ) (j : ℕ) → row_at (words_of k ++ q) (1 + j) ≡ row_at q (0 + j)
unfolding row_at
later k q j =
    let n : length (words_of k) ≡ 4 = ap length (words-four k) in
    let x = past (words_of k) q (4 * (0 + j)) (4 * (1 + j)) n (omega arith) in
    let y = past (words_of k) q (4 * (0 + j) + 1) (4 * (1 + j) + 1) n (omega arith) in
    let z = past (words_of k) q (4 * (0 + j) + 2) (4 * (1 + j) + 2) n (omega arith) in
    let w = past (words_of k) q (4 * (0 + j) + 3) (4 * (1 + j) + 3) n (omega arith) in
    ap₂ (λ (f : ℕ × ℕ) (g : ℕ × ℕ). row_of f.0 f.1 g.0 g.1) (ap₂ (λ (s t : ℕ). (s, t)) x y) (ap₂ (λ (s t : ℕ). (s, t)) z w)

rows_run : (rs : List Row) → AllPacked rs → run (row_at (plan_of rs)) 0 (length rs) ≡ rs
unfolding joined run AllPacked
rows_run [] h = refl
rows_run (r ∷ rs) h =
    ap₂ (λ (x : Row) (y : List Row). x ∷ y)
    (here r.kind (plan_of rs) h.0)
    (run_ext (row_at (words_of r.kind ++ plan_of rs)) (row_at (plan_of rs)) 1 0 (length rs) (λ j l. later r.kind (plan_of rs) j)
    ∙ rows_run rs h.1)

rows_words : (rs : List Row) → AllPacked rs → rows_of (plan_of rs) ≡ rs
rows_words rs h =
    ap (run (row_at (plan_of rs)) 0) (let l = plan-length rs in let z : length (plan_of rs) / 4 ≡ length rs = omega arith in z)
    ∙ rows_run rs h

-- the rows of a line of the grammar are packed
voices_packed : (ls : List ℕ) → AllPacked (map voice ls)
unfolding AllPacked
voices_packed [] = tt
voices_packed (l ∷ ls) = (tt, voices_packed ls)

four : (ns : List ℕ) → length ns ≡ 4 → ((i : ℕ) → i < length ns → get_or ns i 0 ≤ g.most_of g.apart i) → get_or ns 3 0 ≤ 65535
four ns e h = h 3 (omega arith)

condition_packed : (w : Word) (ns : List ℕ) → length ns ≡ arity w → g.Within (g.most_of w) ns → Packed (kind.Condition (predicate_by w ns))
condition_packed g.near ns e h = tt
condition_packed g.before ns e h = tt
condition_packed g.same ns e h = tt
condition_packed g.span ns e h = tt
condition_packed g.apart ns e h = four ns e h

conditions_packed : (cs : List Condition) → ((i : ℕ) → i < length cs → ConditionFits (get_or cs i no_condition))
    → AllPacked (map condition (map predicate_of cs))
unfolding AllPacked
conditions_packed [] h = tt
conditions_packed (c ∷ cs) h =
    let f = h 0 (omega arith) in
    (condition_packed c.word c.numbers f.count f.within, conditions_packed cs (λ i l. h (suc i) (omega arith)))

operator_packed : (o : Operator) → AllPacked (operator_row o)
unfolding AllPacked
operator_packed o = (tt, tt)

figure_packed : (f : Figure) → FigureFits f → AllPacked (pattern_rows (pattern_of f))
unfolding AllPacked
figure_packed f h =
    packed_append (map voice f.lists ++ map condition (map predicate_of f.conditions)) (end ∷ [])
    (packed_append (map voice f.lists) (map condition (map predicate_of f.conditions)) (voices_packed f.lists)
    (conditions_packed f.conditions h.conditions))
    (tt, tt)

mutual
  unfolding line_rows Fits

  line_packed : (l : Line) → Fits l → AllPacked (line_rows l)
  line_packed (g.one p) h = part_packed p h
  line_packed (g.either l p) h =
      packed_append (line_rows l) (part_rows p ++ operator_row Either) (line_packed l h.0)
      (packed_append (part_rows p) (operator_row Either) (part_packed p h.1) (operator_packed Either))

  part_packed : (p : Part) → PartFits p → AllPacked (part_rows p)
  part_packed (g.alone i) h = item_packed i h
  part_packed (g.join j p i) h =
      packed_append (part_rows p) (item_rows i ++ operator_row (operator_of j)) (part_packed p h.0)
      (packed_append (item_rows i) (operator_row (operator_of j)) (item_packed i h.1) (operator_packed (operator_of j)))

  item_packed : (i : Item) → ItemFits i → AllPacked (item_rows i)
  item_packed (g.figure f) h = figure_packed f h
  item_packed (g.round l) h = line_packed l h
  item_packed (g.at_least n ls) h =
      let o = AtLeast n (line_count ls) in
      packed_append (lines_rows ls) (operator_row o) (lines_packed ls h.1) (operator_packed o)

  lines_packed : (ls : Lines) → LinesFit ls → AllPacked (lines_rows ls)
  lines_packed g.nil h = packed_none
  lines_packed (g.snoc ls l) h = packed_append (lines_rows ls) (line_rows l) (lines_packed ls h.0) (line_packed l h.1)

-- the words of a line's rows are read as these rows
pub line-back : (l : Line) → Fits l → rows_of (plan_of (line_rows l)) ≡ line_rows l
line-back l h = rows_words (line_rows l) (line_packed l h)

-- a document is true of the words that a line gives exactly if it is true of the line on its own
pub line-truth : (v : List ℕ) (l : Line) (d : ℕ) → Fits l → (work v (plan_of (line_rows l))).is_true d ≡ line_true (lists_of v) l d
unfolding work work_of
line-truth v l d h = ap (λ (rows : List Row). matching (lists_of v) rows d) (line-back l h) ∙ meaning (lists_of v) l d

-- a line over a volume
pub line_meant : (v : List ℕ) (l : Line) → Fits l → Meant v l
unfolding docs_in
line_meant v l h = record { rows = line-back l h; truth = λ d. line-truth v l d h; docs = docs }
  where
    docs : (a b : ℕ) → docs_in (work v (plan_of (line_rows l))) a b ≡ keep (line_true (lists_of v) l) (run (λ d. d) a (b - a))
    docs a b =
        keep_ext (work v (plan_of (line_rows l))).is_true (line_true (lists_of v) l) (λ d. line-truth v l d h) (run (λ d. d) a (b - a))
