-- The text of an AT LEAST, written from its end: its brackets, its number and its lines. No contract cites this file.
--     threshold-text                  the text of an AT LEAST, at any level
--     level-room, level-put           it is written alike at every level
--     threshold-least .. threshold-put     where a tree ends in AT LEAST, piece by piece
--     LinesLast, lines-last           several trees, by the last one
--     lines-tree .. lines-put         the trees of an AT LEAST, the last one first
-- Assumes nothing.
use Prim.Native.Nat.{ℕ, ◌+◌, ◌-◌, ◌<◌, ◌≤◌}
use native.Mathlib.Omega.{arith}
use mathlib.Core.Path.{◌≡◌, refl, sym, ap, ◌∙◌, subst}
use mathlib.Core.Logic.{◌⊎◌, ⊎_elim}
use mathlib.Core.List.{List, [], ◌∷◌, ◌++◌, append_assoc}
use lib.ListN.{length, length-append}
use Rattle.seq.specs.Decimal.{digit}
use Rattle.seq.proofs.Laws.Lists.{length-snoc}
use Rattle.plan.specs.declared.row.Operator.TheVariants.{AtLeast}
use Rattle.plan.specs.declared.row.Kind.{Kind}
use Rattle.plan.specs.declared.row.Kind.TheVariants as kind
use Rattle.plan.specs.declared.row.Row.{Row}
use Rattle.plan.specs.Rows.{row_at, rows_before, InRange}
use Rattle.plan.proofs.Laws.Given.{row-range}
use Rattle.grammar.specs.Grammar.{written, lines_text, separator}
use Rattle.grammar.specs.Query.{Query, threshold, Queries, empty, push, query_count, query_rows, queries_rows, stack_rows, typed, typed_lines}
use Rattle.grammar.proofs.Laws.Query.{listed, stack-listed}
use Rattle.printer.specs.declared.trees.Level.{Level}
use Rattle.printer.specs.declared.trees.Level.TheVariants as level
use Rattle.printer.specs.Inner.Writing.{PutBack, Back, Laid}
use Rattle.printer.specs.Inner.Trees.{text_at, Voiced, AllVoiced, TreeEnd, TreeRoom, TreePut, LinesEnd, LinesRoom, LinesPut}
use Rattle.printer.proofs.Laws.Bytes.{put_as, put_then}
use Rattle.printer.proofs.Laws.Patterns.{rows-count, rows_back, formed-back}
use Rattle.printer.proofs.Laws.Trees.{query-some, rows-front, TreeLeaf, TreeThreshold, TreeJoin, TreeCount, tree-last}
use Rattle.printer.proofs.Laws.Trees.{apart, no-count, operator-same}

-- several have as many at least
queries-some : (qs : Queries) → query_count qs ≤ length (queries_rows qs)
unfolding query_rows
queries-some empty = omega arith
queries-some (push qs q) =
    let h = queries-some qs in let k = query-some q in let l = length-append (queries_rows qs) (query_rows q) in omega arith

-- the text of a threshold at any level
threshold-text : (v : Level) (n : ℕ) (qs : Queries)
    → text_at v (threshold n qs) ≡ 60 ∷ (digit n ∷ (lines_text (typed_lines qs) ++ (62 ∷ [])))
unfolding typed written
threshold-text level.Line n qs = refl
threshold-text level.Part n qs = refl
threshold-text level.Item n qs = refl

-- its length
threshold-length : (v : Level) (n : ℕ) (qs : Queries) {q : Query} → q ≡ threshold n qs
    → length (text_at v q) ≡ 3 + length (lines_text (typed_lines qs))
threshold-length v n qs e =
    let t = ap length (ap (text_at v) e ∙ threshold-text v n qs) in let l = length-snoc (lines_text (typed_lines qs)) 62 in omega arith

-- a tree whose last row is AT LEAST
module _ {p : List ℕ} {last least of : ℕ} (is-threshold : (row_at p last).kind ≡ kind.Operator (AtLeast least of)) where
  tree-threshold : {qs : List Query} {q : Query} → TreeEnd p last qs q → TreeThreshold p last qs q least of
  tree-threshold {qs} {q} h =
      ⊎_elim
      (λ (w : TreeLeaf p last qs q). absurd (apart w.row is-threshold))
      (λ (o : TreeJoin p last qs q ⊎ TreeCount p last qs q).
      ⊎_elim
      (λ (w : TreeJoin p last qs q). absurd (no-count w.connective (operator-same w.it.row is-threshold)))
      (λ (w : TreeCount p last qs q).
      let e = operator-same w.it.row is-threshold in
      let x : w.least ≡ least = cc in
      let y : w.of ≡ of = cc in
      subst (TreeThreshold p last qs q least) y (subst (λ (n : ℕ). TreeThreshold p last qs q n w.of) x w.it)) o)
      (tree-last p last qs q h)

  -- its text is the same at every level
  same_text : (v w : Level) {qs : List Query} {q : Query} → TreeEnd p last qs q → text_at v q ≡ text_at w q
  same_text v w h =
      let t = tree-threshold h in
      ap (text_at v) t.is ∙ threshold-text v least t.trees
      ∙ sym (ap (text_at w) t.is ∙ threshold-text w least t.trees)

  pub level-room : {v : Level} {end : ℕ} → TreeRoom p last v end → TreeRoom p last level.Item end
  level-room {v} h = record {
    formed = h.formed;
    rest = h.rest;
    tree = h.tree;
    ends = h.ends;
    room = let e = ap length (same_text v level.Item h.ends) in let r = h.room in omega arith;
  }

  pub level-put : {v : Level} {out out' : List ℕ} {end : ℕ} {r : Back} → TreePut p last level.Item out end out' r
      → TreePut p last v out end out' r
  level-put {v} {out} {out'} {end} {r} h = record {
    all = λ qs q e. subst (λ (s : List ℕ). Laid s (stack_rows qs) out end out' r) (same_text level.Item v e) (h.all qs q e);
  }

  module _ {v : Level} {end : ℕ} (h : TreeRoom p last v end) where
    -- its numbers are in range
    threshold-range : InRange (kind.Operator (AtLeast least of))
    threshold-range = subst (λ (k : Kind). InRange k) is-threshold (row-range p last (h.formed.formed last h.formed.inside))

    -- so the first one is a digit
    pub threshold-least : least < 10
    threshold-least = let r = threshold-range in omega arith

    -- its trees have rows
    tree-rows : {qs : List Query} {q : Query} (e : TreeEnd p last qs q) → 1 ≤ last
    tree-rows {qs} e =
        let w = tree-threshold e in
        let n = rows-count p last (stack_rows qs ++ queries_rows w.trees) w.rows in
        let l = length-append (stack_rows qs) (queries_rows w.trees) in
        let s = queries-some w.trees in
        let k = w.count-is in
        let r = threshold-range in
        omega arith

    tree-lines : {qs : List Query} {q : Query} (e : TreeEnd p last qs q) → LinesEnd p (last - 1) of qs (tree-threshold e).trees
    tree-lines {qs} e =
        let w = tree-threshold e in
        record {
          rows = rows_back p last (stack_rows qs ++ queries_rows w.trees) (tree-rows e) w.rows;
          count-is = w.count-is;
          voiced = w.voiced;
        }

    pub threshold-some : 1 ≤ last
    threshold-some = tree-rows h.ends

    -- the closing bracket
    pub threshold-shut : 1 ≤ end
    threshold-shut =
        let w = tree-threshold h.ends in let s = threshold-length v least w.trees w.is in let r = h.room in omega arith

    module _ {out out₁ : List ℕ} {inner : ℕ} (shut : PutBack (62 ∷ []) out end out₁ inner) where
      -- the lines
      pub threshold-lines : LinesRoom p (last - 1) of inner
      threshold-lines =
          let w = tree-threshold h.ends in
          let s = threshold-length v least w.trees w.is in
          let r = h.room in
          let x = shut.ends in
          let k = threshold-range in
          record {
            formed = formed-back h.formed;
            some = omega arith;
            rest = h.rest;
            trees = w.trees;
            ends = tree-lines h.ends;
            room = omega arith;
          }

      module _ {out₂ : List ℕ} {lines : Back} (put : LinesPut p (last - 1) of out₁ inner out₂ lines) where
        -- the number
        pub threshold-number : 2 ≤ lines.at
        threshold-number =
            let w = tree-threshold h.ends in
            let s = threshold-length v least w.trees w.is in
            let r = h.room in
            let x = shut.ends in
            let y = (put.all h.rest w.trees (tree-lines h.ends)).put.ends in
            omega arith

        module _ {out₃ : List ℕ} {number : ℕ} (first : PutBack (digit least ∷ []) out₂ lines.at out₃ number) where
          -- the opening bracket
          pub threshold_open : 1 ≤ number
          threshold_open = let n = threshold-number in let x = first.ends in omega arith

          pub threshold-put : {out₄ : List ℕ} {at : ℕ} → PutBack (60 ∷ []) out₃ number out₄ at
              → TreePut p last v out end out₄ (record { row = lines.row; at = at })
          threshold-put {out₄} {at} opening = record { all = go }
            where
              go : (qs : List Query) (q : Query) → TreeEnd p last qs q
                  → Laid (text_at v q) (stack_rows qs) out end out₄ (record { row = lines.row; at = at })
              go qs q e =
                  let w = tree-threshold e in
                  let d = put.all qs w.trees (tree-lines e) in
                  let text = lines_text (typed_lines w.trees) in
                  let x = put_then text (62 ∷ []) shut d.put in
                  let y = put_then (digit least ∷ []) (text ++ (62 ∷ [])) x first in
                  record {
                    row = d.row;
                    put = put_as (ap (text_at v) w.is ∙ threshold-text v least w.trees)
                        (put_then (60 ∷ []) ((digit least ∷ []) ++ (text ++ (62 ∷ []))) y opening);
                  }

-- several trees, the last one first
record LinesLast (p : List ℕ) (last count : ℕ) (qs : List Query) (ts : Queries) : Type 0 where
  front : Queries
  tree : Query
  is : ts ≡ push front tree
  ends : TreeEnd p last (listed front ++ qs) tree
  fewer : query_count front + 1 ≡ count
  rows : rows_before p (length (stack_rows (listed front ++ qs))) ≡ stack_rows qs ++ queries_rows front
  before : length (stack_rows (listed front ++ qs)) ≤ last
  begins : query_count front ≤ length (stack_rows (listed front ++ qs))
  voiced : AllVoiced front

lines-last : (p : List ℕ) (last count : ℕ) (qs : List Query) (ts : Queries) → 1 ≤ count → LinesEnd p last count qs ts
    → LinesLast p last count qs ts
unfolding query_rows stack_rows Voiced
lines-last p last count qs empty s h = absurd (let k = h.count-is in let z : ⊥ = omega arith in z)
lines-last p last count qs (push ts t) s h =
    let e = stack-listed ts qs in
    let rows : rows_before p (last + 1) ≡ stack_rows (listed ts ++ qs) ++ query_rows t = h.rows
    ∙ sym (append_assoc (stack_rows qs) (queries_rows ts) (query_rows t)) ∙ ap (λ (l : List Row). l ++ query_rows t) (sym e) in
    let n = rows-count p (last + 1) (stack_rows (listed ts ++ qs) ++ query_rows t) rows in
    let l = length-append (stack_rows (listed ts ++ qs)) (query_rows t) in
    let x = query-some t in
    let m = ap length e in
    let a = length-append (stack_rows qs) (queries_rows ts) in
    let y = queries-some ts in
    let k = h.count-is in
    record {
      front = ts;
      tree = t;
      is = refl;
      ends = record { rows = rows; voiced = h.voiced.1 };
      fewer = omega arith;
      rows = rows-front p (last + 1) (stack_rows (listed ts ++ qs)) (query_rows t) rows ∙ e;
      before = omega arith;
      begins = omega arith;
      voiced = h.voiced.0;
    }

-- the text of several trees, by the last one
push-length : (ts : Queries) (t : Query) {us : Queries} → us ≡ push ts t
    → length (lines_text (typed_lines us)) ≡ length (lines_text (typed_lines ts)) + (1 + length (text_at level.Line t))
unfolding typed written
push-length ts t e =
    let l = ap (λ (x : Queries). length (lines_text (typed_lines x))) e
    ∙ length-append (lines_text (typed_lines ts)) (separator (typed_lines ts) ∷ written (typed t).line) in
    omega arith

-- a colon stands in front of the first
first-text : (ts : Queries) (t : Query) {us : Queries} → us ≡ push ts t → query_count ts ≤ 0
    → lines_text (typed_lines us) ≡ (58 ∷ []) ++ text_at level.Line t
unfolding typed written query_count
first-text empty t e h = ap (λ (x : Queries). lines_text (typed_lines x)) e
first-text (push ts s) t e h = absurd (let z : ⊥ = omega arith in z)

-- and a comma in front of the others
next-text : (ts : Queries) (t : Query) {us : Queries} → us ≡ push ts t → 1 ≤ query_count ts
    → lines_text (typed_lines us) ≡ lines_text (typed_lines ts) ++ ((44 ∷ []) ++ text_at level.Line t)
unfolding typed written query_count
next-text empty t e h = absurd (let z : ⊥ = omega arith in z)
next-text (push ts s) t e h = ap (λ (x : Queries). lines_text (typed_lines x)) e

-- the first has none in front of it
first-stack : (ts : Queries) (qs : List Query) → query_count ts ≤ 0 → listed ts ++ qs ≡ qs
unfolding listed query_count
first-stack empty qs h = refl
first-stack (push ts t) qs h = absurd (let z : ⊥ = omega arith in z)

module _ {p : List ℕ} {last count end : ℕ} (h : LinesRoom p last count end) where
  lines_at : {qs : List Query} {ts : Queries} → LinesEnd p last count qs ts → LinesLast p last count qs ts
  lines_at {qs} {ts} e = lines-last p last count qs ts h.some e

  -- the last tree
  pub lines-tree : TreeRoom p last level.Line end
  lines-tree =
      let w = lines_at h.ends in
      let l = push-length w.front w.tree w.is in
      let r = h.room in
      record { formed = h.formed; rest = listed w.front ++ h.rest; tree = w.tree; ends = w.ends; room = omega arith }

  module _ {out out₁ : List ℕ} {line : Back} (put : TreePut p last level.Line out end out₁ line) where
    -- the byte in front of it
    pub lines-byte : 1 ≤ line.at
    lines-byte =
        let w = lines_at h.ends in
        let l = push-length w.front w.tree w.is in
        let r = h.room in
        let x = (put.all (listed w.front ++ h.rest) w.tree w.ends).put.ends in
        omega arith

    -- it is the only one
    pub lines-first : count ≤ 1 → {out₂ : List ℕ} {at : ℕ} → PutBack (58 ∷ []) out₁ line.at out₂ at
        → LinesPut p last count out end out₂ (record { row = line.row; at = at })
    lines-first few {out₂} {at} colon = record { all = go }
      where
        go : (qs : List Query) (ts : Queries) → LinesEnd p last count qs ts
            → Laid (lines_text (typed_lines ts)) (stack_rows qs) out end out₂ (record { row = line.row; at = at })
        go qs ts e =
            let w = lines_at e in
            let d = put.all (listed w.front ++ qs) w.tree w.ends in
            let n = w.fewer in
            let k : query_count w.front ≤ 0 = omega arith in
            record {
              row = d.row ∙ ap (λ (l : List Query). length (stack_rows l)) (first-stack w.front qs k);
              put = put_as (first-text w.front w.tree w.is k) (put_then (58 ∷ []) (text_at level.Line w.tree) d.put colon);
            }

    -- there are others
    module _ (more : 1 < count) where
      pub lines-begins : (1 ≤ line.row) × (line.row - 1 < last)
      lines-begins =
          let w = lines_at h.ends in
          let y = (put.all (listed w.front ++ h.rest) w.tree w.ends).row in
          let n = w.fewer in
          let b = w.begins in
          let c = w.before in
          (omega arith, omega arith)

      lines-before : {qs : List Query} {ts : Queries} (e : LinesEnd p last count qs ts)
          → LinesEnd p (line.row - 1) (count - 1) qs (lines_at e).front
      lines-before {qs} e =
          let w = lines_at e in
          let d = (put.all (listed w.front ++ qs) w.tree w.ends).row in
          let n = w.fewer in
          let b = w.begins in
          let k : 1 ≤ line.row = omega arith in
          record {
            rows = rows_back p line.row (stack_rows qs ++ queries_rows w.front) k (ap (rows_before p) d ∙ w.rows);
            count-is = omega arith;
            voiced = w.voiced;
          }

      module _ {out₂ : List ℕ} {byte : ℕ} (comma : PutBack (44 ∷ []) out₁ line.at out₂ byte) where
        pub lines-room : LinesRoom p (line.row - 1) (count - 1) byte
        lines-room =
            let w = lines_at h.ends in
            let l = push-length w.front w.tree w.is in
            let r = h.room in
            let x = (put.all (listed w.front ++ h.rest) w.tree w.ends).put.ends in
            let y = comma.ends in
            let i = h.formed.inside in
            let b = lines-begins in
            record {
              formed = record { inside = omega arith; formed = h.formed.formed };
              some = omega arith;
              rest = h.rest;
              trees = w.front;
              ends = lines-before h.ends;
              room = omega arith;
            }

        pub lines-put : {out₃ : List ℕ} {r : Back} → LinesPut p (line.row - 1) (count - 1) out₂ byte out₃ r
            → LinesPut p last count out end out₃ r
        lines-put {out₃} {r} others = record { all = go }
          where
            go : (qs : List Query) (ts : Queries) → LinesEnd p last count qs ts
                → Laid (lines_text (typed_lines ts)) (stack_rows qs) out end out₃ r
            go qs ts e =
                let w = lines_at e in
                let d = put.all (listed w.front ++ qs) w.tree w.ends in
                let g = others.all qs w.front (lines-before e) in
                let n = w.fewer in
                let k : 1 ≤ query_count w.front = omega arith in
                let x = put_then (44 ∷ []) (text_at level.Line w.tree) d.put comma in
                record {
                  row = g.row;
                  put = put_as (next-text w.front w.tree w.is k)
                      (put_then (lines_text (typed_lines w.front)) ((44 ∷ []) ++ text_at level.Line w.tree) x g.put);
                }
