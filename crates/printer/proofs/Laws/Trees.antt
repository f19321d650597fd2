-- The text of a tree, written from its end: patterns and connectives. No contract cites this file.
--     stack-shut                      the rows of stacked trees do not end in a VOICE
--     query-some, rows-front          a tree has a row; the first of some rows
--     node-text                       the text of what a connective joins, in its five pieces
--     TreeLeaf .. TreeCount, tree-last     a tree, by its last row: END, a connective or AT LEAST
--     leaf_room, leaf-put             where a tree ends in END
--     node-some .. node-put           where it ends in a connective, piece by piece
--     tree-no-voice, tree-no-condition     it ends in nothing else
-- Assumes nothing.
use Prim.Native.Nat.{ℕ, ◌+◌, ◌-◌, ◌<◌, ◌≤◌}
use native.Mathlib.Omega.{arith}
use mathlib.Core.Path.{◌≡◌, refl, sym, ap, ◌∙◌, subst}
use mathlib.Core.Bool.{false, true≢false}
use mathlib.Core.Logic.{◌⊎◌, inl, inr, ⊎_elim}
use mathlib.Core.List.{List, [], ◌∷◌, ◌++◌, map, append_assoc, append-nil}
use lib.ListN.{length, take, length-append}
use lib.Seq.{take_at}
use Rattle.seq.specs.Numbers.{run}
use Rattle.seq.proofs.Laws.Lists.{length-snoc}
use Rattle.seq.proofs.Laws.Numbers.{run_append, length_run}
use Rattle.plan.specs.declared.row.Operator.{Operator}
use Rattle.plan.specs.declared.row.Operator.TheVariants.{AtLeast}
use Rattle.plan.specs.declared.row.Predicate.{Predicate}
use Rattle.plan.specs.declared.row.Kind.{Kind}
use Rattle.plan.specs.declared.row.Kind.TheVariants as kind
use Rattle.plan.specs.declared.row.Row.{Row}
use Rattle.plan.specs.Rows.{row_at, rows_before, is_voice}
use Rattle.plan.specs.Patterns.{Pattern}
use Rattle.grammar.specs.declared.tokens.Connective.{Connective}
use Rattle.grammar.specs.declared.tokens.Connective.TheVariants as c
use Rattle.grammar.specs.Grammar.{figure_text, written, part_text, item_text}
use Rattle.grammar.specs.Meaning.{operator_row}
use Rattle.grammar.specs.Query.{Query, leaf, node, threshold, Queries, query_count, operator_for, query_rows, queries_rows}
use Rattle.grammar.specs.Query.{stack_rows, figure_of, typed}
use Rattle.printer.specs.declared.trees.Level.{Level}
use Rattle.printer.specs.declared.trees.Level.TheVariants as level
use Rattle.printer.specs.Inner.Writing.{PutBack, Back, only, voice_row, condition_row, Shut, Laid, PatternEnd, PatternRoom, PatternPut}
use Rattle.printer.specs.Inner.Trees.{text_at, bracketed, left_level, right_level, connective_byte, Voiced, AllVoiced}
use Rattle.printer.specs.Inner.Trees.{TreeEnd, TreeRoom, TreePut}
use Rattle.printer.proofs.Laws.Bytes.{put_as, put_then}
use Rattle.printer.proofs.Laws.Patterns.{snoc_inj, rows_last, rows-count, rows_back, formed-back}

-- rows whose last one is no VOICE
record Ended (rows : List Row) : Type 0 where
  front : List Row
  last : Row
  is : rows ≡ front ++ (last ∷ [])
  other : is_voice last.kind ≡ false

-- the last row of a tree is END or an operator
query-ended : (q : Query) → Ended (query_rows q)
unfolding query_rows
query-ended (leaf f) =
    record {
      front = map voice_row f.vars ++ map condition_row f.predicates;
      last = record { kind = kind.End };
      is = refl;
      other = refl;
    }
query-ended (node k a b) =
    record {
      front = query_rows a ++ query_rows b;
      last = record { kind = kind.Operator (operator_for k) };
      is = sym (append_assoc (query_rows a) (query_rows b) (operator_row (operator_for k)));
      other = refl;
    }
query-ended (threshold n qs) =
    record {
      front = queries_rows qs;
      last = record { kind = kind.Operator (AtLeast n (query_count qs)) };
      is = refl;
      other = refl;
    }

ended-shut : (xs ys : List Row) → Ended ys → Shut (xs ++ ys)
ended-shut xs ys h = record {
  no-voice = λ zs list e.
      let s = snoc_inj (xs ++ h.front) zs h.last (voice_row list)
      (append_assoc xs h.front (h.last ∷ []) ∙ ap (λ (l : List Row). xs ++ l) (sym h.is) ∙ e) in
      true≢false (ap (λ (r : Row). is_voice r.kind) (sym s.last) ∙ h.other);
}

-- and so is that of stacked trees
stack-shut : (qs : List Query) → Shut (stack_rows qs)
unfolding stack_rows
stack-shut [] = record { no-voice = λ zs list e. let n = ap length e in let l = length-snoc zs (voice_row list) in omega arith }
stack-shut (q ∷ qs) = ended-shut (stack_rows qs) (query_rows q) (query-ended q)

-- a tree has a row
pub query-some : (q : Query) → 1 ≤ length (query_rows q)
query-some q = let h = query-ended q in let e = ap length h.is in let l = length-snoc h.front h.last in omega arith

-- the first of some rows
pub rows-front : (p : List ℕ) (n : ℕ) (xs ys : List Row) → rows_before p n ≡ xs ++ ys → rows_before p (length xs) ≡ xs
rows-front p n xs ys e =
    let k = rows-count p n (xs ++ ys) e in
    let l = length-append xs ys in
    let m : n ≡ length xs + length ys = omega arith in
    let f : rows_before p (length xs) ++ run (row_at p) (0 + length xs) (length ys) ≡ xs ++ ys = sym
    (run_append (row_at p) 0 (length xs) (length ys)) ∙ ap (rows_before p) (sym m) ∙ e in
    sym (take_at (rows_before p (length xs)) (run (row_at p) (0 + length xs) (length ys)) (length xs) (length_run (row_at p) 0 (length xs)))
    ∙ ap (take (length xs)) f
    ∙ take_at xs ys (length xs) refl

-- the text of what a connective joins, with and without brackets
plain : (x y : List ℕ) (j : ℕ) → x ++ (j ∷ y) ≡ x ++ (j ∷ (y ++ []))
plain x y j = ap (λ (l : List ℕ). x ++ (j ∷ l)) (sym (append-nil y))

rounded : (x y : List ℕ) (j : ℕ) → 40 ∷ ((x ++ (j ∷ y)) ++ (41 ∷ [])) ≡ 40 ∷ (x ++ (j ∷ (y ++ (41 ∷ []))))
rounded x y j = ap (λ (l : List ℕ). 40 ∷ l) (append_assoc x (j ∷ y) (41 ∷ []))

-- the five pieces: a bracket, the first side, the byte, the second side, a bracket
abbrev pieces : Level → Connective → Query → Query → List ℕ
pieces v k a b =
    only (bracketed v k) 40 ++ (text_at (left_level k) a ++ ((connective_byte k ∷ []) ++ (text_at (right_level k) b ++ only (bracketed v k) 41)))

-- they are its text
node-text : (v : Level) (k : Connective) (a b : Query) → text_at v (node k a b) ≡ pieces v k a b
unfolding typed written
node-text level.Line c.And a b = plain (part_text (typed a).part) (item_text (typed b).item) 38
node-text level.Line c.Or a b = plain (written (typed a).line) (part_text (typed b).part) 124
node-text level.Line c.AndNot a b = plain (part_text (typed a).part) (item_text (typed b).item) 33
node-text level.Part c.And a b = plain (part_text (typed a).part) (item_text (typed b).item) 38
node-text level.Part c.Or a b = rounded (written (typed a).line) (part_text (typed b).part) 124
node-text level.Part c.AndNot a b = plain (part_text (typed a).part) (item_text (typed b).item) 33
node-text level.Item c.And a b = rounded (part_text (typed a).part) (item_text (typed b).item) 38
node-text level.Item c.Or a b = rounded (written (typed a).line) (part_text (typed b).part) 124
node-text level.Item c.AndNot a b = rounded (part_text (typed a).part) (item_text (typed b).item) 33

-- its length
node-length : (v : Level) (k : Connective) (a b : Query) {q : Query} → q ≡ node k a b
    → length (text_at v q) ≡ length (only (bracketed v k) 40) +
    (length (text_at (left_level k) a) + (1 + (length (text_at (right_level k) b) + length (only (bracketed v k) 41))))
node-length v k a b e =
    let t = ap length (ap (text_at v) e ∙ node-text v k a b) in
    let x = length-append (only (bracketed v k) 40)
    (text_at (left_level k) a ++ ((connective_byte k ∷ []) ++ (text_at (right_level k) b ++ only (bracketed v k) 41))) in
    let y = length-append (text_at (left_level k) a) ((connective_byte k ∷ []) ++ (text_at (right_level k) b ++ only (bracketed v k) 41)) in
    let z = length-append (text_at (right_level k) b) (only (bracketed v k) 41) in
    omega arith

-- the text of a pattern at any level
leaf-text : (v : Level) (f : Pattern) → text_at v (leaf f) ≡ figure_text (figure_of f)
unfolding typed written
leaf-text level.Line f = refl
leaf-text level.Part f = refl
leaf-text level.Item f = refl

-- a tree, by its last row: END
pub record TreeLeaf (p : List ℕ) (last : ℕ) (qs : List Query) (q : Query) : Type 0 where
  pub pattern : Pattern
  pub is : q ≡ leaf pattern
  pub row : (row_at p last).kind ≡ kind.End
  pub ends : PatternEnd p last (stack_rows qs) pattern

-- or a connective
pub record TreeNode (p : List ℕ) (last : ℕ) (qs : List Query) (q : Query) (k : Connective) : Type 0 where
  pub first : Query
  pub second : Query
  pub is : q ≡ node k first second
  pub row : (row_at p last).kind ≡ kind.Operator (operator_for k)
  pub some : 1 ≤ last
  pub right : TreeEnd p (last - 1) (first ∷ qs) second
  pub begins : 1 ≤ length (stack_rows (first ∷ qs))
  pub before : length (stack_rows (first ∷ qs)) ≤ last
  pub left : TreeEnd p (length (stack_rows (first ∷ qs)) - 1) qs first

-- or AT LEAST
pub record TreeThreshold (p : List ℕ) (last : ℕ) (qs : List Query) (q : Query) (least of : ℕ) : Type 0 where
  pub trees : Queries
  pub is : q ≡ threshold least trees
  pub row : (row_at p last).kind ≡ kind.Operator (AtLeast least of)
  pub rows : rows_before p last ≡ stack_rows qs ++ queries_rows trees
  pub count-is : query_count trees ≡ of
  pub voiced : AllVoiced trees

-- some connective
pub record TreeJoin (p : List ℕ) (last : ℕ) (qs : List Query) (q : Query) : Type 0 where
  pub connective : Connective
  pub it : TreeNode p last qs q connective

-- some AT LEAST
pub record TreeCount (p : List ℕ) (last : ℕ) (qs : List Query) (q : Query) : Type 0 where
  pub least : ℕ
  pub of : ℕ
  pub it : TreeThreshold p last qs q least of

-- a tree ends in END, in a connective or in AT LEAST
pub tree-last : (p : List ℕ) (last : ℕ) (qs : List Query) (q : Query) → TreeEnd p last qs q
    → TreeLeaf p last qs q ⊎ (TreeJoin p last qs q ⊎ TreeCount p last qs q)
unfolding query_rows stack_rows Voiced
tree-last p last qs (leaf f) h =
    let shown = map voice_row f.vars ++ map condition_row f.predicates in
    let w = rows_last p last (stack_rows qs ++ shown) (record { kind = kind.End })
    (h.rows ∙ sym (append_assoc (stack_rows qs) shown (record { kind = kind.End } ∷ []))) in
    inl (record {
      pattern = f;
      is = refl;
      row = ap (λ (r : Row). r.kind) w.last;
      ends = record { rows = h.rows; some = h.voiced; shut = stack-shut qs };
    })
tree-last p last qs (node k a b) h =
    let front = (stack_rows qs ++ query_rows a) ++ query_rows b in
    let w = rows_last p last front (record { kind = kind.Operator (operator_for k) })
    (h.rows ∙ sym (append_assoc (stack_rows qs) (query_rows a) (query_rows b ++ operator_row (operator_for k)))
    ∙ sym (append_assoc (stack_rows qs ++ query_rows a) (query_rows b) (operator_row (operator_for k)))) in
    let n = rows-count p last front w.front in
    let l = length-append (stack_rows qs ++ query_rows a) (query_rows b) in
    let m = length-append (stack_rows qs) (query_rows a) in
    let x = query-some a in
    let y = query-some b in
    let i : 1 ≤ last = omega arith in
    let g : 1 ≤ length (stack_rows qs ++ query_rows a) = omega arith in
    inr (inl (record {
      connective = k;
      it = record {
        first = a;
        second = b;
        is = refl;
        row = ap (λ (r : Row). r.kind) w.last;
        some = i;
        right = record { rows = rows_back p last front i w.front; voiced = h.voiced.1 };
        begins = g;
        before = omega arith;
        left = record {
          rows = rows_back p (length (stack_rows qs ++ query_rows a)) (stack_rows qs ++ query_rows a) g
              (rows-front p last (stack_rows qs ++ query_rows a) (query_rows b) w.front);
          voiced = h.voiced.0;
        };
      };
    }))
tree-last p last qs (threshold n ts) h =
    let row : Row = record { kind = kind.Operator (AtLeast n (query_count ts)) } in
    let w = rows_last p last (stack_rows qs ++ queries_rows ts) row
    (h.rows ∙ sym (append_assoc (stack_rows qs) (queries_rows ts) (row ∷ []))) in
    inr (inr (record {
      least = n;
      of = query_count ts;
      it = record {
        trees = ts;
        is = refl;
        row = ap (λ (r : Row). r.kind) w.last;
        rows = w.front;
        count-is = refl;
        voiced = h.voiced;
      };
    }))

-- END is no operator
pub apart : {k : Kind} {o : Operator} → k ≡ kind.End → k ≡ kind.Operator o → ⊥
apart e f = let z : ◌≡◌ {A = ℕ} 0 1 = cc in let y : ⊥ = omega arith in y

-- a connective is no AT LEAST
pub no-count : (k : Connective) {least of : ℕ} → operator_for k ≡ AtLeast least of → ⊥
no-count c.And e = let z : ◌≡◌ {A = ℕ} 0 1 = cc in let y : ⊥ = omega arith in y
no-count c.Or e = let z : ◌≡◌ {A = ℕ} 0 1 = cc in let y : ⊥ = omega arith in y
no-count c.AndNot e = let z : ◌≡◌ {A = ℕ} 0 1 = cc in let y : ⊥ = omega arith in y

-- connectives with the same operator are the same
same-connective : (k m : Connective) → operator_for k ≡ operator_for m → k ≡ m
same-connective c.And c.And e = refl
same-connective c.And c.Or e = cc
same-connective c.And c.AndNot e = cc
same-connective c.Or c.And e = cc
same-connective c.Or c.Or e = refl
same-connective c.Or c.AndNot e = cc
same-connective c.AndNot c.And e = cc
same-connective c.AndNot c.Or e = cc
same-connective c.AndNot c.AndNot e = refl

-- the operator of a row
pub operator-same : {r : Kind} {o o' : Operator} → r ≡ kind.Operator o → r ≡ kind.Operator o' → o ≡ o'
operator-same e f = cc

module _ {p : List ℕ} {last : ℕ} where
  -- row `last` is END
  module _ (is-end : (row_at p last).kind ≡ kind.End) where
    tree-leaf : {qs : List Query} {q : Query} → TreeEnd p last qs q → TreeLeaf p last qs q
    tree-leaf {qs} {q} h =
        ⊎_elim (λ (w : TreeLeaf p last qs q). w)
        (λ (o : TreeJoin p last qs q ⊎ TreeCount p last qs q).
        ⊎_elim (λ (w : TreeJoin p last qs q). absurd (apart is-end w.it.row))
        (λ (w : TreeCount p last qs q). absurd (apart is-end w.it.row)) o)
        (tree-last p last qs q h)

    pub leaf_room : {v : Level} {end : ℕ} → TreeRoom p last v end → PatternRoom p last end
    leaf_room {v} {end} h =
        let w = tree-leaf h.ends in
        let e = ap length (ap (text_at v) w.is ∙ leaf-text v w.pattern) in
        let r = h.room in
        record { formed = h.formed; rest = stack_rows h.rest; pattern = w.pattern; ends = w.ends; room = omega arith }

    pub leaf-put : (v : Level) {out : List ℕ} {end : ℕ} {out' : List ℕ} {r : Back} → PatternPut p last out end out' r
        → TreePut p last v out end out' r
    leaf-put v {out} {end} {out'} {r} h = record { all = go }
      where
        go : (qs : List Query) (q : Query) → TreeEnd p last qs q → Laid (text_at v q) (stack_rows qs) out end out' r
        go qs q e =
            let w = tree-leaf e in
            let d = h.all (stack_rows qs) w.pattern w.ends in
            record { row = d.row; put = put_as (ap (text_at v) w.is ∙ leaf-text v w.pattern) d.put }

  -- it is a connective
  module _ (k : Connective) (is-connective : (row_at p last).kind ≡ kind.Operator (operator_for k)) where
    tree-node : {qs : List Query} {q : Query} → TreeEnd p last qs q → TreeNode p last qs q k
    tree-node {qs} {q} h =
        ⊎_elim
        (λ (w : TreeLeaf p last qs q). absurd (apart w.row is-connective))
        (λ (o : TreeJoin p last qs q ⊎ TreeCount p last qs q).
        ⊎_elim
        (λ (w : TreeJoin p last qs q).
        subst (TreeNode p last qs q) (same-connective w.connective k (operator-same w.it.row is-connective)) w.it)
        (λ (w : TreeCount p last qs q). absurd (no-count k (operator-same is-connective w.it.row))) o)
        (tree-last p last qs q h)

    module _ {v : Level} {end : ℕ} (h : TreeRoom p last v end) where
      pub node-some : 1 ≤ last
      node-some = (tree-node h.ends).some

      -- the closing bracket
      pub node-shut : length (only (bracketed v k) 41) ≤ end
      node-shut = let w = tree-node h.ends in let s = node-length v k w.first w.second w.is in let r = h.room in omega arith

      module _ {out out₁ : List ℕ} {inner : ℕ} (shut : PutBack (only (bracketed v k) 41) out end out₁ inner) where
        -- the second side
        pub node-right : TreeRoom p (last - 1) (right_level k) inner
        node-right =
            let w = tree-node h.ends in
            let s = node-length v k w.first w.second w.is in
            let r = h.room in
            let x = shut.ends in
            record { formed = formed-back h.formed; rest = w.first ∷ h.rest; tree = w.second; ends = w.right; room = omega arith }

        module _ {out₂ : List ℕ} {right : Back} (second : TreePut p (last - 1) (right_level k) out₁ inner out₂ right) where
          -- the byte between the two
          pub node-byte : 1 ≤ right.at
          node-byte =
              let w = tree-node h.ends in
              let s = node-length v k w.first w.second w.is in
              let r = h.room in
              let x = shut.ends in
              let y = (second.all (w.first ∷ h.rest) w.second w.right).put.ends in
              omega arith

          pub node-begins : (1 ≤ right.row) × (right.row - 1 < last)
          node-begins =
              let w = tree-node h.ends in
              let y = (second.all (w.first ∷ h.rest) w.second w.right).row in
              let b = w.begins in
              let c = w.before in
              (omega arith, omega arith)

          module _ {out₃ : List ℕ} {byte : ℕ} (between : PutBack (connective_byte k ∷ []) out₂ right.at out₃ byte) where
            -- the first side
            pub node-left : TreeRoom p (right.row - 1) (left_level k) byte
            node-left =
                let w = tree-node h.ends in
                let s = node-length v k w.first w.second w.is in
                let r = h.room in
                let x = shut.ends in
                let d = second.all (w.first ∷ h.rest) w.second w.right in
                let y = d.put.ends in
                let z = between.ends in
                let i = h.formed.inside in
                let n = w.before in
                let m = d.row in
                record {
                  formed = record { inside = omega arith; formed = h.formed.formed };
                  rest = h.rest;
                  tree = w.first;
                  ends = subst (λ (n : ℕ). TreeEnd p (n - 1) h.rest w.first) (sym m) w.left;
                  room = omega arith;
                }

            module _ {out₄ : List ℕ} {left : Back} (first : TreePut p (right.row - 1) (left_level k) out₃ byte out₄ left) where
              -- the opening bracket
              pub node_open : length (only (bracketed v k) 40) ≤ left.at
              node_open =
                  let w = tree-node h.ends in
                  let s = node-length v k w.first w.second w.is in
                  let r = h.room in
                  let x = shut.ends in
                  let d = second.all (w.first ∷ h.rest) w.second w.right in
                  let y = d.put.ends in
                  let z = between.ends in
                  let g = (first.all h.rest w.first
                  (subst (λ (n : ℕ). TreeEnd p (n - 1) h.rest w.first) (sym d.row) w.left)).put.ends in
                  omega arith

              pub node-put : {out₅ : List ℕ} {at : ℕ} → PutBack (only (bracketed v k) 40) out₄ left.at out₅ at
                  → TreePut p last v out end out₅ (record { row = left.row; at = at })
              node-put {out₅} {at} opening = record { all = go }
                where
                  go : (qs : List Query) (q : Query) → TreeEnd p last qs q
                      → Laid (text_at v q) (stack_rows qs) out end out₅ (record { row = left.row; at = at })
                  go qs q e =
                      let w = tree-node e in
                      let d = second.all (w.first ∷ qs) w.second w.right in
                      let g = first.all qs w.first (subst (λ (n : ℕ). TreeEnd p (n - 1) qs w.first) (sym d.row) w.left) in
                      let x = put_then (text_at (right_level k) w.second) (only (bracketed v k) 41) shut d.put in
                      let y = put_then (connective_byte k ∷ []) (text_at (right_level k) w.second ++ only (bracketed v k) 41) x between in
                      let z = put_then (text_at (left_level k) w.first)
                      ((connective_byte k ∷ []) ++ (text_at (right_level k) w.second ++ only (bracketed v k) 41)) y g.put in
                      record {
                        row = g.row;
                        put = put_as (ap (text_at v) w.is ∙ node-text v k w.first w.second)
                            (put_then (only (bracketed v k) 40)
                            (text_at (left_level k) w.first ++
                            ((connective_byte k ∷ []) ++ (text_at (right_level k) w.second ++ only (bracketed v k) 41))) z opening);
                      }

  -- it is nothing else
  pub tree-no-voice : {n : ℕ} → (row_at p last).kind ≡ kind.Voice n → {v : Level} {end : ℕ} → TreeRoom p last v end → ⊥
  tree-no-voice e h =
      ⊎_elim
      (λ (w : TreeLeaf p last h.rest h.tree). let x = w.row in let z : ◌≡◌ {A = ℕ} 0 1 = cc in let y : ⊥ = omega arith in y)
      (λ (o : TreeJoin p last h.rest h.tree ⊎ TreeCount p last h.rest h.tree).
      ⊎_elim
      (λ (w : TreeJoin p last h.rest h.tree). let x = w.it.row in let z : ◌≡◌ {A = ℕ} 0 1 = cc in let y : ⊥ = omega arith in y)
      (λ (w : TreeCount p last h.rest h.tree). let x = w.it.row in let z : ◌≡◌ {A = ℕ} 0 1 = cc in let y : ⊥ = omega arith in y) o)
      (tree-last p last h.rest h.tree h.ends)

  pub tree-no-condition : {c : Predicate} → (row_at p last).kind ≡ kind.Condition c → {v : Level} {end : ℕ} → TreeRoom p last v end → ⊥
  tree-no-condition e h =
      ⊎_elim
      (λ (w : TreeLeaf p last h.rest h.tree). let x = w.row in let z : ◌≡◌ {A = ℕ} 0 1 = cc in let y : ⊥ = omega arith in y)
      (λ (o : TreeJoin p last h.rest h.tree ⊎ TreeCount p last h.rest h.tree).
      ⊎_elim
      (λ (w : TreeJoin p last h.rest h.tree). let x = w.it.row in let z : ◌≡◌ {A = ℕ} 0 1 = cc in let y : ⊥ = omega arith in y)
      (λ (w : TreeCount p last h.rest h.tree). let x = w.it.row in let z : ◌≡◌ {A = ℕ} 0 1 = cc in let y : ⊥ = omega arith in y) o)
      (tree-last p last h.rest h.tree h.ends)
