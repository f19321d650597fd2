-- Dropping a pair of round brackets: a line has none to drop exactly if it is the line of its tree. No contract cites this file.
--     dropped-inside     a pair dropped inside a longer text
--     dropped-parens     a text without a pair opens one bracket less
--     line-tight, tight  a line is that of its tree, or has a pair that could be dropped
--     comes_back         a line's rows are written as the line itself exactly if none could be dropped
-- Assumes nothing.
use Prim.Native.Nat.{ℕ, suc, ◌<◌, ◌≤◌}
use native.Mathlib.Omega.{arith}
use mathlib.Core.Path.{◌≡◌, refl, sym, ap, ap₂, ◌∙◌, subst}
use mathlib.Core.Logic.{◌⊎◌, inl, inr, ⊎_elim, ◌↔◌}
use mathlib.Core.List.{List, [], ◌∷◌, ◌++◌, map, append_assoc, append-nil}
use lib.ListN.{length, get_or}
use Rattle.plan.specs.Patterns.{no_row}
use Rattle.plan.specs.Rows.{plan_of}
use Rattle.seq.specs.Decimal.{digit}
use Rattle.grammar.specs.Grammar as g
use Rattle.grammar.specs.Grammar.{Word, Condition, Figure, Joint, Line, Part, Item, Lines, arity, joint_byte, line_count, separator}
use Rattle.grammar.specs.Grammar.{written, part_text, item_text, lines_text, ConditionFits, FigureFits, Several, Fits, PartFits}
use Rattle.grammar.specs.Grammar.{ItemFits, LinesFit, no_condition}
use Rattle.grammar.specs.Brackets.{parens, rounds, Dropped, Spare}
use Rattle.grammar.specs.Meaning.{predicate_by, predicate_of, pattern_of, line_rows}
use Rattle.grammar.specs.declared.tokens.Connective.TheVariants as c
use Rattle.grammar.specs.Query.{Query, leaf, node, threshold, Queries, push, query_count, query_rows, queries_from, query_of}
use Rattle.grammar.specs.Query.{connective_of, line_query, part_query, item_query, lines_queries, condition_of, figure_of, typed, typed_lines}
use Rattle.grammar.specs.Query.{plan_line, plan_text}
use Rattle.grammar.proofs.Laws.Query.{lines-count, line-rows, query-alone, rows-tree, line-fewest}
use Rattle.grammar.proofs.Laws.Words.{line-back}
use Rattle.grammar.proofs.Laws.Brackets.{parens_append, parens_open, parens-close, line-parens}

-- a pair dropped inside a longer text
dropped-inside : (a s t b : List ℕ) → Dropped s t → Dropped (a ++ (s ++ b)) (a ++ (t ++ b))
dropped-inside a s t b d = record {
  front = a ++ d.front;
  between = d.between;
  rest = d.rest ++ b;
  with_pair =
      ap (λ (x : List ℕ). a ++ (x ++ b)) d.with_pair
      ∙ ap (λ (x : List ℕ). a ++ x) (append_assoc d.front (40 ∷ (d.between ++ (41 ∷ d.rest))) b
      ∙ ap (λ (x : List ℕ). d.front ++ (40 ∷ x)) (append_assoc d.between (41 ∷ d.rest) b))
      ∙ sym (append_assoc a d.front (40 ∷ (d.between ++ (41 ∷ (d.rest ++ b)))));
  without =
      ap (λ (x : List ℕ). a ++ (x ++ b)) d.without
      ∙ ap (λ (x : List ℕ). a ++ x) (append_assoc d.front (d.between ++ d.rest) b
      ∙ ap (λ (x : List ℕ). d.front ++ x) (append_assoc d.between d.rest b))
      ∙ sym (append_assoc a d.front (d.between ++ (d.rest ++ b)));
}

-- a text in brackets without them
dropped-round : (s : List ℕ) → Dropped (40 ∷ (s ++ (41 ∷ []))) s
dropped-round s = record { front = []; between = s; rest = []; with_pair = refl; without = sym (append-nil s) }

-- a text without a pair opens one bracket less
pub dropped-parens : (s t : List ℕ) → Dropped s t → parens s ≡ suc (parens t)
dropped-parens s t d =
    let a = parens_append d.front (40 ∷ (d.between ++ (41 ∷ d.rest))) in
    let b = parens_open (d.between ++ (41 ∷ d.rest)) in
    let c = parens_append d.between (41 ∷ d.rest) in
    let e = parens-close d.rest in
    let f = parens_append d.front (d.between ++ d.rest) in
    let h = parens_append d.between d.rest in
    let x = ap parens d.with_pair in
    let y = ap parens d.without in
    omega arith

-- a condition of the grammar is typed as it was
numbers_again : (w : Word) (ns : List ℕ) → length ns ≡ arity w → condition_of (predicate_by w ns) ≡ record { word = w; numbers = ns }
numbers_again g.near (a ∷ b ∷ c ∷ []) e = refl
numbers_again g.near [] e = absurd (let z : ⊥ = omega arith in z)
numbers_again g.near (a ∷ []) e = absurd (let z : ⊥ = omega arith in z)
numbers_again g.near (a ∷ b ∷ []) e = absurd (let z : ⊥ = omega arith in z)
numbers_again g.near (a ∷ b ∷ c ∷ d ∷ ns) e = absurd (let z : ⊥ = omega arith in z)
numbers_again g.before (a ∷ b ∷ []) e = refl
numbers_again g.before [] e = absurd (let z : ⊥ = omega arith in z)
numbers_again g.before (a ∷ []) e = absurd (let z : ⊥ = omega arith in z)
numbers_again g.before (a ∷ b ∷ c ∷ ns) e = absurd (let z : ⊥ = omega arith in z)
numbers_again g.same (a ∷ b ∷ []) e = refl
numbers_again g.same [] e = absurd (let z : ⊥ = omega arith in z)
numbers_again g.same (a ∷ []) e = absurd (let z : ⊥ = omega arith in z)
numbers_again g.same (a ∷ b ∷ c ∷ ns) e = absurd (let z : ⊥ = omega arith in z)
numbers_again g.span (a ∷ []) e = refl
numbers_again g.span [] e = absurd (let z : ⊥ = omega arith in z)
numbers_again g.span (a ∷ b ∷ ns) e = absurd (let z : ⊥ = omega arith in z)
numbers_again g.apart (a ∷ b ∷ c ∷ d ∷ []) e = refl
numbers_again g.apart [] e = absurd (let z : ⊥ = omega arith in z)
numbers_again g.apart (a ∷ []) e = absurd (let z : ⊥ = omega arith in z)
numbers_again g.apart (a ∷ b ∷ []) e = absurd (let z : ⊥ = omega arith in z)
numbers_again g.apart (a ∷ b ∷ c ∷ []) e = absurd (let z : ⊥ = omega arith in z)
numbers_again g.apart (a ∷ b ∷ c ∷ d ∷ x ∷ ns) e = absurd (let z : ⊥ = omega arith in z)

conditions_again : (cs : List Condition) → ((i : ℕ) → i < length cs → ConditionFits (get_or cs i no_condition))
    → map condition_of (map predicate_of cs) ≡ cs
conditions_again [] h = refl
conditions_again (c ∷ cs) h =
    ap₂ (λ (x : Condition) (xs : List Condition). x ∷ xs)
    (numbers_again c.word c.numbers (h 0 (omega arith)).count)
    (conditions_again cs (λ i l. h (suc i) (omega arith)))

figure_again : (f : Figure) → FigureFits f → figure_of (pattern_of f) ≡ f
figure_again f h =
    ap (λ (cs : List Condition). record { lists = f.lists; conditions = cs }) (conditions_again f.conditions h.conditions)

-- a pair that could be dropped, of a line, a part, an item, of lines: what is left has the same tree
record LessLine (l : Line) : Type 0 where
  less : Line
  fits : Fits less
  tree : line_query less ≡ line_query l
  dropped : Dropped (written l) (written less)

record LessPart (p : Part) : Type 0 where
  less : Part
  fits : PartFits less
  tree : part_query less ≡ part_query p
  dropped : Dropped (part_text p) (part_text less)

record LessItem (i : Item) : Type 0 where
  less : Item
  fits : ItemFits less
  tree : item_query less ≡ item_query i
  dropped : Dropped (item_text i) (item_text less)

record LessLines (ls : Lines) : Type 0 where
  less : Lines
  fits : LinesFit less
  tree : lines_queries less ≡ lines_queries ls
  dropped : Dropped (lines_text ls) (lines_text less)

-- of the three forms of a tree each is the next without brackets, or in them
line_or : (q : Query) → ((typed q).line ≡ g.one (typed q).part) ⊎ ((typed q).part ≡ g.alone (g.round (typed q).line))
unfolding typed
line_or (leaf f) = inl refl
line_or (node c.And a b) = inl refl
line_or (node c.Or a b) = inr refl
line_or (node c.AndNot a b) = inl refl
line_or (threshold n qs) = inl refl

part_or : (q : Query) → ((typed q).part ≡ g.alone (typed q).item) ⊎ ((typed q).item ≡ g.round (g.one (typed q).part))
unfolding typed
part_or (leaf f) = inl refl
part_or (node c.And a b) = inr refl
part_or (node c.Or a b) = inl refl
part_or (node c.AndNot a b) = inr refl
part_or (threshold n qs) = inl refl

item_or : (q : Query) → ((typed q).item ≡ g.round (typed q).line) ⊎ ((typed q).line ≡ g.one (g.alone (typed q).item))
unfolding typed
item_or (leaf f) = inr refl
item_or (node c.And a b) = inl refl
item_or (node c.Or a b) = inl refl
item_or (node c.AndNot a b) = inl refl
item_or (threshold n qs) = inr refl

join-typed : (j : Joint) (a b : Query) → (typed (node (connective_of j) a b)).part ≡ g.join j (typed a).part (typed b).item
unfolding typed
join-typed g.both a b = refl
join-typed g.without a b = refl

-- a line that is another in brackets
line-round : (l : Line) → Fits l → LessLine (g.one (g.alone (g.round l)))
unfolding written Fits line_query
line-round l h = record { less = l; fits = h; tree = refl; dropped = dropped-round (written l) }

part-round : (p : Part) → PartFits p → LessPart (g.alone (g.round (g.one p)))
unfolding written Fits line_query
part-round p h = record { less = p; fits = h; tree = refl; dropped = dropped-round (part_text p) }

item-round : (i : Item) → ItemFits i → LessItem (g.round (g.one (g.alone i)))
unfolding written Fits line_query
item-round i h = record { less = i; fits = h; tree = refl; dropped = dropped-round (item_text i) }

one-fits : (p : Part) → PartFits p → Fits (g.one p)
unfolding Fits
one-fits p h = h

unround : (l : Line) → PartFits (g.alone (g.round l)) → Fits l
unfolding Fits
unround l h = h

unround-part : (p : Part) → ItemFits (g.round (g.one p)) → PartFits p
unfolding Fits
unround-part p h = h

unround-item : (i : Item) → Fits (g.one (g.alone i)) → ItemFits i
unfolding Fits
unround-item i h = h

-- where a pair could be dropped inside
less_one : (p : Part) → LessPart p → LessLine (g.one p)
unfolding written Fits line_query
less_one p w = record { less = g.one w.less; fits = w.fits; tree = w.tree; dropped = w.dropped }

less-either-line : (l : Line) (p : Part) → PartFits p → LessLine l → LessLine (g.either l p)
unfolding written Fits line_query
less-either-line l p h w = record {
  less = g.either w.less p;
  fits = (w.fits, h);
  tree = ap (λ (q : Query). node c.Or q (part_query p)) w.tree;
  dropped = dropped-inside [] (written l) (written w.less) (124 ∷ part_text p) w.dropped;
}

-- a pair dropped behind a text
dropped-behind : (a s t : List ℕ) → Dropped s t → Dropped (a ++ s) (a ++ t)
dropped-behind a s t d =
    subst (λ (x : List ℕ). Dropped (a ++ x) (a ++ t)) (append-nil s)
    (subst (λ (y : List ℕ). Dropped (a ++ (s ++ [])) (a ++ y)) (append-nil t) (dropped-inside a s t [] d))

-- behind a byte
dropped-after : (a : List ℕ) (b : ℕ) (s t : List ℕ) → Dropped s t → Dropped (a ++ (b ∷ s)) (a ++ (b ∷ t))
dropped-after a b s t d = dropped-behind a (b ∷ s) (b ∷ t) (dropped-behind (b ∷ []) s t d)

less-either-part : (l : Line) (p : Part) → Fits l → LessPart p → LessLine (g.either l p)
unfolding written Fits line_query
less-either-part l p h w = record {
  less = g.either l w.less;
  fits = (h, w.fits);
  tree = ap (λ (q : Query). node c.Or (line_query l) q) w.tree;
  dropped = dropped-after (written l) 124 (part_text p) (part_text w.less) w.dropped;
}

less-alone : (i : Item) → LessItem i → LessPart (g.alone i)
unfolding written Fits line_query
less-alone i w = record { less = g.alone w.less; fits = w.fits; tree = w.tree; dropped = w.dropped }

less-join-part : (j : Joint) (p : Part) (i : Item) → ItemFits i → LessPart p → LessPart (g.join j p i)
unfolding written Fits line_query
less-join-part j p i h w = record {
  less = g.join j w.less i;
  fits = (w.fits, h);
  tree = ap (λ (q : Query). node (connective_of j) q (item_query i)) w.tree;
  dropped = dropped-inside [] (part_text p) (part_text w.less) (joint_byte j ∷ item_text i) w.dropped;
}

less-join-item : (j : Joint) (p : Part) (i : Item) → PartFits p → LessItem i → LessPart (g.join j p i)
unfolding written Fits line_query
less-join-item j p i h w = record {
  less = g.join j p w.less;
  fits = (h, w.fits);
  tree = ap (λ (q : Query). node (connective_of j) (part_query p) q) w.tree;
  dropped = dropped-after (part_text p) (joint_byte j) (item_text i) (item_text w.less) w.dropped;
}

less-round : (l : Line) → LessLine l → LessItem (g.round l)
unfolding written Fits line_query
less-round l w = record {
  less = g.round w.less;
  fits = w.fits;
  tree = w.tree;
  dropped = dropped-inside (40 ∷ []) (written l) (written w.less) (41 ∷ []) w.dropped;
}

-- as many lines are left, so the same byte stands in front of the next one
less-count : (ls : Lines) → (w : LessLines ls) → line_count w.less ≡ line_count ls
less-count ls w = lines-count w.less ∙ ap query_count w.tree ∙ sym (lines-count ls)

separator-same : (a b : Lines) → line_count a ≡ line_count b → separator a ≡ separator b
unfolding line_count
separator-same g.nil g.nil e = refl
separator-same g.nil (g.snoc b m) e = absurd (let z : ⊥ = omega arith in z)
separator-same (g.snoc a l) g.nil e = absurd (let z : ⊥ = omega arith in z)
separator-same (g.snoc a l) (g.snoc b m) e = refl

less-snoc-lines : (ls : Lines) (l : Line) → Fits l → LessLines ls → LessLines (g.snoc ls l)
unfolding written Fits line_query
less-snoc-lines ls l h w = record {
  less = g.snoc w.less l;
  fits = (w.fits, h);
  tree = ap (λ (qs : Queries). push qs (line_query l)) w.tree;
  dropped =
      subst (λ (b : ℕ). Dropped (lines_text ls ++ (separator ls ∷ written l)) (lines_text w.less ++ (b ∷ written l)))
      (sym (separator-same w.less ls (less-count ls w)))
      (dropped-inside [] (lines_text ls) (lines_text w.less) (separator ls ∷ written l) w.dropped);
}

less-snoc-line : (ls : Lines) (l : Line) → LinesFit ls → LessLine l → LessLines (g.snoc ls l)
unfolding written Fits line_query
less-snoc-line ls l h w = record {
  less = g.snoc ls w.less;
  fits = (h, w.fits);
  tree = ap (λ (q : Query). push (lines_queries ls) q) w.tree;
  dropped = dropped-after (lines_text ls) (separator ls) (written l) (written w.less) w.dropped;
}

less-at-least : (n : ℕ) (ls : Lines) → Several n (line_count ls) → LessLines ls → LessItem (g.at_least n ls)
unfolding written Fits line_query
less-at-least n ls h w = record {
  less = g.at_least n w.less;
  fits = (subst (Several n) (sym (less-count ls w)) h, w.fits);
  tree = ap (threshold n) w.tree;
  dropped = dropped-inside (60 ∷ digit n ∷ []) (lines_text ls) (lines_text w.less) (62 ∷ []) w.dropped;
}

-- tight forms put together
one-tight : (p : Part) → PartFits p → p ≡ (typed (part_query p)).part → (g.one p ≡ (typed (part_query p)).line) ⊎ LessLine (g.one p)
one-tight p h e =
    ⊎_elim
    (λ (x : (typed (part_query p)).line ≡ g.one (typed (part_query p)).part). inl (ap g.one e ∙ sym x))
    (λ (x : (typed (part_query p)).part ≡ g.alone (g.round (typed (part_query p)).line)).
    let y : p ≡ g.alone (g.round (typed (part_query p)).line) = e ∙ x in
    inr (subst (λ (z : Part). LessLine (g.one z)) (sym y)
    (line-round (typed (part_query p)).line (unround (typed (part_query p)).line (subst PartFits y h)))))
    (line_or (part_query p))

alone-tight : (i : Item) → ItemFits i → i ≡ (typed (item_query i)).item → (g.alone i ≡ (typed (item_query i)).part) ⊎ LessPart (g.alone i)
alone-tight i h e =
    ⊎_elim
    (λ (x : (typed (item_query i)).part ≡ g.alone (typed (item_query i)).item). inl (ap g.alone e ∙ sym x))
    (λ (x : (typed (item_query i)).item ≡ g.round (g.one (typed (item_query i)).part)).
    let y : i ≡ g.round (g.one (typed (item_query i)).part) = e ∙ x in
    inr (subst (λ (z : Item). LessPart (g.alone z)) (sym y)
    (part-round (typed (item_query i)).part (unround-part (typed (item_query i)).part (subst ItemFits y h)))))
    (part_or (item_query i))

round-tight : (l : Line) → Fits l → l ≡ (typed (line_query l)).line → (g.round l ≡ (typed (line_query l)).item) ⊎ LessItem (g.round l)
round-tight l h e =
    ⊎_elim
    (λ (x : (typed (line_query l)).item ≡ g.round (typed (line_query l)).line). inl (ap g.round e ∙ sym x))
    (λ (x : (typed (line_query l)).line ≡ g.one (g.alone (typed (line_query l)).item)).
    let y : l ≡ g.one (g.alone (typed (line_query l)).item) = e ∙ x in
    inr (subst (λ (z : Line). LessItem (g.round z)) (sym y)
    (item-round (typed (line_query l)).item (unround-item (typed (line_query l)).item (subst Fits y h)))))
    (item_or (line_query l))

either-typed : (a b : Query) → (typed (node c.Or a b)).line ≡ g.either (typed a).line (typed b).part
unfolding typed
either-typed a b = refl

at-least-typed : (n : ℕ) (qs : Queries) → (typed (threshold n qs)).item ≡ g.at_least n (typed_lines qs)
unfolding typed
at-least-typed n qs = refl

nil-typed : g.nil ≡ typed_lines (lines_queries g.nil)
unfolding typed line_query
nil-typed = refl

snoc-typed : (qs : Queries) (q : Query) → typed_lines (push qs q) ≡ g.snoc (typed_lines qs) (typed q).line
unfolding typed
snoc-typed qs q = refl

leaf-typed : (f : Figure) → FigureFits f → g.figure f ≡ (typed (leaf (pattern_of f))).item
unfolding typed
leaf-typed f h = ap g.figure (sym (figure_again f h))

mutual
  unfolding line_query Fits

  line-tight : (l : Line) → Fits l → (l ≡ (typed (line_query l)).line) ⊎ LessLine l
  line-tight (g.one p) h = ⊎_elim (one-tight p h) (λ (w : LessPart p). inr (less_one p w)) (part-tight p h)
  line-tight (g.either l p) h =
      ⊎_elim
      (λ (x : l ≡ (typed (line_query l)).line). ⊎_elim
      (λ (y : p ≡ (typed (part_query p)).part). inl (ap₂ g.either x y ∙ sym (either-typed (line_query l) (part_query p))))
      (λ (w : LessPart p). inr (less-either-part l p h.0 w)) (part-tight p h.1))
      (λ (w : LessLine l). inr (less-either-line l p h.1 w))
      (line-tight l h.0)

  part-tight : (p : Part) → PartFits p → (p ≡ (typed (part_query p)).part) ⊎ LessPart p
  part-tight (g.alone i) h = ⊎_elim (alone-tight i h) (λ (w : LessItem i). inr (less-alone i w)) (item-tight i h)
  part-tight (g.join j p i) h =
      ⊎_elim
      (λ (x : p ≡ (typed (part_query p)).part). ⊎_elim
      (λ (y : i ≡ (typed (item_query i)).item). inl (ap₂ (g.join j) x y ∙ sym (join-typed j (part_query p) (item_query i))))
      (λ (w : LessItem i). inr (less-join-item j p i h.0 w)) (item-tight i h.1))
      (λ (w : LessPart p). inr (less-join-part j p i h.1 w))
      (part-tight p h.0)

  item-tight : (i : Item) → ItemFits i → (i ≡ (typed (item_query i)).item) ⊎ LessItem i
  item-tight (g.figure f) h = inl (leaf-typed f h)
  item-tight (g.round l) h = ⊎_elim (round-tight l h) (λ (w : LessLine l). inr (less-round l w)) (line-tight l h)
  item-tight (g.at_least n ls) h =
      ⊎_elim
      (λ (e : ls ≡ typed_lines (lines_queries ls)). inl (ap (g.at_least n) e ∙ sym (at-least-typed n (lines_queries ls))))
      (λ (w : LessLines ls). inr (less-at-least n ls h.0 w))
      (lines-tight ls h.1)

  lines-tight : (ls : Lines) → LinesFit ls → (ls ≡ typed_lines (lines_queries ls)) ⊎ LessLines ls
  lines-tight g.nil h = inl nil-typed
  lines-tight (g.snoc ls l) h =
      ⊎_elim
      (λ (x : ls ≡ typed_lines (lines_queries ls)). ⊎_elim
      (λ (y : l ≡ (typed (line_query l)).line). inl (ap₂ g.snoc x y ∙ sym (snoc-typed (lines_queries ls) (line_query l))))
      (λ (w : LessLine l). inr (less-snoc-line ls l h.0 w)) (line-tight l h.1))
      (λ (w : LessLines ls). inr (less-snoc-lines ls l h.1 w))
      (lines-tight ls h.0)

-- a line is that of its tree, or has a pair to spare
less_spare : (l : Line) → (w : LessLine l) → Spare l (written w.less)
less_spare l w = record {
  dropped = w.dropped;
  line = w.less;
  fits = w.fits;
  text = refl;
  rows = line-rows w.less ∙ ap query_rows w.tree ∙ sym (line-rows l);
}

-- a line without a pair that could be dropped is that of its tree
pub tight : (l : Line) → Fits l → ((t : List ℕ) → Spare l t → ⊥) → l ≡ (typed (line_query l)).line
tight l h none = ⊎_elim (λ e. e) (λ (w : LessLine l). absurd (none (written w.less) (less_spare l w))) (line-tight l h)

-- the line of a tree has none to spare
pub none_spare : (q : Query) (t : List ℕ) → Spare (typed q).line t → line_query (typed q).line ≡ q → ⊥
none_spare q t s e =
    let l = s.line in
    let rows = sym (line-rows l) ∙ s.rows ∙ line-rows (typed q).line in
    let same : line_query l ≡ q = rows-tree (line_query l) (line_query (typed q).line) rows ∙ e in
    let few : rounds (typed q).line ≤ rounds l = subst (λ (x : Query). rounds (typed x).line ≤ rounds l) same (line-fewest l) in
    let a = line-parens (typed q).line in
    let b = line-parens s.line in
    let c = ap parens s.text in
    let d = dropped-parens (written (typed q).line) t s.dropped in
    omega arith

-- the tree of a line's rows is the line's
pub line-tree : (l : Line) → query_of (line_rows l) ≡ line_query l
unfolding query_of
line-tree l = ap (λ (qs : List Query). get_or qs 0 (leaf no_row)) (ap (queries_from no_row []) (line-rows l) ∙ query-alone (line_query l))

-- the line of a line's rows is that of its tree
plan-of-line : (l : Line) → Fits l → plan_line (plan_of (line_rows l)) ≡ (typed (line_query l)).line
unfolding plan_line
plan-of-line l h = ap (λ (q : Query). (typed q).line) (ap query_of (line-back l h) ∙ line-tree l)

-- a line's rows are written as the line itself exactly if none could be dropped
pub comes_back : (l : Line) → Fits l → (plan_text (plan_of (line_rows l)) ≡ written l) ↔ ((t : List ℕ) → Spare l t → ⊥)
unfolding plan_text
comes_back l h = (there, λ none. ap written (plan-of-line l h ∙ sym (tight l h none)))
  where
    there : written (plan_line (plan_of (line_rows l))) ≡ written l → (t : List ℕ) → Spare l t → ⊥
    there e t s =
        let same = rows-tree (line_query s.line) (line_query l) (sym (line-rows s.line) ∙ s.rows ∙ line-rows l) in
        let few = subst (λ (x : Query). rounds (typed x).line ≤ rounds s.line) same (line-fewest s.line) in
        let a = line-parens (typed (line_query l)).line in
        let b = line-parens s.line in
        let c = ap parens s.text in
        let d = dropped-parens (written l) t s.dropped in
        let f = ap parens (ap written (sym (plan-of-line l h)) ∙ e) in
        omega arith
