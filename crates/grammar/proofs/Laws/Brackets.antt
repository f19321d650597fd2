-- The round brackets of a line are those of its text. No contract cites this file.
--     parens_append, parens_open, parens-close    how many a text opens, piece by piece
--     line-parens                                 as many as the line has
-- Assumes nothing.
use Prim.Native.Nat.{ℕ, zero, suc, ◌+◌, ◌/◌, ◌%◌, ◌<◌, ◌≤◌}
use native.Mathlib.Omega.{arith}
use mathlib.Core.Path.{◌≡◌, refl, ap, ap₂, ◌∙◌}
use mathlib.Core.Bool.{Bool}
use mathlib.Core.Logic.{⊎_elim}
use mathlib.Core.List.{List, [], ◌∷◌, ◌++◌, map}
use lib.Dec.{eqb}
use lib.ListN.{length, length-append}
use borrow.Author.Tests.{ne_eqb}
use Rattle.seq.specs.Lists.{keep, joined}
use Rattle.seq.proofs.Laws.Tests.{below_or}
use Rattle.seq.proofs.Laws.Keep.{keep_append}
use Rattle.seq.specs.Decimal.{digit, decimal_f, decimal}
use Rattle.grammar.specs.Text.{lead}
use Rattle.grammar.specs.Grammar as g
use Rattle.grammar.specs.Grammar.{Word, Condition, Figure, Joint, Line, Part, Item, Lines, letter_of, joint_byte, condition_text}
use Rattle.grammar.specs.Grammar.{open_text, figure_text, separator, written, part_text, item_text, lines_text}
use Rattle.grammar.specs.Brackets.{parens, rounds, part_rounds, item_rounds, lines_rounds}
use Rattle.grammar.proofs.Laws.Balance.{one, keep_cons}
use Rattle.seq.proofs.Laws.Decimal.{decimal-one, decimal-more}

parens_cons : (b : ℕ) (s : List ℕ) → parens (b ∷ s) ≡ one (eqb b 40) + parens s
parens_cons b s = keep_cons (λ x. eqb x 40) b s

-- two texts, one behind the other
pub parens_append : (s r : List ℕ) → parens (s ++ r) ≡ parens s + parens r
parens_append s r =
    ap length (keep_append (λ b. eqb b 40) s r) ∙ length-append (keep (λ b. eqb b 40) s) (keep (λ b. eqb b 40) r)

other : (b : ℕ) (s : List ℕ) → (b ≡ 40 → ⊥) → parens (b ∷ s) ≡ parens s
other b s h = parens_cons b s ∙ ap (λ (t : Bool). one t + parens s) (ne_eqb b 40 h) ∙ (let z : 0 + parens s ≡ parens s = omega arith in z)

-- `(` opens one
pub parens_open : (s : List ℕ) → parens (40 ∷ s) ≡ suc (parens s)
parens_open s = parens_cons 40 s ∙ (let z : 1 + parens s ≡ suc (parens s) = omega arith in z)

-- `)` opens none
pub parens-close : (s : List ℕ) → parens (41 ∷ s) ≡ parens s
parens-close s = other 41 s (λ e. omega arith)

nothing : parens [] ≡ 0
unfolding keep
nothing = refl

decimal-none : (f n : ℕ) → parens (decimal_f f n) ≡ 0
unfolding decimal_f keep
decimal-none zero n = refl
decimal-none (suc f) n =
    ⊎_elim
    (λ (l : n < 10). ap parens (decimal-one f n l) ∙ other (digit n) [] (λ e. omega arith))
    (λ (l : 10 ≤ n). ap parens (decimal-more f n l)
    ∙ parens_append (decimal_f f (n / 10)) (digit (n % 10) ∷ [])
    ∙ ap₂ (λ (x y : ℕ). x + y) (decimal-none f (n / 10)) (other (digit (n % 10)) [] (λ e. omega arith)))
    (below_or n 10)

lead-none : (b : ℕ) (ns : List ℕ) → (b ≡ 40 → ⊥) → parens (lead b ns) ≡ 0
unfolding lead decimal keep
lead-none b [] h = refl
lead-none b (n ∷ ns) h =
    let x = parens_append (b ∷ decimal n) (lead 32 ns) in
    let y = other b (decimal n) h in
    let z = decimal-none (suc n) n in
    let r = lead-none 32 ns (λ e. omega arith) in
    omega arith

condition-none : (c : Condition) → parens (condition_text c) ≡ 0
condition-none c =
    other 59 (letter_of c.word ∷ lead 32 c.numbers) (λ e. omega arith)
    ∙ other (letter_of c.word) (lead 32 c.numbers) (letter c.word)
    ∙ lead-none 32 c.numbers (λ e. omega arith)
  where
    letter : (w : Word) → letter_of w ≡ 40 → ⊥
    letter g.near e = omega arith
    letter g.before e = omega arith
    letter g.same e = omega arith
    letter g.span e = omega arith
    letter g.apart e = omega arith

conditions-none : (cs : List Condition) → parens (joined (map condition_text cs)) ≡ 0
unfolding joined keep
conditions-none [] = refl
conditions-none (c ∷ cs) =
    parens_append (condition_text c) (joined (map condition_text cs)) ∙ ap₂ (λ (x y : ℕ). x + y) (condition-none c) (conditions-none cs)

figure-none : (f : Figure) → parens (figure_text f) ≡ 0
unfolding figure_text open_text
figure-none f =
    let a = lead-none 91 f.lists (λ e. omega arith) in
    let b = conditions-none f.conditions in
    let x = parens_append (lead 91 f.lists) (joined (map condition_text f.conditions)) in
    let y = parens_append (lead 91 f.lists ++ joined (map condition_text f.conditions)) (93 ∷ []) in
    let z = other 93 [] (λ e. omega arith) ∙ nothing in
    omega arith

joint-other : (j : Joint) → joint_byte j ≡ 40 → ⊥
joint-other g.both e = omega arith
joint-other g.without e = omega arith

separator-other : (ls : Lines) → separator ls ≡ 40 → ⊥
separator-other g.nil e = omega arith
separator-other (g.snoc ls l) e = omega arith

-- as many as the text opens
mutual
  unfolding written rounds

  -- the text of a line opens as many as the line has
  pub line-parens : (l : Line) → parens (written l) ≡ rounds l
  line-parens (g.one p) = part-parens p
  line-parens (g.either l p) =
      let a = line-parens l in
      let b = part-parens p in
      let x = parens_append (written l) (124 ∷ part_text p) in
      let y = other 124 (part_text p) (λ e. omega arith) in
      omega arith

  pub part-parens : (p : Part) → parens (part_text p) ≡ part_rounds p
  part-parens (g.alone i) = item-parens i
  part-parens (g.join j p i) =
      let a = part-parens p in
      let b = item-parens i in
      let x = parens_append (part_text p) (joint_byte j ∷ item_text i) in
      let y = other (joint_byte j) (item_text i) (joint-other j) in
      omega arith

  pub item-parens : (i : Item) → parens (item_text i) ≡ item_rounds i
  item-parens (g.figure f) = figure-none f
  item-parens (g.round l) =
      let a = line-parens l in
      let x = parens_append (written l) (41 ∷ []) in
      let y = other 41 [] (λ e. omega arith) ∙ nothing in
      let z = parens_cons 40 (written l ++ (41 ∷ [])) in
      omega arith
  item-parens (g.at_least n ls) =
      let a = lines-parens ls in
      let x = parens_append (lines_text ls) (62 ∷ []) in
      let y = other 62 [] (λ e. omega arith) ∙ nothing in
      let z = other (digit n) (lines_text ls ++ (62 ∷ [])) (λ e. omega arith) in
      let w = other 60 (digit n ∷ (lines_text ls ++ (62 ∷ []))) (λ e. omega arith) in
      omega arith

  pub lines-parens : (ls : Lines) → parens (lines_text ls) ≡ lines_rounds ls
  lines-parens g.nil = nothing
  lines-parens (g.snoc ls l) =
      let a = lines-parens ls in
      let b = line-parens l in
      let x = parens_append (lines_text ls) (separator ls ∷ written l) in
      let y = other (separator ls) (written l) (separator-other ls) in
      omega arith
