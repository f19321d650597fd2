-- What has been read is what the text says, and keeps to the grammar's limits: the laws of `step` and `shown`. No contract cites this file.
--     split                    a statement on a choice, by its test
--     Grows, grows_tells       a number grows by a digit
--     PartialFits, NextTold, step_in-told     one more byte of a figure
--     FrontFits, ContextFits, BracketsFit    what stands in front, and the open brackets
--     Sound, StepTold, step-told             one more byte of a line
--     line-text, line-fits     a line whose last part is taken apart
-- Assumes nothing.
use Prim.Native.Nat.{ℕ, zero, suc, ◌+◌, ◌-◌, ◌<◌, ◌≤◌, max}
use native.Mathlib.Omega.{arith}
use mathlib.Core.Path.{◌≡◌, refl, sym, ap, ◌∙◌}
use mathlib.Core.Bool.{Bool, true, false, cond, ◌&&◌}
use mathlib.Core.List.{List, [], ◌∷◌, ◌++◌, map, map-append, append_assoc, append-nil}
use mathlib.Core.Option.{Option, none, some}
use lib.Dec.{eqb, leb, ltb}
use lib.ListN.{length}
use borrow.Author.Tests.{ltb-true, ltb-false, leb-true, eqb-true}
use Rattle.seq.specs.Lists.{joined}
use Rattle.seq.proofs.Laws.Tests.{both}
use Rattle.seq.proofs.Laws.Lists.{joined_append, each_snoc, length-snoc}
use Rattle.seq.specs.Decimal.{digit, decimal}
use Rattle.grammar.specs.Text.{lead, gap_after}
use Rattle.grammar.specs.Grammar as g
use Rattle.grammar.specs.Grammar.{Word, Condition, Figure, Joint, Line, Part, Item, Lines, letter_of, arity, most_of, condition_text}
use Rattle.grammar.specs.Grammar.{open_text, figure_text, line_count, separator, written, part_text, item_text, lines_text, Within}
use Rattle.grammar.specs.Grammar.{ConditionFits, FigureFits, fewest_lines, most_lines, Several, Fits, PartFits, ItemFits, LinesFit}
use Rattle.grammar.specs.Grammar.{no_condition, joint_byte}
use Rattle.grammar.specs.Reading.{Number, fresh, digits, may_grow, is_digit, grown, grows, Partial, listing, semicolon, lettered}
use Rattle.grammar.specs.Reading.{counting, Next, goes, closes, stuck, first_lists, with_condition, behind, ending, step_in, Front, bare}
use Rattle.grammar.specs.Reading.{eithers, Context, first, next, Bracket, rounded, among, Config, ready, inside, after, opened}
use Rattle.grammar.specs.Reading.{numbered, line_of, filled, shut, parted, ended, within, step, number_text, partial_text, front_text}
use Rattle.grammar.specs.Reading.{context_text, opened_text, shown}
use Rattle.seq.proofs.Laws.Decimal.{decimal_digit, decimal_grow}
use Rattle.grammar.proofs.Laws.Text.{gap_32, lead-behind}
use Rattle.grammar.proofs.Laws.Limits.{some-arity}

-- a statement on either branch
pub split : {A : Type 0} (P : A → Type 0) (t : Bool) (x y : A) → (t ≡ true → P x) → (t ≡ false → P y) → P (cond t x y)
split P true x y f h = f refl
split P false x y f h = h refl

-- what `grows` tells
pub record Grows (most : ℕ) (x : Number) (b : ℕ) : Type 0 where
  pub low : 48 ≤ b
  pub high : b ≤ 57
  pub may : may_grow x ≡ true
  pub small : grown x b ≤ most

-- a number that grows does so by a digit, with no zero in front and within the limit
pub grows_tells : (most : ℕ) (x : Number) (b : ℕ) → grows most x b ≡ true → Grows most x b
unfolding grows
grows_tells most x b e =
    let d = both (is_digit b) (may_grow x && leb (grown x b) most) e in
    let r = both (leb 48 b) (leb b 57) d.0 in
    let m = both (may_grow x) (leb (grown x b) most) d.1 in
    record { low = leb-true 48 b r.0; high = leb-true b 57 r.1; may = m.0; small = leb-true (grown x b) most m.1 }

-- the text of a number that has grown
grow-text : (a : ℕ) (ns : List ℕ) (most : ℕ) (x : Number) (b : ℕ) → Grows most x b
    → number_text a ns (digits (grown x b)) ≡ number_text a ns x ++ (b ∷ [])
grow-text a ns most fresh b w =
    let l = w.low in
    let h = w.high in
    let e : digit (grown fresh b) ≡ b = omega arith in
    lead-behind a ns (grown fresh b)
    ∙ ap (λ (xs : List ℕ). lead a ns ++ (gap_after a ns ∷ xs)) (decimal_digit (grown fresh b) (omega arith) ∙ ap (λ (k : ℕ). k ∷ []) e)
    ∙ sym (append_assoc (lead a ns) (gap_after a ns ∷ []) (b ∷ []))
grow-text a ns most (digits n) b w =
    let l = w.low in
    let h = w.high in
    let p = ltb-true 0 n w.may in
    let e : digit (b - 48) ≡ b = omega arith in
    lead-behind a ns (grown (digits n) b)
    ∙ ap (λ (xs : List ℕ). lead a ns ++ (gap_after a ns ∷ xs))
    (decimal_grow n (b - 48) p (omega arith) ∙ ap (λ (k : ℕ). decimal n ++ (k ∷ [])) e)
    ∙ sym (append_assoc (lead a ns) (gap_after a ns ∷ decimal n) (b ∷ []))
    ∙ ap (λ (xs : List ℕ). xs ++ (b ∷ [])) (sym (lead-behind a ns n))

-- numbers within limits, with one more
pub within-behind : (most : ℕ → ℕ) (ns : List ℕ) (n : ℕ) → Within most ns → n ≤ most (length ns) → Within most (behind ns n)
within-behind most [] n h k zero l = k
within-behind most [] n h k (suc i) l = absurd (let z : ⊥ = omega arith in z)
within-behind most (m ∷ ns) n h k zero l = h 0 (omega arith)
within-behind most (m ∷ ns) n h k (suc i) l = within-behind (λ j. most (suc j)) ns n (λ j q. h (suc j) (omega arith)) k i (omega arith)

-- what has been read keeps to the grammar's limits
abbrev pub NumberFits : ℕ → Number → Type 0
NumberFits most fresh = Unit
NumberFits most (digits n) = n ≤ most

pub record Listed (ns : List ℕ) (x : Number) : Type 0 where
  pub numbers : Within (λ i. 65536) ns
  pub last : NumberFits 65536 x

pub record Counted (f : Figure) (w : Word) (ns : List ℕ) (x : Number) : Type 0 where
  pub of : FigureFits f
  pub room : length ns < arity w
  pub numbers : Within (most_of w) ns
  pub last : NumberFits (most_of w (length ns)) x

-- a figure so far keeps to the limits
abbrev pub PartialFits : Partial → Type 0
PartialFits (listing ns x) = Listed ns x
PartialFits (semicolon f) = FigureFits f
PartialFits (lettered f w) = FigureFits f
PartialFits (counting f w ns x) = Counted f w ns x

-- what the next byte of a figure makes: its text, and the limits
abbrev pub NextTold : List ℕ → Next → Type 0
NextTold s (goes f) = (partial_text f ≡ s) × PartialFits f
NextTold s (closes f) = (figure_text f ≡ s) × FigureFits f
NextTold s stuck = Unit

lists_fit : (ns : List ℕ) (n : ℕ) → Listed ns (digits n) → FigureFits (first_lists (behind ns n))
lists_fit ns n h = record {
  some-list = let e = length-snoc ns n in omega arith;
  within = within-behind (λ i. 65536) ns n h.numbers h.last;
  conditions = λ i l. absurd (let z : ⊥ = omega arith in z);
}

condition-fits : (f : Figure) (w : Word) (ns : List ℕ) (n : ℕ) → Counted f w ns (digits n) → (ltb (length ns + 1) (arity w) ≡ false)
    → FigureFits (with_condition f w (behind ns n))
condition-fits f w ns n h e = record {
  some-list = h.of.some-list;
  within = h.of.within;
  conditions = each_snoc ConditionFits no_condition (record { word = w; numbers = behind ns n }) f.conditions h.of.conditions
      (record {
        count =
            let l = ltb-false (length ns + 1) (arity w) e in
            let r = h.room in
            let s = length-snoc ns n in
            omega arith;
        within = within-behind (most_of w) ns n h.numbers h.last;
      });
}

-- the text of a figure without conditions
open-lists : (ns : List ℕ) → open_text (first_lists ns) ≡ lead 91 ns
unfolding open_text joined
open-lists ns = append-nil (lead 91 ns)

map_snoc : (cs : List Condition) (c : Condition)
    → joined (map condition_text (cs ++ (c ∷ []))) ≡ joined (map condition_text cs) ++ condition_text c
unfolding joined
map_snoc cs c =
    ap joined (map-append condition_text cs (c ∷ []))
    ∙ joined_append (map condition_text cs) (condition_text c ∷ [])
    ∙ ap (λ (l : List ℕ). joined (map condition_text cs) ++ l) (append-nil (condition_text c))

-- the text of a figure with one condition more
open-condition : (f : Figure) (w : Word) (ns : List ℕ) → open_text (with_condition f w ns) ≡ open_text f ++ (59 ∷ letter_of w ∷ lead 32 ns)
unfolding open_text
open-condition f w ns =
    ap (λ (l : List ℕ). lead 91 f.lists ++ l) (map_snoc f.conditions (record { word = w; numbers = ns }))
    ∙ sym (append_assoc (lead 91 f.lists) (joined (map condition_text f.conditions)) (59 ∷ letter_of w ∷ lead 32 ns))

ending-told : (f : Figure) (b : ℕ) → FigureFits f → NextTold (open_text f ++ (b ∷ [])) (ending f b)
unfolding partial_text figure_text
ending-told f b h =
    split (NextTold (open_text f ++ (b ∷ []))) (eqb b 59) _ _
    (λ e. (ap (λ (k : ℕ). open_text f ++ (k ∷ [])) (sym (eqb-true b 59 e)), h))
    (λ n. split (NextTold (open_text f ++ (b ∷ []))) (eqb b 93) _ _
    (λ e. (ap (λ (k : ℕ). open_text f ++ (k ∷ [])) (sym (eqb-true b 93 e)), h)) (λ m. tt))

-- behind a number stands a space
gap-behind : (a : ℕ) (ns : List ℕ) (n : ℕ) → gap_after a (behind ns n) ≡ 32
gap-behind a [] n = refl
gap-behind a (x ∷ xs) n = refl

-- one more byte of a figure: its text has the byte behind it, and the limits are kept
pub step_in-told : (f : Partial) (b : ℕ) → PartialFits f → NextTold (partial_text f ++ (b ∷ [])) (step_in f b)
unfolding step_in partial_text
step_in-told (listing ns fresh) b h =
    split (NextTold (number_text 91 ns fresh ++ (b ∷ []))) (grows 65536 fresh b) _ _
    (λ e. let w = grows_tells 65536 fresh b e in (grow-text 91 ns 65536 fresh b w, record { numbers = h.numbers; last = w.small }))
    (λ e. tt)
step_in-told (listing ns (digits n)) b h =
    split (NextTold (number_text 91 ns (digits n) ++ (b ∷ []))) (grows 65536 (digits n) b) _ _
    (λ e.
    let w = grows_tells 65536 (digits n) b e in
    (grow-text 91 ns 65536 (digits n) b w, record { numbers = h.numbers; last = w.small }))
    (λ e. split (NextTold (number_text 91 ns (digits n) ++ (b ∷ []))) (eqb b 32) _ _
    (λ q. (
      ap (λ (k : ℕ). lead 91 (behind ns n) ++ (k ∷ [])) (gap-behind 91 ns n ∙ sym (eqb-true b 32 q)),
      record { numbers = within-behind (λ i. 65536) ns n h.numbers h.last; last = tt },
    ))
    (λ q. rw (open-lists (behind ns n)) at (ending-told (first_lists (behind ns n)) b (lists_fit ns n h))))
step_in-told (semicolon f) b h =
    split (NextTold ((open_text f ++ (59 ∷ [])) ++ (b ∷ []))) (eqb b 110) _ _ (λ e. (letter-text f g.near b e, h))
    (λ _. split (NextTold ((open_text f ++ (59 ∷ [])) ++ (b ∷ []))) (eqb b 98) _ _ (λ e. (letter-text f g.before b e, h))
    (λ _. split (NextTold ((open_text f ++ (59 ∷ [])) ++ (b ∷ []))) (eqb b 116) _ _ (λ e. (letter-text f g.same b e, h))
    (λ _. split (NextTold ((open_text f ++ (59 ∷ [])) ++ (b ∷ []))) (eqb b 115) _ _ (λ e. (letter-text f g.span b e, h))
    (λ _. split (NextTold ((open_text f ++ (59 ∷ [])) ++ (b ∷ []))) (eqb b 97) _ _ (λ e. (letter-text f g.apart b e, h))
    (λ _. tt)))))
  where
    letter-text : (f : Figure) (w : Word) (b : ℕ) → eqb b (letter_of w) ≡ true
        → open_text f ++ (59 ∷ letter_of w ∷ []) ≡ (open_text f ++ (59 ∷ [])) ++ (b ∷ [])
    letter-text f w b e =
        ap (λ (k : ℕ). open_text f ++ (59 ∷ k ∷ [])) (sym (eqb-true b (letter_of w) e)) ∙ sym (append_assoc (open_text f) (59 ∷ []) (b ∷ []))
step_in-told (lettered f w) b h =
    split (NextTold ((open_text f ++ (59 ∷ letter_of w ∷ [])) ++ (b ∷ []))) (eqb b 32) _ _
    (λ e. (
      ap (λ (k : ℕ). open_text f ++ (59 ∷ letter_of w ∷ k ∷ [])) (sym (eqb-true b 32 e))
          ∙ sym (append_assoc (open_text f) (59 ∷ letter_of w ∷ []) (b ∷ [])),
      record { of = h; room = some-arity w; numbers = λ i l. absurd (let z : ⊥ = omega arith in z); last = tt },
    ))
    (λ e. tt)
step_in-told (counting f w ns fresh) b h =
    let most = most_of w (length ns) in
    split (NextTold ((open_text f ++ (59 ∷ letter_of w ∷ number_text 32 ns fresh)) ++ (b ∷ []))) (grows most fresh b) _ _
    (λ e. let r = grows_tells most fresh b e in (
      ap (λ (l : List ℕ). open_text f ++ (59 ∷ letter_of w ∷ l)) (grow-text 32 ns most fresh b r)
          ∙ sym (append_assoc (open_text f) (59 ∷ letter_of w ∷ number_text 32 ns fresh) (b ∷ [])),
      record { of = h.of; room = h.room; numbers = h.numbers; last = r.small },
    ))
    (λ e. tt)
step_in-told (counting f w ns (digits n)) b h =
    let most = most_of w (length ns) in
    split (NextTold ((open_text f ++ (59 ∷ letter_of w ∷ number_text 32 ns (digits n))) ++ (b ∷ []))) (grows most (digits n) b) _ _
    (λ e. let r = grows_tells most (digits n) b e in (
      ap (λ (l : List ℕ). open_text f ++ (59 ∷ letter_of w ∷ l)) (grow-text 32 ns most (digits n) b r)
          ∙ sym (append_assoc (open_text f) (59 ∷ letter_of w ∷ number_text 32 ns (digits n)) (b ∷ [])),
      record { of = h.of; room = h.room; numbers = h.numbers; last = r.small },
    ))
    (λ e. split (NextTold ((open_text f ++ (59 ∷ letter_of w ∷ number_text 32 ns (digits n))) ++ (b ∷ []))) (ltb (length ns + 1) (arity w)) _ _
    (λ m. split (NextTold ((open_text f ++ (59 ∷ letter_of w ∷ number_text 32 ns (digits n))) ++ (b ∷ []))) (eqb b 32) _ _
    (λ q. (
      ap (λ (k : ℕ). open_text f ++ (59 ∷ letter_of w ∷ (lead 32 (behind ns n) ++ (k ∷ [])))) (gap_32 (behind ns n) ∙ sym (eqb-true b 32 q))
          ∙ sym (append_assoc (open_text f) (59 ∷ letter_of w ∷ lead 32 (behind ns n)) (b ∷ [])),
      record {
        of = h.of;
        room = let e = length-snoc ns n in let l = ltb-true (length ns + 1) (arity w) m in omega arith;
        numbers = within-behind (most_of w) ns n h.numbers h.last;
        last = tt;
      },
    ))
    (λ q. tt))
    (λ m. rw (open-condition f w (behind ns n)) at (ending-told (with_condition f w (behind ns n)) b (condition-fits f w ns n h m))))

-- what stands in front keeps to the limits
abbrev pub FrontFits : Front → Type 0
FrontFits bare = Unit
FrontFits (eithers l) = Fits l

abbrev pub ContextFits : Context → Type 0
ContextFits (first f) = FrontFits f
ContextFits (next f p j) = FrontFits f × PartFits p

-- the number behind `<` is from 1 to 8
pub record NumberTaken (n : ℕ) : Type 0 where
  pub some : 1 ≤ n
  pub few : n ≤ most_lines

-- and the lines behind it are fewer than eight: one more is to come
pub record AmongFits (n : ℕ) (ls : Lines) : Type 0 where
  pub number : NumberTaken n
  pub room : line_count ls < most_lines
  pub lines : LinesFit ls

-- an open bracket keeps to the limits
abbrev pub BracketFits : Bracket → Type 0
BracketFits (rounded p) = ContextFits p
BracketFits (among n ls p) = AmongFits n ls × ContextFits p

-- and so do all open brackets
unfoldable pub BracketsFit : List Bracket → Type 0
BracketsFit [] = Unit
BracketsFit (x ∷ ps) = BracketFits x × BracketsFit ps

-- all that has been read keeps to the limits
abbrev pub Sound : Config → Type 0
Sound (ready p ps) = ContextFits p × BracketsFit ps
Sound (inside f p ps) = PartialFits f × ContextFits p × BracketsFit ps
Sound (after f p ps) = FrontFits f × PartFits p × BracketsFit ps
Sound (opened p ps) = ContextFits p × BracketsFit ps
Sound (numbered n p ps) = NumberTaken n × ContextFits p × BracketsFit ps

-- what one more byte makes: its text, and the limits
abbrev pub StepTold : List ℕ → Option Config → Type 0
StepTold s none = Unit
StepTold s (some c) = (shown c ≡ s) × Sound c

-- the text of a line by its last part
pub line-text : (f : Front) (p : Part) → written (line_of f p) ≡ front_text f ++ part_text p
unfolding written
line-text bare p = refl
line-text (eithers l) p = sym (append_assoc (written l) (124 ∷ []) (part_text p))

-- its limits by its last part
pub line-fits : (f : Front) (p : Part) → FrontFits f → PartFits p → Fits (line_of f p)
unfolding Fits
line-fits bare p h k = k
line-fits (eithers l) p h k = (h, k)

filled-text : (p : Context) (i : Item) (ps : List Bracket) → shown (filled p i ps) ≡ opened_text ps ++ (context_text p ++ item_text i)
unfolding shown written
filled-text (first f) i ps = refl
filled-text (next f q j) i ps =
    ap (λ (l : List ℕ). opened_text ps ++ l)
    (ap (λ (l : List ℕ). front_text f ++ l) (sym (append_assoc (part_text q) (joint_byte j ∷ []) (item_text i)))
    ∙ sym (append_assoc (front_text f) (part_text q ++ (joint_byte j ∷ [])) (item_text i)))

filled-sound : (p : Context) (i : Item) (ps : List Bracket) → ContextFits p → ItemFits i → BracketsFit ps → Sound (filled p i ps)
unfolding Fits
filled-sound (first f) i ps h k m = (h, k, m)
filled-sound (next f q j) i ps h k m = (h.0, (h.1, k), m)

-- a byte behind what has been read
snoc-last : (a c : List ℕ) (b : ℕ) → a ++ (c ++ (b ∷ [])) ≡ (a ++ c) ++ (b ∷ [])
snoc-last a c b = sym (append_assoc a c (b ∷ []))

inside-told : (f : Next) (p : Context) (ps : List Bracket) (s : List ℕ) (b : ℕ) → NextTold (s ++ (b ∷ [])) f → ContextFits p
    → BracketsFit ps
    → StepTold ((opened_text ps ++ (context_text p ++ s)) ++ (b ∷ [])) (within f p ps)
unfolding shown written Fits
inside-told (goes f) p ps s b h k m = (
  ap (λ (l : List ℕ). opened_text ps ++ (context_text p ++ l)) h.0
      ∙ ap (λ (l : List ℕ). opened_text ps ++ l) (snoc-last (context_text p) s b)
      ∙ snoc-last (opened_text ps) (context_text p ++ s) b,
  (h.1, k, m),
)
inside-told (closes f) p ps s b h k m = (
  filled-text p (g.figure f) ps
      ∙ ap (λ (l : List ℕ). opened_text ps ++ (context_text p ++ l)) h.0
      ∙ ap (λ (l : List ℕ). opened_text ps ++ l) (snoc-last (context_text p) s b)
      ∙ snoc-last (opened_text ps) (context_text p ++ s) b,
  filled-sound p (g.figure f) ps k h.1 m,
)
inside-told stuck p ps s b h k m = tt

shut-told : (f : Front) (q : Part) (ps : List Bracket) (b : ℕ) → b ≡ 41 → FrontFits f → PartFits q → BracketsFit ps
    → StepTold (shown (after f q ps) ++ (b ∷ [])) (shut (line_of f q) ps)
unfolding shown written Fits BracketsFit
shut-told f q [] b e h k m = tt
shut-told f q (among n ls p ∷ ps) b e h k m = tt
shut-told f q (rounded p ∷ ps) b e h k m = (
  filled-text p (g.round (line_of f q)) ps
      ∙ ap (λ (l : List ℕ). opened_text ps ++ (context_text p ++ (40 ∷ (l ++ (41 ∷ []))))) (line-text f q)
      ∙ ap (λ (x : ℕ). opened_text ps ++ (context_text p ++ (40 ∷ ((front_text f ++ part_text q) ++ (x ∷ []))))) (sym e)
      ∙ simp append_assoc,
  filled-sound p (g.round (line_of f q)) ps m.0 (line-fits f q h k) m.1,
)

-- lines with one more, and a byte behind them
lines-text : (ls : Lines) (f : Front) (q : Part) (b : ℕ)
    → lines_text (g.snoc ls (line_of f q)) ++ (b ∷ []) ≡ (lines_text ls ++ (separator ls ∷ [])) ++ ((front_text f ++ part_text q) ++ (b ∷ []))
unfolding written
lines-text ls f q b = rw (line-text f q) (simp append_assoc)

parted-told : (f : Front) (q : Part) (ps : List Bracket) (b : ℕ) → b ≡ 44 → FrontFits f → PartFits q → BracketsFit ps
    → StepTold (shown (after f q ps) ++ (b ∷ [])) (parted (line_of f q) ps)
unfolding shown BracketsFit Fits line_count
parted-told f q [] b e h k m = tt
parted-told f q (rounded p ∷ ps) b e h k m = tt
parted-told f q (among n ls p ∷ ps) b e h k m =
    split (StepTold (shown (after f q (among n ls p ∷ ps)) ++ (b ∷ []))) (ltb (line_count (g.snoc ls (line_of f q))) most_lines) _ _
    (λ t. (
      append-nil (opened_text ps ++ (context_text p ++ (60 ∷ digit n ∷ (lines_text (g.snoc ls (line_of f q)) ++ (44 ∷ [])))))
          ∙ ap (λ (x : ℕ). opened_text ps ++ (context_text p ++ (60 ∷ digit n ∷ (lines_text (g.snoc ls (line_of f q)) ++ (x ∷ []))))) (sym e)
          ∙ ap (λ (l : List ℕ). opened_text ps ++ (context_text p ++ (60 ∷ digit n ∷ l))) (lines-text ls f q b)
          ∙ simp append_assoc,
      (tt, ((more t, m.0.1), m.1)),
    ))
    (λ t. tt)
  where
    more : ltb (line_count (g.snoc ls (line_of f q))) most_lines ≡ true → AmongFits n (g.snoc ls (line_of f q))
    more t = record {
      number = m.0.0.number;
      room = ltb-true (line_count (g.snoc ls (line_of f q))) most_lines t;
      lines = (m.0.0.lines, line-fits f q h k);
    }

-- lines that are enough
enough-lines : (n : ℕ) (ls : Lines) (l : Line) → AmongFits n ls → leb (max fewest_lines n) (line_count (g.snoc ls l)) ≡ true
    → Several n (line_count (g.snoc ls l))
unfolding line_count
enough-lines n ls l h t =
    let e = leb-true (max fewest_lines n) (line_count (g.snoc ls l)) t in
    let r = h.room in
    record { some = h.number.some; enough = omega arith; fewest = omega arith; most = omega arith }

ended-told : (f : Front) (q : Part) (ps : List Bracket) (b : ℕ) → b ≡ 62 → FrontFits f → PartFits q → BracketsFit ps
    → StepTold (shown (after f q ps) ++ (b ∷ [])) (ended (line_of f q) ps)
unfolding shown written Fits BracketsFit
ended-told f q [] b e h k m = tt
ended-told f q (rounded p ∷ ps) b e h k m = tt
ended-told f q (among n ls p ∷ ps) b e h k m =
    let l = line_of f q in
    split (StepTold (shown (after f q (among n ls p ∷ ps)) ++ (b ∷ []))) (leb (max fewest_lines n) (line_count (g.snoc ls l))) _ _
    (λ t. (
      filled-text p (g.at_least n (g.snoc ls l)) ps
          ∙ ap (λ (x : ℕ). opened_text ps ++ (context_text p ++ (60 ∷ digit n ∷ (lines_text (g.snoc ls l) ++ (x ∷ []))))) (sym e)
          ∙ ap (λ (s : List ℕ). opened_text ps ++ (context_text p ++ (60 ∷ digit n ∷ s))) (lines-text ls f q b)
          ∙ simp append_assoc,
      filled-sound p (g.at_least n (g.snoc ls l)) ps m.0.1
          (enough-lines n ls l m.0.0 t, (m.0.0.lines, line-fits f q h k)) m.1,
    ))
    (λ t. tt)

-- a byte from `1` to `8`
number-taken : (b : ℕ) → (leb (digit 1) b && leb b (digit most_lines)) ≡ true → NumberTaken (b - 48) × (digit (b - 48) ≡ b)
number-taken b t =
    let r = both (leb (digit 1) b) (leb b (digit most_lines)) t in
    let l = leb-true (digit 1) b r.0 in
    let h = leb-true b (digit most_lines) r.1 in
    (record { some = omega arith; few = omega arith }, omega arith)

-- one more byte: what has been read is the text with that byte behind it, and keeps to the limits
pub step-told : (c : Config) (b : ℕ) → Sound c → StepTold (shown c ++ (b ∷ [])) (step c b)
unfolding step shown partial_text BracketsFit Fits written
step-told (ready p ps) b h =
    split (StepTold ((opened_text ps ++ context_text p) ++ (b ∷ []))) (eqb b 40) _ _
    (λ e. (
      append-nil (opened_text ps ++ (context_text p ++ (40 ∷ [])))
          ∙ ap (λ (x : ℕ). opened_text ps ++ (context_text p ++ (x ∷ []))) (sym (eqb-true b 40 e))
          ∙ snoc-last (opened_text ps) (context_text p) b,
      (tt, h),
    ))
    (λ _. split (StepTold ((opened_text ps ++ context_text p) ++ (b ∷ []))) (eqb b 91) _ _
    (λ e. (
      ap (λ (x : ℕ). opened_text ps ++ (context_text p ++ (x ∷ []))) (sym (eqb-true b 91 e)) ∙ snoc-last (opened_text ps) (context_text p) b,
      (record { numbers = λ i l. absurd (let z : ⊥ = omega arith in z); last = tt }, h.0, h.1),
    ))
    (λ _. split (StepTold ((opened_text ps ++ context_text p) ++ (b ∷ []))) (eqb b 60) _ _
    (λ e. (
      ap (λ (x : ℕ). opened_text ps ++ (context_text p ++ (x ∷ []))) (sym (eqb-true b 60 e)) ∙ snoc-last (opened_text ps) (context_text p) b,
      h,
    ))
    (λ _. tt)))
step-told (inside f p ps) b h = inside-told (step_in f b) p ps (partial_text f) b (step_in-told f b h.0) h.1 h.2
step-told (after f q ps) b h =
    split (StepTold ((opened_text ps ++ (front_text f ++ part_text q)) ++ (b ∷ []))) (eqb b 124) _ _
    (λ e. (
      ap (λ (l : List ℕ). opened_text ps ++ (l ++ (124 ∷ []))) (line-text f q)
          ∙ ap (λ (x : ℕ). opened_text ps ++ ((front_text f ++ part_text q) ++ (x ∷ []))) (sym (eqb-true b 124 e))
          ∙ snoc-last (opened_text ps) (front_text f ++ part_text q) b,
      (line-fits f q h.0 h.1, h.2),
    ))
    (λ _. split (StepTold ((opened_text ps ++ (front_text f ++ part_text q)) ++ (b ∷ []))) (eqb b 38) _ _
    (λ e. (joint-text g.both e, ((h.0, h.1), h.2)))
    (λ _. split (StepTold ((opened_text ps ++ (front_text f ++ part_text q)) ++ (b ∷ []))) (eqb b 33) _ _
    (λ e. (joint-text g.without e, ((h.0, h.1), h.2)))
    (λ _. split (StepTold ((opened_text ps ++ (front_text f ++ part_text q)) ++ (b ∷ []))) (eqb b 41) _ _
    (λ e. shut-told f q ps b (eqb-true b 41 e) h.0 h.1 h.2)
    (λ _. split (StepTold ((opened_text ps ++ (front_text f ++ part_text q)) ++ (b ∷ []))) (eqb b 44) _ _
    (λ e. parted-told f q ps b (eqb-true b 44 e) h.0 h.1 h.2)
    (λ _. split (StepTold ((opened_text ps ++ (front_text f ++ part_text q)) ++ (b ∷ []))) (eqb b 62) _ _
    (λ e. ended-told f q ps b (eqb-true b 62 e) h.0 h.1 h.2)
    (λ _. tt))))))
  where
    joint-text : (j : Joint) → eqb b (joint_byte j) ≡ true
        → opened_text ps ++ (front_text f ++ (part_text q ++ (joint_byte j ∷ []))) ≡ (opened_text ps ++ (front_text f ++ part_text q)) ++ (b ∷ [])
    joint-text j e =
        ap (λ (x : ℕ). opened_text ps ++ (front_text f ++ (part_text q ++ (x ∷ [])))) (sym (eqb-true b (joint_byte j) e))
        ∙ ap (λ (l : List ℕ). opened_text ps ++ l) (snoc-last (front_text f) (part_text q) b)
        ∙ snoc-last (opened_text ps) (front_text f ++ part_text q) b
step-told (opened p ps) b h =
    split (StepTold ((opened_text ps ++ (context_text p ++ (60 ∷ []))) ++ (b ∷ []))) (leb (digit 1) b && leb b (digit most_lines)) _ _
    (λ t.
    let w = number-taken b t in
    (ap (λ (x : ℕ). opened_text ps ++ (context_text p ++ (60 ∷ x ∷ []))) w.1 ∙ simp append_assoc, (w.0, h.0, h.1)))
    (λ _. tt)
step-told (numbered n p ps) b h =
    split (StepTold ((opened_text ps ++ (context_text p ++ (60 ∷ digit n ∷ []))) ++ (b ∷ []))) (eqb b 58) _ _
    (λ e. (
      append-nil (opened_text ps ++ (context_text p ++ (60 ∷ digit n ∷ 58 ∷ [])))
          ∙ ap (λ (x : ℕ). opened_text ps ++ (context_text p ++ (60 ∷ digit n ∷ x ∷ []))) (sym (eqb-true b 58 e))
          ∙ simp append_assoc,
      (tt, ((record { number = h.0; room = omega arith; lines = tt }, h.1), h.2)),
    ))
    (λ _. tt)
