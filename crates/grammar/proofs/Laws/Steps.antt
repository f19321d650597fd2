-- A line's text leads from the start to that line: the reading of `written`. No contract cites this file.
--     Steps, stay, hop, steps_append     a text leads from one configuration to another, with few brackets open
--     more_numbers, lists_led, condition_led, figure-steps     through numbers, and through a figure
--     front_of, last_of, line_again        a line, taken apart at its last part
--     lines_read                          behind `<`, its number and lines
--     line-steps, part-steps, item-steps, lines_steps     through lines, parts and items
-- Assumes nothing.
use Prim.Native.Nat.{ℕ, zero, suc, ◌+◌, ◌-◌, ◌/◌, ◌%◌, ◌<◌, ◌≤◌, max}
use native.Mathlib.Omega.{arith}
use mathlib.Core.Path.{◌≡◌, refl, sym, ap, ◌∙◌, subst}
use mathlib.Core.Bool.{true, cond}
use mathlib.Core.Logic.{⊎_elim}
use mathlib.Core.List.{List, [], ◌∷◌, ◌++◌, map, append_assoc, append-nil}
use mathlib.Core.Option.{none, some}
use lib.Dec.{leb, ltb}
use lib.ListN.{length, get_or}
use borrow.Author.Tests.{lt-ltb, le-ltb, le-leb}
use Rattle.seq.specs.Lists.{joined}
use Rattle.seq.proofs.Laws.Tests.{below_or, both_true}
use Rattle.seq.proofs.Laws.Lists.{length-snoc}
use Rattle.seq.specs.Decimal.{digit, decimal_f, decimal}
use Rattle.grammar.specs.Text.{lead}
use Rattle.grammar.specs.Grammar as g
use Rattle.grammar.specs.Grammar.{Word, Condition, Figure, Joint, Line, Part, Item, Lines, arity, most_of, letter_of, joint_byte}
use Rattle.grammar.specs.Grammar.{condition_text, open_text, figure_text, line_count, separator, written, part_text, item_text, lines_text}
use Rattle.grammar.specs.Grammar.{Within, ConditionFits, FigureFits, fewest_lines, most_lines, Several, PartFits, ItemFits, LinesFit}
use Rattle.grammar.specs.Grammar.{Fits, no_condition}
use Rattle.grammar.specs.Brackets.{depth, part_depth, item_depth, lines_depth}
use Rattle.grammar.specs.Reading.{Number, fresh, digits, grown, grows, may_grow, is_digit, Partial, listing, semicolon, lettered}
use Rattle.grammar.specs.Reading.{counting, Next, goes, closes, first_lists, with_condition, behind, step_in, Front, bare, eithers}
use Rattle.grammar.specs.Reading.{Context, first, next, Bracket, rounded, among, Config, ready, inside, after, opened, numbered}
use Rattle.grammar.specs.Reading.{line_of, filled, within, step, open_in}
use Rattle.seq.proofs.Laws.Decimal.{decimal-one, decimal-more}
use Rattle.grammar.proofs.Laws.Limits.{some-arity}

-- from c the text s leads to d, with never more than n brackets open
unfoldable pub Steps : ℕ → Config → List ℕ → Config → Type 0
Steps n c [] d = c ≡ d
Steps n c (b ∷ s) d = (x : Config) × (step c b ≡ some x) × (open_in x ≤ n) × Steps n x s d

-- no byte
pub stay : (n : ℕ) (c : Config) → Steps n c [] c
unfolding Steps
stay n c = refl

-- one byte
pub hop : (n : ℕ) (c : Config) (b : ℕ) (d : Config) → step c b ≡ some d → open_in d ≤ n → Steps n c (b ∷ []) d
unfolding Steps
hop n c b d e h = (d, e, h, refl)

-- two texts, one behind the other
pub steps_append : (n : ℕ) (c : Config) (s : List ℕ) (d : Config) (r : List ℕ) (e : Config) → Steps n c s d → Steps n d r e
    → Steps n c (s ++ r) e
unfolding Steps
steps_append n c [] d r e p q = subst (λ (x : Config). Steps n x r e) (sym p) q
steps_append n c (b ∷ s) d r e p q = (p.0, p.1, p.2, steps_append n p.0 s d r e p.3 q)

-- an item in its context leaves the open brackets as they are
pub filled_open : (p : Context) (i : Item) (ps : List Bracket) → open_in (filled p i ps) ≡ length ps
filled_open (first f) i ps = refl
filled_open (next f q j) i ps = refl

-- in a figure
module _ (n : ℕ) (p : Context) (ps : List Bracket) (room : length ps ≤ n) where
  In : Partial → List ℕ → Partial → Type 0
  In f s h = Steps n (inside f p ps) s (inside h p ps)

  goes_on : (f : Partial) (b : ℕ) (h : Partial) → step_in f b ≡ goes h → Steps n (inside f p ps) (b ∷ []) (inside h p ps)
  unfolding step
  goes_on f b h e = hop n (inside f p ps) b (inside h p ps) (ap (λ (x : Next). within x p ps) e) room

-- a digit that a number may grow by
grows-true : (most : ℕ) (x : Number) (b : ℕ) → 48 ≤ b → b ≤ 57 → may_grow x ≡ true → grown x b ≤ most → grows most x b ≡ true
unfolding grows
grows-true most x b l h m s =
    both_true (is_digit b) _ (both_true (leb 48 b) (leb b 57) (le-leb 48 b l) (le-leb b 57 h))
    (both_true (may_grow x) _ m (le-leb (grown x b) most s))

-- numbers, one behind the other: H holds those before and the one that is read
module _ (n : ℕ) (p : Context) (ps : List Bracket) (room : length ps ≤ n) (H : List ℕ → Number → Partial) (most : ℕ → ℕ) (total : ℕ)
    (grow : (ns : List ℕ) (x : Number) (b : ℕ) → grows (most (length ns)) x b ≡ true → step_in (H ns x) b ≡ goes (H ns (digits (grown x b))))
    (gap : (ns : List ℕ) (k : ℕ) → length ns + 1 < total → step_in (H ns (digits k)) 32 ≡ goes (H (behind ns k) fresh)) where
  -- through the digits of a number
  number-steps : (f k : ℕ) (ns : List ℕ) → k < f → k ≤ most (length ns)
      → Steps n (inside (H ns fresh) p ps) (decimal_f f k) (inside (H ns (digits k)) p ps)
  number-steps zero k ns l h = absurd (let z : ⊥ = omega arith in z)
  number-steps (suc f) k ns l h =
      ⊎_elim
      (λ (s : k < 10).
      let e : grown fresh (digit k) ≡ k = omega arith in
      subst (λ (xs : List ℕ). Steps n (inside (H ns fresh) p ps) xs (inside (H ns (digits k)) p ps)) (sym (decimal-one f k s))
      (goes_on n p ps room (H ns fresh) (digit k) (H ns (digits k))
      (grow ns fresh (digit k) (grows-true (most (length ns)) fresh (digit k) (omega arith) (omega arith) refl (omega arith))
      ∙ ap (λ (m : ℕ). goes (H ns (digits m))) e)))
      (λ (s : 10 ≤ k).
      let e : grown (digits (k / 10)) (digit (k % 10)) ≡ k = omega arith in
      let pos : 0 < k / 10 = omega arith in
      subst (λ (xs : List ℕ). Steps n (inside (H ns fresh) p ps) xs (inside (H ns (digits k)) p ps)) (sym (decimal-more f k s))
      (steps_append n (inside (H ns fresh) p ps) (decimal_f f (k / 10)) (inside (H ns (digits (k / 10))) p ps) (digit (k % 10) ∷ [])
      (inside (H ns (digits k)) p ps)
      (number-steps f (k / 10) ns (omega arith) (omega arith))
      (goes_on n p ps room (H ns (digits (k / 10))) (digit (k % 10)) (H ns (digits k))
      (grow ns (digits (k / 10)) (digit (k % 10))
      (grows-true (most (length ns)) (digits (k / 10)) (digit (k % 10)) (omega arith) (omega arith) (lt-ltb 0 (k / 10) pos) (omega arith))
      ∙ ap (λ (m : ℕ). goes (H ns (digits m))) e))))
      (below_or k 10)

  -- through a whole number
  one_number : (k : ℕ) (ns : List ℕ) → k ≤ most (length ns) → Steps n (inside (H ns fresh) p ps) (decimal k) (inside (H ns (digits k)) p ps)
  unfolding decimal
  one_number k ns h = number-steps (suc k) k ns (omega arith) h

  -- all numbers that are left: those of `front`, and then the last one
  record Numbers (ns : List ℕ) (k : ℕ) (rest : List ℕ) : Type 0 where
    front : List ℕ
    last : ℕ
    same : behind front last ≡ ns ++ (k ∷ rest)
    steps : Steps n (inside (H ns (digits k)) p ps) (lead 32 rest) (inside (H front (digits last)) p ps)

  -- the limits of the numbers behind the next one
  later : (ns : List ℕ) (k m : ℕ) (rest : List ℕ) → Within (λ i. most (length ns + 1 + i)) (m ∷ rest)
      → Within (λ i. most (length (behind ns k) + 1 + i)) rest
  later ns k m rest w i l =
      let len = length-snoc ns k in
      let next : length ns + 1 + suc i ≡ length (behind ns k) + 1 + i = omega arith in
      subst (λ (j : ℕ). get_or rest i 0 ≤ most j) next (w (suc i) (omega arith))

  -- through the numbers that are left
  more_numbers : (rest : List ℕ) (ns : List ℕ) (k : ℕ) → length ns + 1 + length rest ≤ total
      → Within (λ i. most (length ns + 1 + i)) rest
      → Numbers ns k rest
  unfolding lead
  more_numbers [] ns k h w = record { front = ns; last = k; same = refl; steps = stay n (inside (H ns (digits k)) p ps) }
  more_numbers (m ∷ rest) ns k h w =
      let len = length-snoc ns k in
      let here : length ns + 1 + 0 ≡ length (behind ns k) = omega arith in
      let fits : m ≤ most (length (behind ns k)) = subst (λ (i : ℕ). m ≤ most i) here (w 0 (omega arith)) in
      let r = more_numbers rest (behind ns k) m (omega arith) (later ns k m rest w) in
      record {
        front = r.front;
        last = r.last;
        same = r.same ∙ append_assoc ns (k ∷ []) (m ∷ rest);
        steps =
            steps_append n (inside (H ns (digits k)) p ps) (32 ∷ decimal m) (inside (H (behind ns k) (digits m)) p ps) (lead 32 rest)
            (inside (H r.front (digits r.last)) p ps)
            (steps_append n (inside (H ns (digits k)) p ps) (32 ∷ []) (inside (H (behind ns k) fresh) p ps) (decimal m)
            (inside (H (behind ns k) (digits m)) p ps)
            (goes_on n p ps room (H ns (digits k)) 32 (H (behind ns k) fresh) (gap ns k (omega arith)))
            (one_number m (behind ns k) fits))
            r.steps;
      }

-- a figure may end here, or go on with `;`
record Whole (x : Partial) (f : Figure) : Type 0 where
  more : step_in x 59 ≡ goes (semicolon f)
  end : step_in x 93 ≡ closes f

-- a text leads to where a figure may end
record Led (n : ℕ) (c : Config) (s : List ℕ) (p : Context) (ps : List Bracket) (f : Figure) : Type 0 where
  at : Partial
  whole : Whole at f
  steps : Steps n c s (inside at p ps)

listing-whole : (ns : List ℕ) (k : ℕ) → Whole (listing ns (digits k)) (first_lists (behind ns k))
unfolding step_in grows
listing-whole ns k = record { more = refl; end = refl }

counting-whole : (f : Figure) (w : Word) (ns : List ℕ) (k : ℕ) → arity w ≤ length ns + 1
    → Whole (counting f w ns (digits k)) (with_condition f w (behind ns k))
unfolding step_in grows
counting-whole f w ns k h = record { more = rw (le-ltb (length ns + 1) (arity w) h); end = rw (le-ltb (length ns + 1) (arity w) h) }

listing_grow : (ns : List ℕ) (x : Number) (b : ℕ) → grows 65536 x b ≡ true
    → step_in (listing ns x) b ≡ goes (listing ns (digits (grown x b)))
unfolding step_in
listing_grow ns fresh b e = rw e
listing_grow ns (digits k) b e = rw e

listing-gap : (total : ℕ) (ns : List ℕ) (k : ℕ) → length ns + 1 < total
    → step_in (listing ns (digits k)) 32 ≡ goes (listing (behind ns k) fresh)
unfolding step_in grows
listing-gap total ns k h = refl

counting_grow : (f : Figure) (w : Word) (ns : List ℕ) (x : Number) (b : ℕ) → grows (most_of w (length ns)) x b ≡ true
    → step_in (counting f w ns x) b ≡ goes (counting f w ns (digits (grown x b)))
unfolding step_in
counting_grow f w ns fresh b e = rw e
counting_grow f w ns (digits k) b e = rw e

counting-gap : (f : Figure) (w : Word) (ns : List ℕ) (k : ℕ) → length ns + 1 < arity w
    → step_in (counting f w ns (digits k)) 32 ≡ goes (counting f w (behind ns k) fresh)
unfolding step_in grows
counting-gap f w ns k h = rw (lt-ltb (length ns + 1) (arity w) h)

letter-goes : (f : Figure) (w : Word) → step_in (semicolon f) (letter_of w) ≡ goes (lettered f w)
unfolding step_in
letter-goes f g.near = refl
letter-goes f g.before = refl
letter-goes f g.same = refl
letter-goes f g.span = refl
letter-goes f g.apart = refl

lettered-goes : (f : Figure) (w : Word) → step_in (lettered f w) 32 ≡ goes (counting f w [] fresh)
unfolding step_in
lettered-goes f w = refl

module _ (n : ℕ) (p : Context) (ps : List Bracket) (room : length ps ≤ n) where
  -- the list numbers of a figure
  lists_led : (ns : List ℕ) → 1 ≤ length ns → Within (λ i. 65536) ns → Led n (ready p ps) (lead 91 ns) p ps (first_lists ns)
  unfolding lead step
  lists_led [] h w = absurd (let z : ⊥ = omega arith in z)
  lists_led (k ∷ rest) h w =
      let total = 1 + length rest in
      let gap = listing-gap total in
      let small : Within (λ i. 65536) rest = λ i l. w (suc i) (omega arith) in
      let r = more_numbers n p ps room listing (λ i. 65536) total listing_grow gap rest [] k (omega arith) small in
      record {
        at = listing r.front (digits r.last);
        whole =
            subst (λ (l : List ℕ). Whole (listing r.front (digits r.last)) (first_lists l)) r.same
            (listing-whole r.front r.last);
        steps =
            steps_append n (ready p ps) (91 ∷ decimal k) (inside (listing [] (digits k)) p ps) (lead 32 rest)
            (inside (listing r.front (digits r.last)) p ps)
            (steps_append n (ready p ps) (91 ∷ []) (inside (listing [] fresh) p ps) (decimal k) (inside (listing [] (digits k)) p ps)
            (hop n (ready p ps) 91 (inside (listing [] fresh) p ps) refl room)
            (one_number n p ps room listing (λ i. 65536) total listing_grow gap k [] (w 0 (omega arith))))
            r.steps;
      }

  -- the limits of the numbers behind the first one
  behind-first : (w : Word) (k : ℕ) (rest : List ℕ) → Within (most_of w) (k ∷ rest) → Within (λ i. most_of w (0 + 1 + i)) rest
  behind-first w k rest m i l =
      let next : suc i ≡ 0 + 1 + i = omega arith in
      subst (λ (j : ℕ). get_or rest i 0 ≤ most_of w j) next (m (suc i) (omega arith))

  -- one condition
  condition_led : (x : Partial) (f : Figure) (w : Word) (ns : List ℕ) → Whole x f → length ns ≡ arity w → Within (most_of w) ns
      → 1 ≤ length ns
      → Led n (inside x p ps) (59 ∷ letter_of w ∷ lead 32 ns) p ps (with_condition f w ns)
  unfolding lead
  condition_led x f w [] h e m s = absurd (let z : ⊥ = omega arith in z)
  condition_led x f w (k ∷ rest) h e m s =
      let grow = counting_grow f w in
      let gap = counting-gap f w in
      let small : Within (λ i. most_of w (0 + 1 + i)) rest = behind-first w k rest m in
      let r = more_numbers n p ps room (counting f w) (most_of w) (arity w) grow gap rest [] k (omega arith) small in
      let end : length (behind r.front r.last) ≡ length (k ∷ rest) = ap length r.same in
      let len = length-snoc r.front r.last in
      record {
        at = counting f w r.front (digits r.last);
        whole =
            subst (λ (l : List ℕ). Whole (counting f w r.front (digits r.last)) (with_condition f w l)) r.same
            (counting-whole f w r.front r.last (omega arith));
        steps =
            steps_append n (inside x p ps) (59 ∷ letter_of w ∷ 32 ∷ []) (inside (counting f w [] fresh) p ps) (decimal k ++ lead 32 rest)
            (inside (counting f w r.front (digits r.last)) p ps)
            (steps_append n (inside x p ps) (59 ∷ []) (inside (semicolon f) p ps) (letter_of w ∷ 32 ∷ [])
            (inside (counting f w [] fresh) p ps)
            (goes_on n p ps room x 59 (semicolon f) h.more)
            (steps_append n (inside (semicolon f) p ps) (letter_of w ∷ []) (inside (lettered f w) p ps) (32 ∷ [])
            (inside (counting f w [] fresh) p ps)
            (goes_on n p ps room (semicolon f) (letter_of w) (lettered f w) (letter-goes f w))
            (goes_on n p ps room (lettered f w) 32 (counting f w [] fresh) (lettered-goes f w))))
            (steps_append n (inside (counting f w [] fresh) p ps) (decimal k) (inside (counting f w [] (digits k)) p ps) (lead 32 rest)
            (inside (counting f w r.front (digits r.last)) p ps)
            (one_number n p ps room (counting f w) (most_of w) (arity w) grow gap k [] (m 0 (omega arith)))
            r.steps);
      }

  -- all conditions
  conditions_led : (cs : List Condition) (x : Partial) (f : Figure) → Whole x f
      → ((i : ℕ) → i < length cs → ConditionFits (get_or cs i no_condition))
      → Led n (inside x p ps) (joined (map condition_text cs)) p ps (record { lists = f.lists; conditions = f.conditions ++ cs })
  unfolding joined
  conditions_led [] x f h m = record {
    at = x;
    whole = subst (Whole x) (ap (λ (l : List Condition). record { lists = f.lists; conditions = l }) (sym (append-nil f.conditions))) h;
    steps = stay n (inside x p ps);
  }
  conditions_led (c ∷ cs) x f h m =
      let fits = m 0 (omega arith) in
      let some = some-arity c.word in
      let a = condition_led x f c.word c.numbers h fits.count fits.within (let e = fits.count in omega arith) in
      let b = conditions_led cs a.at (with_condition f c.word c.numbers) a.whole (λ i l. m (suc i) (omega arith)) in
      record {
        at = b.at;
        whole =
            subst (λ (l : List Condition). Whole b.at (record { lists = f.lists; conditions = l }))
            (append_assoc f.conditions (c ∷ []) cs) b.whole;
        steps =
            steps_append n (inside x p ps) (condition_text c) (inside a.at p ps) (joined (map condition_text cs)) (inside b.at p ps)
            a.steps b.steps;
      }

  -- through a figure
  figure-steps : (f : Figure) → FigureFits f → Steps n (ready p ps) (figure_text f) (filled p (g.figure f) ps)
  unfolding figure_text open_text step
  figure-steps f h =
      let a = lists_led f.lists h.some-list h.within in
      let b = conditions_led f.conditions a.at (first_lists f.lists) a.whole h.conditions in
      steps_append n (ready p ps) (open_text f) (inside b.at p ps) (93 ∷ []) (filled p (g.figure f) ps)
      (steps_append n (ready p ps) (lead 91 f.lists) (inside a.at p ps) (joined (map condition_text f.conditions))
      (inside b.at p ps) a.steps b.steps)
      (hop n (inside b.at p ps) 93 (filled p (g.figure f) ps) (ap (λ (x : Next). within x p ps) b.whole.end)
      (rw (filled_open p (g.figure f) ps) room))

-- a line, taken apart at its last part
abbrev pub front_of : Line → Front
front_of (g.one q) = bare
front_of (g.either l q) = eithers l

abbrev pub last_of : Line → Part
last_of (g.one q) = q
last_of (g.either l q) = q

-- put together again
pub line_again : (l : Line) → line_of (front_of l) (last_of l) ≡ l
line_again (g.one q) = refl
line_again (g.either l q) = refl

joint-step : (f : Front) (q : Part) (j : Joint) (ps : List Bracket) → step (after f q ps) (joint_byte j) ≡ some (ready (next f q j) ps)
unfolding step
joint-step f q g.both ps = refl
joint-step f q g.without ps = refl

shut-step : (l : Line) (p : Context) (ps : List Bracket)
    → step (after (front_of l) (last_of l) (rounded p ∷ ps)) 41 ≡ some (filled p (g.round l) ps)
unfolding step
shut-step (g.one q) p ps = refl
shut-step (g.either l q) p ps = refl

either_step : (l : Line) (ps : List Bracket) → step (after (front_of l) (last_of l) ps) 124 ≡ some (ready (first (eithers l)) ps)
unfolding step
either_step (g.one q) ps = refl
either_step (g.either l q) ps = refl

open_step : (p : Context) (ps : List Bracket) → step (ready p ps) 40 ≡ some (ready (first bare) (rounded p ∷ ps))
unfolding step
open_step p ps = refl

angle-step : (p : Context) (ps : List Bracket) → step (ready p ps) 60 ≡ some (opened p ps)
unfolding step
angle-step p ps = refl

number_step : (n : ℕ) (p : Context) (ps : List Bracket) → 1 ≤ n → n ≤ most_lines → step (opened p ps) (digit n) ≡ some (numbered n p ps)
unfolding step
number_step n p ps l h =
    let e : digit n - 48 ≡ n = omega arith in
    rw (le-leb (digit 1) (digit n) (omega arith), le-leb (digit n) (digit most_lines) (omega arith), e)

-- behind `<`, its number and lines
abbrev pub lines_read : ℕ → Context → List Bracket → Lines → Config
lines_read n p ps g.nil = numbered n p ps
lines_read n p ps (g.snoc ls l) = after (front_of l) (last_of l) (among n ls p ∷ ps)

-- another line may follow
separator-step : (ls : Lines) (n : ℕ) (p : Context) (ps : List Bracket) → line_count ls < most_lines
    → step (lines_read n p ps ls) (separator ls) ≡ some (ready (first bare) (among n ls p ∷ ps))
unfolding step
separator-step g.nil n p ps h = refl
separator-step (g.snoc ls l) n p ps h =
    ap (λ (m : Line). cond (ltb (line_count (g.snoc ls l)) most_lines) (some (ready (first bare) (among n (g.snoc ls m) p ∷ ps))) none)
    (line_again l)
    ∙ rw (lt-ltb (line_count (g.snoc ls l)) most_lines h)

-- `>` may follow
end_step : (ls : Lines) (n : ℕ) (p : Context) (ps : List Bracket) → Several n (line_count ls)
    → step (lines_read n p ps ls) 62 ≡ some (filled p (g.at_least n ls) ps)
unfolding step line_count
end_step g.nil n p ps h = absurd (let f = h.fewest in let z : ⊥ = omega arith in z)
end_step (g.snoc ls l) n p ps h =
    let e = h.enough in
    let f = h.fewest in
    ap (λ (m : Line). cond (leb (max fewest_lines n) (line_count (g.snoc ls l))) (some (filled p (g.at_least n (g.snoc ls m)) ps)) none)
    (line_again l)
    ∙ rw (le-leb (max fewest_lines n) (line_count (g.snoc ls l)) (omega arith))

-- through lines, parts and items
mutual
  unfolding written Fits depth line_count

  pub line-steps : (l : Line) (n : ℕ) (ps : List Bracket) → Fits l → length ps + depth l ≤ n
      → Steps n (ready (first bare) ps) (written l) (after (front_of l) (last_of l) ps)
  line-steps (g.one q) n ps h r = part-steps q n bare ps h r
  line-steps (g.either l q) n ps h r =
      steps_append n (ready (first bare) ps) (written l) (after (front_of l) (last_of l) ps) (124 ∷ part_text q) (after (eithers l) q ps)
      (line-steps l n ps h.0 (omega arith))
      (steps_append n (after (front_of l) (last_of l) ps) (124 ∷ []) (ready (first (eithers l)) ps) (part_text q) (after (eithers l) q ps)
      (hop n (after (front_of l) (last_of l) ps) 124 (ready (first (eithers l)) ps) (either_step l ps) (omega arith))
      (part-steps q n (eithers l) ps h.1 (omega arith)))

  pub part-steps : (q : Part) (n : ℕ) (f : Front) (ps : List Bracket) → PartFits q → length ps + part_depth q ≤ n
      → Steps n (ready (first f) ps) (part_text q) (after f q ps)
  part-steps (g.alone i) n f ps h r = item-steps i n (first f) ps h r
  part-steps (g.join j q i) n f ps h r =
      steps_append n (ready (first f) ps) (part_text q) (after f q ps) (joint_byte j ∷ item_text i) (after f (g.join j q i) ps)
      (part-steps q n f ps h.0 (omega arith))
      (steps_append n (after f q ps) (joint_byte j ∷ []) (ready (next f q j) ps) (item_text i) (after f (g.join j q i) ps)
      (hop n (after f q ps) (joint_byte j) (ready (next f q j) ps) (joint-step f q j ps) (omega arith))
      (item-steps i n (next f q j) ps h.1 (omega arith)))

  pub item-steps : (i : Item) (n : ℕ) (p : Context) (ps : List Bracket) → ItemFits i → length ps + item_depth i ≤ n
      → Steps n (ready p ps) (item_text i) (filled p i ps)
  item-steps (g.figure f) n p ps h r = figure-steps n p ps (omega arith) f h
  item-steps (g.round l) n p ps h r =
      steps_append n (ready p ps) (40 ∷ []) (ready (first bare) (rounded p ∷ ps)) (written l ++ (41 ∷ [])) (filled p (g.round l) ps)
      (hop n (ready p ps) 40 (ready (first bare) (rounded p ∷ ps)) (open_step p ps) (omega arith))
      (steps_append n (ready (first bare) (rounded p ∷ ps)) (written l) (after (front_of l) (last_of l) (rounded p ∷ ps)) (41 ∷ [])
      (filled p (g.round l) ps)
      (line-steps l n (rounded p ∷ ps) h (omega arith))
      (hop n (after (front_of l) (last_of l) (rounded p ∷ ps)) 41 (filled p (g.round l) ps) (shut-step l p ps)
      (rw (filled_open p (g.round l) ps) (omega arith))))
  item-steps (g.at_least k ls) n p ps h r =
      let e = h.0.enough in
      let m = h.0.most in
      steps_append n (ready p ps) (60 ∷ []) (opened p ps) (digit k ∷ (lines_text ls ++ (62 ∷ []))) (filled p (g.at_least k ls) ps)
      (hop n (ready p ps) 60 (opened p ps) (angle-step p ps) (omega arith))
      (steps_append n (opened p ps) (digit k ∷ []) (numbered k p ps) (lines_text ls ++ (62 ∷ [])) (filled p (g.at_least k ls) ps)
      (hop n (opened p ps) (digit k) (numbered k p ps) (number_step k p ps h.0.some (omega arith)) (omega arith))
      (steps_append n (numbered k p ps) (lines_text ls) (lines_read k p ps ls) (62 ∷ []) (filled p (g.at_least k ls) ps)
      (lines_steps ls n k p ps h.1 m (omega arith))
      (hop n (lines_read k p ps ls) 62 (filled p (g.at_least k ls) ps) (end_step ls k p ps h.0)
      (rw (filled_open p (g.at_least k ls) ps) (omega arith)))))

  pub lines_steps : (ls : Lines) (n k : ℕ) (p : Context) (ps : List Bracket) → LinesFit ls → line_count ls ≤ most_lines
      → length ps + suc (lines_depth ls) ≤ n
      → Steps n (numbered k p ps) (lines_text ls) (lines_read k p ps ls)
  lines_steps g.nil n k p ps h m r = stay n (numbered k p ps)
  lines_steps (g.snoc ls l) n k p ps h m r =
      steps_append n (numbered k p ps) (lines_text ls) (lines_read k p ps ls) (separator ls ∷ written l)
      (after (front_of l) (last_of l) (among k ls p ∷ ps))
      (lines_steps ls n k p ps h.0 (omega arith) (omega arith))
      (steps_append n (lines_read k p ps ls) (separator ls ∷ []) (ready (first bare) (among k ls p ∷ ps)) (written l)
      (after (front_of l) (last_of l) (among k ls p ∷ ps))
      (hop n (lines_read k p ps ls) (separator ls) (ready (first bare) (among k ls p ∷ ps)) (separator-step ls k p ps (omega arith))
      (omega arith))
      (line-steps l n (among k ls p ∷ ps) h.1 (omega arith)))
