-- A law for each way through the readers of items, parts and lines in `src/reading.rt`. No contract cites this file.
--     step-..                  what a byte does in front of an item, behind a part and behind a line
--     settled-rows, then-rows  rows that are stored, and more behind them
--     item-.., part-.., line-..                     the readers of items, parts and lines
--     whole-..                 the reader of the whole text
-- Assumes nothing.
use Prim.Native.Nat.{ℕ, ◌+◌, ◌<◌, ◌≤◌}
use native.Mathlib.Omega.{arith}
use mathlib.Core.Path.{◌≡◌, refl, sym, ap, ap₂, ◌∙◌, subst}
use mathlib.Core.Bool.{Bool, true, false, cond}
use mathlib.Core.Logic.{◌≢◌}
use mathlib.Core.List.{List, [], ◌∷◌, ◌++◌, append_assoc, append-nil}
use mathlib.Core.Option.{Option, none, some}
use lib.Dec.{eqb}
use lib.ListN.{length, get_or, length-append}
use borrow.Author.Tests.{ne_eqb}
use Rattle.std.proofs.Common.{Option as Maybe, Some, None, Result, Ok, Err}
use Rattle.grammar.specs.declared.tokens.Connective.{Connective}
use Rattle.grammar.specs.declared.tokens.Connective.TheVariants.{And, Or, AndNot}
use Rattle.plan.specs.declared.row.Row.{Row}
use Rattle.plan.specs.Parts.{pattern_rows}
use Rattle.grammar.specs.Meaning.{pattern_of, line_rows, part_rows, item_rows}
use Rattle.line.specs.Inner.Store.{stored}
use Rattle.line.specs.declared.reading.Reached.{Reached}
use Rattle.line.specs.declared.reading.Stop.{Stop}
use Rattle.line.specs.declared.reading.Stop.TheVariants.{Broken, Deep}
use Rattle.grammar.specs.Grammar as g
use Rattle.grammar.specs.Grammar.{Figure, Line, Part, Item, Lines}
use Rattle.grammar.specs.Reading as reading
use Rattle.grammar.specs.Reading.{listing, fresh, Front, bare, eithers, filled, shut, parted, ended, step}
use Rattle.grammar.specs.Reading.{Context, first, next, Bracket, rounded, among, Config, ready, inside, after, opened, line_of}
use Rattle.line.specs.Inner.Reads.{from, FigureRead, ItemAt, ItemRead, Stored, front_of, joins, part_before, pending_rows}
use Rattle.line.specs.Inner.Reads.{waits, front_rows, PartAt, PartRead, LineAt, LineRead, SeveralRead, WholeRead}
use Rattle.grammar.proofs.Laws.Steps.{filled_open}
use Rattle.line.proofs.Laws.Figure.{from_goes, from-none, from_deep, from_end, stops_at, stored_append}

-- the steps of the readers, by the byte that is there
step-figure : (p : Context) (ps : List Bracket) (b : ℕ) → b ≡ 91 → step (ready p ps) b ≡ some (inside (listing [] fresh) p ps)
unfolding step
step-figure p ps b e = ap (step (ready p ps)) e

step-round : (p : Context) (ps : List Bracket) (b : ℕ) → b ≡ 40 → step (ready p ps) b ≡ some (ready (first bare) (rounded p ∷ ps))
unfolding step
step-round p ps b e = ap (step (ready p ps)) e

step-opened : (p : Context) (ps : List Bracket) (b : ℕ) → b ≡ 60 → step (ready p ps) b ≡ some (opened p ps)
unfolding step
step-opened p ps b e = ap (step (ready p ps)) e

step-no-item : (p : Context) (ps : List Bracket) (b : ℕ) → b ≢ 91 → b ≢ 60 → b ≢ 40 → step (ready p ps) b ≡ none
unfolding step
step-no-item p ps b e f k = rw (ne_eqb b 40 k, ne_eqb b 91 e, ne_eqb b 60 f)

step_joint : (f : Front) (q : Part) (ps : List Bracket) (b : ℕ) (j : g.Joint) → b ≡ g.joint_byte j
    → step (after f q ps) b ≡ some (ready (next f q j) ps)
unfolding step
step_joint f q ps b g.both e = ap (step (after f q ps)) e
step_joint f q ps b g.without e = ap (step (after f q ps)) e

step-either : (f : Front) (q : Part) (ps : List Bracket) (b : ℕ) → b ≡ 124
    → step (after f q ps) b ≡ some (ready (first (eithers (line_of f q))) ps)
unfolding step
step-either f q ps b e = ap (step (after f q ps)) e

step-shut : (f : Front) (q : Part) (p : Context) (ps : List Bracket) (b : ℕ) → b ≡ 41
    → step (after f q (rounded p ∷ ps)) b ≡ some (filled p (g.round (line_of f q)) ps)
unfolding step
step-shut f q p ps b e = ap (step (after f q (rounded p ∷ ps))) e

-- behind a line that no `&`, `!` or `|` follows
module _ (f : Front) (q : Part) (b : ℕ) (x : b ≢ 38) (y : b ≢ 33) (z : b ≢ 124) where
  step-closes : (ps : List Bracket)
      → step (after f q ps) b
      ≡ cond (eqb b 41) (shut (line_of f q) ps) (cond (eqb b 44) (parted (line_of f q) ps) (cond (eqb b 62) (ended (line_of f q) ps) none))
  unfolding step
  step-closes ps = rw (ne_eqb b 124 z, ne_eqb b 38 x, ne_eqb b 33 y)

  no_more : (t u v : Bool) → ◌≡◌ {A = Option Config} (cond t none (cond u none (cond v none none))) none
  no_more true u v = refl
  no_more false true v = refl
  no_more false false true = refl
  no_more false false false = refl

  -- outside all brackets
  step-no-more : step (after f q []) b ≡ none
  step-no-more = step-closes [] ∙ no_more (eqb b 41) (eqb b 44) (eqb b 62)

  -- inside round ones
  step-not-shut : (p : Context) (ps : List Bracket) → b ≢ 41 → step (after f q (rounded p ∷ ps)) b ≡ none
  step-not-shut p ps w = step-closes (rounded p ∷ ps) ∙ rw (ne_eqb b 41 w) (no_more false (eqb b 44) (eqb b 62))

  -- inside `<`
  pub step-not-ended : (n : ℕ) (ls : Lines) (p : Context) (ps : List Bracket) → b ≢ 44 → b ≢ 62
      → step (after f q (among n ls p ∷ ps)) b ≡ none
  step-not-ended n ls p ps v w =
      step-closes (among n ls p ∷ ps) ∙ rw (ne_eqb b 44 v, ne_eqb b 62 w) (no_more (eqb b 41) false false)

-- the operator that waits behind `&`, and behind `!`
abbrev waits_for : g.Joint → Maybe Connective
waits_for g.both = Some And
waits_for g.without = Some AndNot

-- what an item in its context makes of the part, and a part of the line
filled-part : (p : Context) (i : Item) (ps : List Bracket)
    → (q : Part) × (filled p i ps ≡ after (front_of p) q ps) × (part_rows q ≡ part_before p ++ (item_rows i ++ pending_rows (joins p)))
unfolding line_rows
filled-part (first f) i ps = (g.alone i, refl, sym (append-nil (item_rows i)))
filled-part (next f q g.both) i ps = (g.join g.both q i, refl, refl)
filled-part (next f q g.without) i ps = (g.join g.without q i, refl, refl)

line-part : (f : Front) (q : Part) → line_rows (line_of f q) ≡ front_rows f ++ (part_rows q ++ pending_rows (waits f))
unfolding line_rows
line-part bare q = sym (append-nil (part_rows q))
line-part (eithers l) q = refl

-- an operator stored behind what has been stored
settled-rows : (s : List ℕ) (at n : ℕ) (out out₁ out₂ : List ℕ) (e m k : ℕ) (new : List Row) (o : Maybe Connective)
    → Stored s at n 0 out out₁ e m new → out₂ ≡ stored out₁ m (pending_rows o) → k ≡ m + length (pending_rows o)
    → Stored s at n (length (pending_rows o)) out out₂ e k (new ++ pending_rows o)
settled-rows s at n out out₁ out₂ e m k new o w x y = record {
  ahead = w.ahead;
  within = w.within;
  few = let f = w.few in omega arith;
  count = let c = w.count in let l = length-append new (pending_rows o) in omega arith;
  is = x ∙ ap₂ (λ (l : List ℕ) (i : ℕ). stored l i (pending_rows o)) w.is w.count ∙ sym (stored_append new (pending_rows o) out n);
}

-- two stretches, with a byte between them
pub then-rows : (s : List ℕ) (at n : ℕ) (out out₁ out₂ : List ℕ) (e m f k slack : ℕ) (a b : List Row) → Stored s at n slack out out₁ e m a
    → Stored s (e + 1) m 1 out₁ out₂ f k b → Stored s at n slack out out₂ f k (a ++ b)
then-rows s at n out out₁ out₂ e m f k slack a b v w = record {
  ahead = let x = v.ahead in let y = w.ahead in omega arith;
  within = w.within;
  few = let x = v.few in let y = w.few in omega arith;
  count = let x = v.count in let y = w.count in let l = length-append a b in omega arith;
  is = w.is ∙ ap₂ (λ (l : List ℕ) (i : ℕ). stored l i b) v.is v.count ∙ sym (stored_append a b out n);
}

module _ (s : List ℕ) (at d n : ℕ) (out : List ℕ) where
  -- no item at the end of the text
  pub item_out : length s ≤ at → ItemRead s at d n out out (Err (Broken at))
  item_out h p ps l = from_end s (ready p ps) at h

  module _ (h : at < length s) (few : d ≤ 8) where
    -- `[`: a pattern
    pub item-figure : get_or s at 0 ≡ 91 → (out' : List ℕ) (r : Result Reached Stop) → FigureRead s (at + 1) n out out' r → ItemRead s at d n out out' r
    unfolding line_rows
    item-figure e out' (Ok r) w = record {
      new = pattern_rows (pattern_of w.read);
      rows = record {
        ahead = let a = w.rows.ahead in omega arith;
        within = w.rows.within;
        few = let a = w.rows.few in omega arith;
        count = w.rows.count;
        is = w.rows.is;
      };
      goes =
          λ p ps l. (
            g.figure w.read,
            from_goes s (ready p ps) at (inside (listing [] fresh) p ps) h (step-figure p ps (get_or s at 0) e) (omega arith)
                ∙ w.goes p ps (omega arith),
            item-rows w.read,
          );
    }
      where
        item-rows : (f : Figure) → item_rows (g.figure f) ≡ pattern_rows (pattern_of f)
        item-rows f = refl
    item-figure e out' (Err (Broken k)) w =
        λ p ps l. from_goes s (ready p ps) at (inside (listing [] fresh) p ps) h (step-figure p ps (get_or s at 0) e) (omega arith)
        ∙ w p ps (omega arith)
    item-figure e out' (Err (Deep k)) w = absurd w

    -- a byte that begins no item
    pub item-none : get_or s at 0 ≢ 91 → get_or s at 0 ≢ 60 → get_or s at 0 ≢ 40 → ItemRead s at d n out out (Err (Broken at))
    item-none e f k p ps l = from-none s (ready p ps) at h (step-no-item p ps (get_or s at 0) e f k)

    module _ (e : get_or s at 0 ≡ 60) where
      -- a `<` inside eight brackets
      pub item-ninth : 8 ≤ d → ItemRead s at d n out out (Err (Deep at))
      item-ninth m p ps l = from_deep s (ready p ps) at (opened p ps) h (step-opened p ps (get_or s at 0) e) (omega arith)

      -- `<`: several lines
      pub item-several : d < 8 → (out' : List ℕ) (r : Result Reached Stop) → SeveralRead s (at + 1) (d + 1) n out out' r → ItemRead s at d n out out' r
      item-several m out' (Ok r) w = record {
        new = w.new;
        rows = record {
          ahead = let a = w.rows.ahead in omega arith;
          within = w.rows.within;
          few = let a = w.rows.few in omega arith;
          count = w.rows.count;
          is = w.rows.is;
        };
        goes = λ p ps l.
            let x = w.goes p ps (omega arith) in
            (x.0, from_goes s (ready p ps) at (opened p ps) h (step-opened p ps (get_or s at 0) e) (omega arith) ∙ x.1, x.2);
      }
      item-several m out' (Err (Broken k)) w =
          λ p ps l. from_goes s (ready p ps) at (opened p ps) h (step-opened p ps (get_or s at 0) e) (omega arith) ∙ w p ps (omega arith)
      item-several m out' (Err (Deep k)) w =
          λ p ps l. from_goes s (ready p ps) at (opened p ps) h (step-opened p ps (get_or s at 0) e) (omega arith) ∙ w p ps (omega arith)

    module _ (e : get_or s at 0 ≡ 40) where
      -- a ninth bracket
      pub item-deep : 8 ≤ d → ItemRead s at d n out out (Err (Deep at))
      item-deep m p ps l =
          from_deep s (ready p ps) at (ready (first bare) (rounded p ∷ ps)) h (step-round p ps (get_or s at 0) e) (omega arith)

      module _ (m : d < 8) (out' : List ℕ) where
        opens_on : (p : Context) (ps : List Bracket) → length ps ≡ d
            → from s (ready p ps) at ≡ from s (ready (first bare) (rounded p ∷ ps)) (at + 1)
        opens_on p ps l =
            from_goes s (ready p ps) at (ready (first bare) (rounded p ∷ ps)) h (step-round p ps (get_or s at 0) e) (omega arith)

        -- `(`: the reading comes no further than the line inside
        pub item-stops : (e : Stop) → LineRead s (at + 1) (d + 1) n None out out' (Err e) → ItemRead s at d n out out' (Err e)
        item-stops (Broken k) w = λ p ps l. opens_on p ps l ∙ w bare (rounded p ∷ ps) (omega arith) refl
        item-stops (Deep k) w = λ p ps l. opens_on p ps l ∙ w bare (rounded p ∷ ps) (omega arith) refl

        module _ (k i : ℕ) (w : LineAt s (at + 1) (d + 1) n None out out' k i) where
          -- it is not closed
          pub item-wrong : (k < length s → get_or s k 0 ≢ 41) → ItemRead s at d n out out' (Err (Broken k))
          item-wrong f p ps l =
              let x = w.goes bare (rounded p ∷ ps) (omega arith) refl in
              opens_on p ps l ∙ x.2 ∙ stops_at s (after x.0 x.1 (rounded p ∷ ps)) k
              (λ o. let z = w.ends o in step-not-shut x.0 x.1 (get_or s k 0) z.0 z.1 z.2 p ps (f o)) refl

          -- it is closed
          pub item-shut : k < length s → get_or s k 0 ≡ 41 → ItemRead s at d n out out' (Ok (record { at = k + 1; rows = i }))
          unfolding line_rows
          item-shut o f = record {
            new = w.new;
            rows = record {
              ahead = let a = w.rows.ahead in omega arith;
              within = omega arith;
              few = let a = w.rows.few in omega arith;
              count = w.rows.count;
              is = w.rows.is;
            };
            goes = λ p ps l.
                let x = w.goes bare (rounded p ∷ ps) (omega arith) refl in (
                  g.round (line_of x.0 x.1),
                  opens_on p ps l
                      ∙ x.2
                      ∙ from_goes s (after x.0 x.1 (rounded p ∷ ps)) k (filled p (g.round (line_of x.0 x.1)) ps) o
                      (step-shut x.0 x.1 p ps (get_or s k 0) f) (rw (filled_open p (g.round (line_of x.0 x.1)) ps) (omega arith)),
                  round-rows (line_of x.0 x.1) ∙ x.3,
                );
          }
            where
              round-rows : (l : Line) → item_rows (g.round l) ≡ line_rows l
              round-rows l = refl

  -- parts: an item and the operator that waited for it
  module _ (o : Maybe Connective) (out₁ out₂ : List ℕ) (e m k : ℕ) (w : ItemAt s at d n out out₁ e m) (x : out₂ ≡ stored out₁ m (pending_rows o))
      (y : k ≡ m + length (pending_rows o)) where
    part_so-far : (p : Context) (ps : List Bracket) → length ps ≡ d → joins p ≡ o
        → (q : Part) × (from s (ready p ps) at ≡ from s (after (front_of p) q ps) e)
        × (part_rows q ≡ part_before p ++ (w.new ++ pending_rows o))
    part_so-far p ps l j =
        let i = w.goes p ps l in
        let q = filled-part p i.0 ps in (
          q.0,
          i.1 ∙ ap (λ (c : Config). from s c e) q.1,
          q.2 ∙ ap₂ (λ (a : List Row) (b : Maybe Connective). part_before p ++ (a ++ pending_rows b)) i.2 j,
        )

    part-rows_so-far : Stored s at n (length (pending_rows o)) out out₂ e k (w.new ++ pending_rows o)
    part-rows_so-far = settled-rows s at n out out₁ out₂ e m k w.new o w.rows x y

    -- no `&` and no `!` follows
    pub part_at : (e < length s → (get_or s e 0 ≢ 38) × (get_or s e 0 ≢ 33)) → PartRead s at d n o out out₂ (Ok (record { at = e; rows = k }))
    part_at z = record { new = w.new ++ pending_rows o; rows = part-rows_so-far; ends = z; goes = part_so-far }

    module _ (few : d ≤ 8) (h : e < length s) (j : g.Joint) (b : get_or s e 0 ≡ g.joint_byte j) (out' : List ℕ) where
      joins-next : (f : Front) (q : Part) → joins (next f q j) ≡ waits_for j
      joins-next = go j
        where
          go : (j : g.Joint) (f : Front) (q : Part) → joins (next f q j) ≡ waits_for j
          go g.both f q = refl
          go g.without f q = refl

      joins_on : (p : Context) (ps : List Bracket) (q : Part) → length ps ≡ d
          → from s (after (front_of p) q ps) e ≡ from s (ready (next (front_of p) q j) ps) (e + 1)
      joins_on p ps q l =
          from_goes s (after (front_of p) q ps) e (ready (next (front_of p) q j) ps) h (step_joint (front_of p) q ps (get_or s e 0) j b)
          (omega arith)

      -- `&` or `!`: the rest of the part
      pub part_joint : (r : Result Reached Stop) → PartRead s (e + 1) d k (waits_for j) out₂ out' r → PartRead s at d n o out out' r
      part_joint (Ok r) v = record {
        new = (w.new ++ pending_rows o) ++ v.new;
        rows =
            then-rows s at n out out₂ out' e k r.at r.rows (length (pending_rows o)) (w.new ++ pending_rows o) v.new part-rows_so-far
            (one-slack j v.rows);
        ends = v.ends;
        goes = λ p ps l u.
            let a = part_so-far p ps l u in
            let c = v.goes (next (front_of p) a.0 j) ps l (joins-next (front_of p) a.0) in (
              c.0,
              a.1 ∙ joins_on p ps a.0 l ∙ c.1,
              c.2 ∙ ap (λ (z : List Row). z ++ v.new) a.2 ∙ append_assoc (part_before p) (w.new ++ pending_rows o) v.new,
            );
      }
        where
          one-slack : (j : g.Joint) → Stored s (e + 1) k (length (pending_rows (waits_for j))) out₂ out' r.at r.rows v.new
              → Stored s (e + 1) k 1 out₂ out' r.at r.rows v.new
          one-slack g.both z = z
          one-slack g.without z = z
      part_joint (Err (Broken f)) v =
          λ p ps l u.
          let a = part_so-far p ps l u in
          a.1 ∙ joins_on p ps a.0 l ∙ v (next (front_of p) a.0 j) ps l (joins-next (front_of p) a.0)
      part_joint (Err (Deep f)) v =
          λ p ps l u.
          let a = part_so-far p ps l u in
          a.1 ∙ joins_on p ps a.0 l ∙ v (next (front_of p) a.0 j) ps l (joins-next (front_of p) a.0)

  -- the reading comes no further than its first item
  pub part-stops : (o : Maybe Connective) (out' : List ℕ) (e : Stop) → ItemRead s at d n out out' (Err e) → PartRead s at d n o out out' (Err e)
  part-stops o out' (Broken k) w = λ p ps l u. w p ps l
  part-stops o out' (Deep k) w = λ p ps l u. w p ps l

  -- lines: a part and the `|` that waited for it
  module _ (o : Maybe Connective) (out₁ out₂ : List ℕ) (e m k : ℕ) (w : PartAt s at d n None out out₁ e m)
      (x : out₂ ≡ stored out₁ m (pending_rows o)) (y : k ≡ m + length (pending_rows o)) where
    line_so-far : (f : Front) (ps : List Bracket) → length ps ≡ d → waits f ≡ o
        → (q : Part) × (from s (ready (first f) ps) at ≡ from s (after f q ps) e)
        × (line_rows (line_of f q) ≡ front_rows f ++ (w.new ++ pending_rows o))
    line_so-far f ps l u =
        let q = w.goes (first f) ps l refl in
        (q.0, q.1, line-part f q.0 ∙ ap₂ (λ (a : List Row) (b : Maybe Connective). front_rows f ++ (a ++ pending_rows b)) q.2 u)

    line-rows_so-far : Stored s at n (length (pending_rows o)) out out₂ e k (w.new ++ pending_rows o)
    line-rows_so-far = settled-rows s at n out out₁ out₂ e m k w.new o w.rows x y

    -- no `|` follows
    pub line_at : (e < length s → get_or s e 0 ≢ 124) → LineRead s at d n o out out₂ (Ok (record { at = e; rows = k }))
    line_at z = record {
      new = w.new ++ pending_rows o;
      rows = line-rows_so-far;
      ends = λ h. let a = w.ends h in (a.0, a.1, z h);
      goes = λ f ps l u. let a = line_so-far f ps l u in (f, a.0, a.1, a.2);
    }

    module _ (few : d ≤ 8) (h : e < length s) (b : get_or s e 0 ≡ 124) (out' : List ℕ) where
      either_on : (f : Front) (ps : List Bracket) (q : Part) → length ps ≡ d
          → from s (after f q ps) e ≡ from s (ready (first (eithers (line_of f q))) ps) (e + 1)
      either_on f ps q l =
          from_goes s (after f q ps) e (ready (first (eithers (line_of f q))) ps) h (step-either f q ps (get_or s e 0) b) (omega arith)

      -- `|`: the rest of the line
      pub line-either : (r : Result Reached Stop) → LineRead s (e + 1) d k (Some Or) out₂ out' r → LineRead s at d n o out out' r
      line-either (Ok r) v = record {
        new = (w.new ++ pending_rows o) ++ v.new;
        rows =
            then-rows s at n out out₂ out' e k r.at r.rows (length (pending_rows o)) (w.new ++ pending_rows o) v.new line-rows_so-far v.rows;
        ends = v.ends;
        goes = λ g' ps l u.
            let a = line_so-far g' ps l u in
            let c = v.goes (eithers (line_of g' a.0)) ps l refl in (
              c.0,
              c.1,
              a.1 ∙ either_on g' ps a.0 l ∙ c.2,
              c.3 ∙ ap (λ (z : List Row). z ++ v.new) a.2 ∙ append_assoc (front_rows g') (w.new ++ pending_rows o) v.new,
            );
      }
      line-either (Err (Broken f)) v =
          λ g' ps l u. let a = line_so-far g' ps l u in a.1 ∙ either_on g' ps a.0 l ∙ v (eithers (line_of g' a.0)) ps l refl
      line-either (Err (Deep f)) v =
          λ g' ps l u. let a = line_so-far g' ps l u in a.1 ∙ either_on g' ps a.0 l ∙ v (eithers (line_of g' a.0)) ps l refl

  -- the reading comes no further than its first part
  pub line-stops : (o : Maybe Connective) (out' : List ℕ) (e : Stop) → PartRead s at d n None out out' (Err e) → LineRead s at d n o out out' (Err e)
  line-stops o out' (Broken k) w = λ f ps l u. w (first f) ps l refl
  line-stops o out' (Deep k) w = λ f ps l u. w (first f) ps l refl

-- the whole text
module _ (s out : List ℕ) where
  -- the reading comes no further than the line
  pub whole-stops : (out' : List ℕ) (e : Stop) → LineRead s 0 0 0 None out out' (Err e) → WholeRead s out out' (Err e) (reading.reading s)
  whole-stops out' (Broken k) w = subst (WholeRead s out out' (Err (Broken k))) (sym (w bare [] refl refl)) refl
  whole-stops out' (Deep k) w = subst (WholeRead s out out' (Err (Deep k))) (sym (w bare [] refl refl)) refl

  module _ (out' : List ℕ) (k m : ℕ) (w : LineAt s 0 0 0 None out out' k m) where
    -- more text follows the line
    pub whole-broken : k < length s → WholeRead s out out' (Err (Broken k)) (reading.reading s)
    whole-broken h =
        let x = w.goes bare [] refl refl in
        let n = w.ends h in
        subst (WholeRead s out out' (Err (Broken k)))
        (sym (x.2 ∙ from-none s (after x.0 x.1 []) k h (step-no-more x.0 x.1 (get_or s k 0) n.0 n.1 n.2))) refl

    -- the text is a line
    pub whole-at : length s ≤ k → WholeRead s out out' (Ok (record { at = k; rows = m })) (reading.reading s)
    whole-at h =
        let x = w.goes bare [] refl refl in
        let c = w.rows.count in
        let e : w.new ≡ line_rows (line_of x.0 x.1) = sym x.3 in
        subst (WholeRead s out out' (Ok (record { at = k; rows = m }))) (sym (x.2 ∙ from_end s (after x.0 x.1 []) k h))
        (let l = ap length e in omega arith, w.rows.is ∙ ap (stored out 0) e)
