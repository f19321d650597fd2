-- A law for each way through the readers of several lines in `src/reading.rt`. No contract cites this file.
--     step-..                  what a byte does behind `<`, behind its number and behind one of the lines
--     several-..               the reader of the number and of `:`
--     lines-..                 the reader of the lines, `,` and `>`
-- Assumes nothing.
use Prim.Native.Nat.{ℕ, suc, ◌+◌, ◌-◌, ◌<◌, ◌≤◌, max}
use native.Mathlib.Omega.{arith}
use mathlib.Core.Path.{◌≡◌, refl, sym, ap, ap₂, ◌∙◌}
use mathlib.Core.Bool.{Bool, true, false, cond, ◌&&◌}
use mathlib.Core.Logic.{◌≢◌}
use lib.Dec.{leb}
use mathlib.Core.List.{List, ◌∷◌, ◌++◌, append_assoc}
use mathlib.Core.Option.{Option, none, some}
use lib.ListN.{length, get_or, length-append}
use borrow.Author.Tests.{lt-ltb, le-ltb, le-leb, lt-leb, ne_eqb, leb-true}
use Rattle.std.proofs.Common.{None, Result, Ok, Err}
use Rattle.plan.specs.declared.row.Operator.TheVariants.{AtLeast}
use Rattle.plan.specs.declared.row.Kind.TheVariants as kind
use Rattle.plan.specs.declared.row.Row.{Row}
use Rattle.grammar.specs.Meaning.{operator_row, line_rows, lines_rows}
use Rattle.line.specs.Inner.Store.{put_row, stored}
use Rattle.line.specs.declared.reading.Reached.{Reached}
use Rattle.line.specs.declared.reading.Stop.{Stop}
use Rattle.line.specs.declared.reading.Stop.TheVariants.{Broken, Deep}
use Rattle.grammar.specs.Grammar as g
use Rattle.grammar.specs.Grammar.{Line, Part, Lines, line_count}
use Rattle.grammar.specs.Reading.{Front, bare, Context, first, Bracket, among, Config, ready, after, opened, numbered, line_of, filled, step}
use Rattle.line.specs.Inner.Reads.{from, Stored, LineAt, LineRead, SeveralRead, LinesRead}
use Rattle.grammar.proofs.Laws.Steps.{filled_open}
use Rattle.line.proofs.Laws.Figure.{from_goes, from-none, from_end, stops_at, stored_append, stored_one}
use Rattle.line.proofs.Laws.Reads.{step-not-ended, then-rows}

-- the steps of the readers, by the byte that is there
step_no-number : (p : Context) (ps : List Bracket) (b : ℕ) → (49 ≤ b → b ≤ 56 → ⊥) → step (opened p ps) b ≡ none
unfolding step
step_no-number p ps b f = go (leb 49 b) (leb b 56) refl refl
  where
    go : (t u : Bool) → leb 49 b ≡ t → leb b 56 ≡ u → ◌≡◌ {A = Option Config} (cond (t && u) (some (numbered (b - 48) p ps)) none) none
    go false u e k = refl
    go true false e k = refl
    go true true e k = absurd (f (leb-true 49 b e) (leb-true b 56 k))

step-number : (p : Context) (ps : List Bracket) (b : ℕ) → 49 ≤ b → b ≤ 56 → step (opened p ps) b ≡ some (numbered (b - 48) p ps)
unfolding step
step-number p ps b h l = rw (le-leb 49 b h, le-leb b 56 l)

step_colon : (n : ℕ) (p : Context) (ps : List Bracket) (b : ℕ) → b ≡ 58
    → step (numbered n p ps) b ≡ some (ready (first bare) (among n g.nil p ∷ ps))
unfolding step
step_colon n p ps b e = ap (step (numbered n p ps)) e

step-no_colon : (n : ℕ) (p : Context) (ps : List Bracket) (b : ℕ) → b ≢ 58 → step (numbered n p ps) b ≡ none
unfolding step
step-no_colon n p ps b e = rw (ne_eqb b 58 e)

-- behind one of several lines
module _ (f : Front) (q : Part) (n : ℕ) (ls : Lines) (p : Context) (ps : List Bracket) (b : ℕ) where
  step-parted : b ≡ 44 → suc (line_count ls) < 8
      → step (after f q (among n ls p ∷ ps)) b ≡ some (ready (first bare) (among n (g.snoc ls (line_of f q)) p ∷ ps))
  unfolding step
  step-parted e l = ap (step (after f q (among n ls p ∷ ps))) e ∙ rw (lt-ltb (suc (line_count ls)) 8 l)

  step-full : b ≡ 44 → 8 ≤ suc (line_count ls) → step (after f q (among n ls p ∷ ps)) b ≡ none
  unfolding step
  step-full e l = ap (step (after f q (among n ls p ∷ ps))) e ∙ rw (le-ltb (suc (line_count ls)) 8 l)

  step-ended : b ≡ 62 → max 2 n ≤ suc (line_count ls)
      → step (after f q (among n ls p ∷ ps)) b ≡ some (filled p (g.at_least n (g.snoc ls (line_of f q))) ps)
  unfolding step
  step-ended e l = ap (step (after f q (among n ls p ∷ ps))) e ∙ rw (le-leb (max 2 n) (suc (line_count ls)) l)

  step-early : b ≡ 62 → suc (line_count ls) < max 2 n → step (after f q (among n ls p ∷ ps)) b ≡ none
  unfolding step
  step-early e l = ap (step (after f q (among n ls p ∷ ps))) e ∙ rw (lt-leb (max 2 n) (suc (line_count ls)) l)

-- several lines behind `<`
module _ (s : List ℕ) (at d n : ℕ) (out : List ℕ) where
  -- the text ends behind `<`
  pub several-out : length s ≤ at → SeveralRead s at d n out out (Err (Broken at))
  several-out h p ps l = from_end s (opened p ps) at h

  module _ (h : at < length s) where
    -- a byte that is no digit from `1` to `8`
    pub several-none : (49 ≤ get_or s at 0 → get_or s at 0 ≤ 56 → ⊥) → SeveralRead s at d n out out (Err (Broken at))
    several-none b p ps l = from-none s (opened p ps) at h (step_no-number p ps (get_or s at 0) b)

    module _ (low : 49 ≤ get_or s at 0) where
      module _ (high : get_or s at 0 ≤ 56) (few : d ≤ 8) where
        number_on : (p : Context) (ps : List Bracket) → suc (length ps) ≡ d
            → from s (opened p ps) at ≡ from s (numbered (get_or s at 0 - 48) p ps) (at + 1)
        number_on p ps l =
            from_goes s (opened p ps) at (numbered (get_or s at 0 - 48) p ps) h (step-number p ps (get_or s at 0) low high) (omega arith)

        -- no `:` stands behind it
        pub several-wrong : (at + 1 < length s → get_or s (at + 1) 0 ≢ 58) → SeveralRead s at d n out out (Err (Broken (at + 1)))
        several-wrong f p ps l =
            number_on p ps l
            ∙ stops_at s (numbered (get_or s at 0 - 48) p ps) (at + 1)
            (λ o. step-no_colon (get_or s at 0 - 48) p ps (get_or s (at + 1) 0) (f o)) refl

        module _ (o : at + 1 < length s) where
          module _ (e : get_or s (at + 1) 0 ≡ 58) (out' : List ℕ) where
            colon_on : (p : Context) (ps : List Bracket) → suc (length ps) ≡ d
                → from s (opened p ps) at ≡ from s (ready (first bare) (among (get_or s at 0 - 48) g.nil p ∷ ps)) (at + 2)
            colon_on p ps l =
                number_on p ps l
                ∙ from_goes s (numbered (get_or s at 0 - 48) p ps) (at + 1) (ready (first bare) (among (get_or s at 0 - 48) g.nil p ∷ ps)) o
                (step_colon (get_or s at 0 - 48) p ps (get_or s (at + 1) 0) e) (omega arith)
                ∙ ap (from s (ready (first bare) (among (get_or s at 0 - 48) g.nil p ∷ ps))) (let q : at + 1 + 1 ≡ at + 2 = omega arith in q)

            -- `:`: the lines
            pub several-lines : (r : Result Reached Stop) → LinesRead s (at + 2) d (get_or s at 0 - 48) 0 n out out' r → SeveralRead s at d n out out' r
            unfolding line_rows
            several-lines (Ok r) w = record {
              new = w.new;
              rows = record {
                ahead = let a = w.rows.ahead in omega arith;
                within = w.rows.within;
                few = let a = w.rows.few in omega arith;
                count = w.rows.count;
                is = w.rows.is;
              };
              goes = λ p ps l. let x = w.goes g.nil p ps l refl in (x.0, colon_on p ps l ∙ x.1, x.2);
            }
            several-lines (Err (Broken k)) w = λ p ps l. colon_on p ps l ∙ w g.nil p ps l refl
            several-lines (Err (Deep k)) w = λ p ps l. colon_on p ps l ∙ w g.nil p ps l refl

-- the lines between `<` and `>`, one by one
module _ (s : List ℕ) (at d least count n : ℕ) (out out₁ : List ℕ) where
  -- the reading comes no further than a line
  pub lines-stops : (e : Stop) → LineRead s at d n None out out₁ (Err e) → LinesRead s at d least count n out out₁ (Err e)
  lines-stops (Broken k) w = λ ls p ps l c. w bare (among least ls p ∷ ps) l refl
  lines-stops (Deep k) w = λ ls p ps l c. w bare (among least ls p ∷ ps) l refl

  module _ (k m : ℕ) (w : LineAt s at d n None out out₁ k m) where
    -- the text ends behind a line
    pub lines_open : length s ≤ k → LinesRead s at d least count n out out₁ (Err (Broken k))
    lines_open o ls p ps l c =
        let x = w.goes bare (among least ls p ∷ ps) l refl in x.2 ∙ from_end s (after x.0 x.1 (among least ls p ∷ ps)) k o

    module _ (o : k < length s) where
      -- a byte that no lines have there
      pub lines-wrong : get_or s k 0 ≢ 44 → get_or s k 0 ≢ 62 → LinesRead s at d least count n out out₁ (Err (Broken k))
      lines-wrong e f ls p ps l c =
          let x = w.goes bare (among least ls p ∷ ps) l refl in
          let z = w.ends o in
          x.2
          ∙ from-none s (after x.0 x.1 (among least ls p ∷ ps)) k o
          (step-not-ended x.0 x.1 (get_or s k 0) z.0 z.1 z.2 least ls p ps e f)

      module _ (e : get_or s k 0 ≡ 44) where
        -- a comma behind the eighth line
        pub lines-full : 8 ≤ count + 1 → LinesRead s at d least count n out out₁ (Err (Broken k))
        lines-full z ls p ps l c =
            let x = w.goes bare (among least ls p ∷ ps) l refl in
            x.2
            ∙ from-none s (after x.0 x.1 (among least ls p ∷ ps)) k o
            (step-full x.0 x.1 least ls p ps (get_or s k 0) e (omega arith))

        module _ (z : count + 1 < 8) (few : d ≤ 8) (out₂ : List ℕ) where
          comma_on : (ls : Lines) (p : Context) (ps : List Bracket) → suc (length ps) ≡ d → line_count ls ≡ count
              → (a : Line) × (from s (ready (first bare) (among least ls p ∷ ps)) at
              ≡ from s (ready (first bare) (among least (g.snoc ls a) p ∷ ps)) (k + 1)) × (line_rows a ≡ w.new)
          comma_on ls p ps l c =
              let x = w.goes bare (among least ls p ∷ ps) l refl in (
                line_of x.0 x.1,
                x.2
                    ∙ from_goes s (after x.0 x.1 (among least ls p ∷ ps)) k
                    (ready (first bare) (among least (g.snoc ls (line_of x.0 x.1)) p ∷ ps)) o
                    (step-parted x.0 x.1 least ls p ps (get_or s k 0) e (omega arith)) (omega arith),
                x.3,
              )

          -- a comma: the rest of the lines
          pub lines_comma : (r : Result Reached Stop) → LinesRead s (k + 1) d least (count + 1) m out₁ out₂ r
              → LinesRead s at d least count n out out₂ r
          unfolding line_rows
          lines_comma (Ok r) v = record {
            new = w.new ++ v.new;
            rows = then-rows s at n out out₁ out₂ k m r.at r.rows 0 w.new v.new w.rows (more-slack v.rows);
            goes = λ ls p ps l c.
                let a = comma_on ls p ps l c in
                let b = v.goes (g.snoc ls a.0) p ps l (omega arith) in (
                  b.0,
                  a.1 ∙ b.1,
                  b.2 ∙ ap (λ (q : List Row). (lines_rows ls ++ q) ++ v.new) a.2 ∙ append_assoc (lines_rows ls) w.new v.new,
                );
          }
            where
              more-slack : Stored s (k + 1) m 0 out₁ out₂ r.at r.rows v.new → Stored s (k + 1) m 1 out₁ out₂ r.at r.rows v.new
              more-slack q = record {
                ahead = q.ahead;
                within = q.within;
                few = let y = q.few in omega arith;
                count = q.count;
                is = q.is;
              }
          lines_comma (Err (Broken f)) v =
              λ ls p ps l c. let a = comma_on ls p ps l c in a.1 ∙ v (g.snoc ls a.0) p ps l (omega arith)
          lines_comma (Err (Deep f)) v =
              λ ls p ps l c. let a = comma_on ls p ps l c in a.1 ∙ v (g.snoc ls a.0) p ps l (omega arith)

      module _ (e : get_or s k 0 ≡ 62) where
        -- `>` behind fewer than two lines, or than are asked for
        pub lines-early : count + 1 < max 2 least → LinesRead s at d least count n out out₁ (Err (Broken k))
        lines-early z ls p ps l c =
            let x = w.goes bare (among least ls p ∷ ps) l refl in
            x.2
            ∙ from-none s (after x.0 x.1 (among least ls p ∷ ps)) k o
            (step-early x.0 x.1 least ls p ps (get_or s k 0) e (omega arith))

        -- `>`: the row of AT LEAST
        pub lines_end : 2 ≤ count + 1 → least ≤ count + 1 → d ≤ 8 → (out₂ : List ℕ)
            → out₂ ≡ put_row out₁ m (kind.Operator (AtLeast least (count + 1)))
            → LinesRead s at d least count n out out₂ (Ok (record { at = k + 1; rows = m + 1 }))
        unfolding line_rows
        lines_end y z few out₂ v = record {
          new = w.new ++ operator_row (AtLeast least (count + 1));
          rows = record {
            ahead = let a = w.rows.ahead in omega arith;
            within = omega arith;
            few = let a = w.rows.few in omega arith;
            count =
                let a = w.rows.count in
                let b = length-append w.new (operator_row (AtLeast least (count + 1))) in
                omega arith;
            is =
                v
                ∙ stored_one out₁ m (kind.Operator (AtLeast least (count + 1)))
                ∙ ap₂ (λ (a : List ℕ) (b : ℕ). stored a b (operator_row (AtLeast least (count + 1)))) w.rows.is w.rows.count
                ∙ sym (stored_append w.new (operator_row (AtLeast least (count + 1))) out n);
          };
          goes = λ ls p ps l c.
              let x = w.goes bare (among least ls p ∷ ps) l refl in
              let a = line_of x.0 x.1 in (
                g.at_least least (g.snoc ls a),
                x.2
                    ∙ from_goes s (after x.0 x.1 (among least ls p ∷ ps)) k (filled p (g.at_least least (g.snoc ls a)) ps) o
                    (step-ended x.0 x.1 least ls p ps (get_or s k 0) e (omega arith))
                    (rw (filled_open p (g.at_least least (g.snoc ls a)) ps) (omega arith)),
                ap₂ (λ (q : List Row) (b : ℕ). (lines_rows ls ++ q) ++ operator_row (AtLeast least b)) x.3
                    (let b : suc (line_count ls) ≡ count + 1 = omega arith in b)
                    ∙ append_assoc (lines_rows ls) w.new (operator_row (AtLeast least (count + 1))),
              );
        }
