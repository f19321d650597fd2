-- A law for each way through the reader of a pattern in `src/figure.rt`, and what all readers need. No contract cites this file.
--     from_goes, from-none, from_deep, from_end, stops_at     the reading of a text, by what its next byte does
--     stored_append, stored-length, stored_one, stored_two     rows are stored one behind the other
--     Within, within_first, within-goes, within_emits     in a pattern: the invariant of its reader, and a byte that goes on
--     within-length, within-most                    the buffer keeps its length, and the state its limits
--     within_end, within-closes, within-stuck       how the reading of a pattern ends
-- Assumes nothing.
use Prim.Native.Nat.{ℕ, suc, ◌+◌, ◌*◌, ◌<◌, ◌≤◌}
use native.Mathlib.Numerals.{add-one}
use native.Mathlib.Omega.{arith}
use mathlib.Core.Path.{◌≡◌, refl, sym, ap, ap₂, ◌∙◌, subst}
use mathlib.Core.Bool.{Bool, true, false, cond}
use mathlib.Core.List.{List, [], ◌∷◌, ◌++◌}
use mathlib.Core.Option.{Option, none, some}
use lib.Dec.{leb, ltb}
use lib.ListN.{length, get_or, take, drop, drop_of_length-le, length-append, length-drop}
use lib.Seq.{drop-cons}
use borrow.Author.Tests.{lt-ltb, le-ltb, ltb-true, ltb-false, leb-true}
use Rattle.std.proofs.Common.{Some, None, Ok, Err, length-take-le}
use Rattle.line.specs.declared.steps.State.{State}
use Rattle.line.specs.declared.steps.State.TheVariants.{Listing}
use Rattle.line.specs.declared.steps.Next.TheVariants.{Goes, Emits, Closes}
use Rattle.plan.specs.declared.row.Kind.{Kind}
use Rattle.plan.specs.declared.row.Kind.TheVariants.{End}
use Rattle.plan.specs.Rows.{words_of}
use Rattle.plan.specs.declared.row.Row.{Row}
use Rattle.line.specs.Inner.Store.{put_row, stored, partial_rows}
use Rattle.line.specs.declared.reading.Stop.TheVariants.{Broken}
use Rattle.grammar.specs.Grammar as g
use Rattle.grammar.specs.declared.tokens.Word.TheVariants as word
use Rattle.grammar.specs.Grammar.{arity, most_of}
use Rattle.grammar.specs.declared.tokens.Word.{Word}
use Rattle.grammar.specs.Reading as reading
use Rattle.grammar.specs.Reading.{Number, fresh, digits, Partial, listing, semicolon, lettered, counting, goes, closes, stuck, step_in}
use Rattle.grammar.specs.Reading.{Context, Bracket, Config, inside, partial_text}
use Rattle.grammar.specs.Reading.{filled, within, step, open_in, broken, deep, finished, continued, outcome}
use Rattle.line.specs.Inner.States.{NumberMost, StateMost, step_state, state_of}
use Rattle.line.specs.Inner.Reads.{from, FigureAt, FigureRead}
use Rattle.grammar.proofs.Laws.Reading.{PartialFits, NextTold, step_in-told, NumberFits}
use Rattle.grammar.proofs.Laws.Query.{end}
use Rattle.grammar.proofs.Laws.Steps.{filled_open}
use Rattle.grammar.proofs.Laws.Words.{words-four}
use Rattle.line.proofs.Laws.States.{row_of, step_follows, Follows}

-- one byte of a text
module _ (s : List ℕ) (c : Config) (q : ℕ) where
  here : q < length s → from s c q ≡ continued (step c (get_or s q 0)) q (λ x. outcome x (suc q) (drop (suc q) s))
  unfolding outcome
  here h = ap (outcome c q) (drop-cons s q 0 h)

  -- a byte that can be read
  pub from_goes : (d : Config) → q < length s → step c (get_or s q 0) ≡ some d → open_in d ≤ 8 → from s c q ≡ from s d (q + 1)
  from_goes d h e l =
      here h ∙ ap (λ (o : Option Config). continued o q (λ x. outcome x (suc q) (drop (suc q) s))) e
      ∙ ap (λ (t : Bool). cond t (deep q) (outcome d (suc q) (drop (suc q) s))) (le-ltb 8 (open_in d) l)
      ∙ ap (λ (k : ℕ). from s d k) (sym (add-one q))

  -- a byte that no line has there
  pub from-none : q < length s → step c (get_or s q 0) ≡ none → from s c q ≡ broken q
  from-none h e = here h ∙ ap (λ (o : Option Config). continued o q (λ x. outcome x (suc q) (drop (suc q) s))) e

  -- a ninth bracket
  pub from_deep : (d : Config) → q < length s → step c (get_or s q 0) ≡ some d → 8 < open_in d → from s c q ≡ deep q
  from_deep d h e l =
      here h ∙ ap (λ (o : Option Config). continued o q (λ x. outcome x (suc q) (drop (suc q) s))) e
      ∙ ap (λ (t : Bool). cond t (deep q) (outcome d (suc q) (drop (suc q) s))) (lt-ltb 8 (open_in d) l)

  -- the end of the text
  pub from_end : length s ≤ q → from s c q ≡ finished c q
  unfolding outcome
  from_end h = ap (outcome c q) (drop_of_length-le s h)

  -- the end of the text, or a byte that no line has there
  pub stops_at : (q < length s → step c (get_or s q 0) ≡ none) → finished c q ≡ broken q → from s c q ≡ broken q
  stops_at f e = go (ltb q (length s)) refl
    where
      go : (t : Bool) → ltb q (length s) ≡ t → from s c q ≡ broken q
      go true w = let h = ltb-true q (length s) w in from-none h (f h)
      go false w = from_end (ltb-false q (length s) w) ∙ e

-- the numbers of a pattern that has been read are small
number-most : (most : ℕ) (x : Number) → NumberFits most x → NumberMost most x
number-most most fresh h = tt
number-most most (digits n) h = h

third : (w : Word) (ns : List ℕ) → length ns < arity w → g.Within (most_of w) ns → get_or ns 2 0 ≤ 65535
third w [] l h = omega arith
third w (a ∷ []) l h = omega arith
third w (a ∷ b ∷ []) l h = omega arith
third word.Apart (a ∷ b ∷ c ∷ ns) l h = h 2 (omega arith)
third word.Near (a ∷ b ∷ c ∷ ns) l h = absurd (let z : ⊥ = omega arith in z)
third word.Before (a ∷ b ∷ c ∷ ns) l h = absurd (let z : ⊥ = omega arith in z)
third word.Same (a ∷ b ∷ c ∷ ns) l h = absurd (let z : ⊥ = omega arith in z)
third word.Span (a ∷ b ∷ c ∷ ns) l h = absurd (let z : ⊥ = omega arith in z)

-- a pattern so far keeps its state in the limits
state-most : (f : Partial) → PartialFits f → StateMost (state_of f)
state-most (listing ns x) h = number-most 65536 x h.last
state-most (semicolon f) h = tt
state-most (lettered f w) h = tt
state-most (counting f w ns x) h = (number-most (most_of w (length ns)) x h.last, h.room, third w ns h.room h.numbers)

-- rows are stored one behind the other
pub stored_append : (rs ss : List Row) (out : List ℕ) (n : ℕ) → stored out n (rs ++ ss) ≡ stored (stored out n rs) (n + length rs) ss
unfolding stored
stored_append [] ss out n = ap (λ (k : ℕ). stored out k ss) (let e : n ≡ n + 0 = omega arith in e)
stored_append (r ∷ rs) ss out n =
    stored_append rs ss (put_row out n r.kind) (n + 1)
    ∙ ap (λ (k : ℕ). stored (stored (put_row out n r.kind) (n + 1) rs) k ss)
    (let e : n + 1 + length rs ≡ n + suc (length rs) = omega arith in e)

-- a row that is stored leaves the length
put-length : (out : List ℕ) (n : ℕ) (k : Kind) → length (put_row out n k) ≡ length out
unfolding put_row
put-length out n k = go (leb (4 * n + 4) (length out)) refl
  where
    go : (t : Bool) → leb (4 * n + 4) (length out) ≡ t
        → length (cond t (take (4 * n) out ++ (words_of k ++ drop (4 * n + 4) out)) out) ≡ length out
    go true e =
        let h = leb-true (4 * n + 4) (length out) e in
        let f = ap length (words-four k) in
        simp (length-append, length-drop) (let l = length-take-le (4 * n) out (omega arith) in omega arith)
    go false e = refl

-- and so do rows
stored-length : (rs : List Row) (out : List ℕ) (n : ℕ) → length (stored out n rs) ≡ length out
unfolding stored
stored-length [] out n = refl
stored-length (r ∷ rs) out n = stored-length rs (put_row out n r.kind) (n + 1) ∙ put-length out n r.kind

-- one row
pub stored_one : (out : List ℕ) (n : ℕ) (k : Kind) → put_row out n k ≡ stored out n (row_of k ∷ [])
unfolding stored
stored_one out n k = refl

-- two rows
stored_two : (out : List ℕ) (n : ℕ) (k l : Kind) → put_row (put_row out n k) (n + 1) l ≡ stored out n (row_of k ∷ row_of l ∷ [])
unfolding stored
stored_two out n k l = refl

-- the pattern from byte `start` on has been read to byte `at`: its state, and the rows that are stored
pub record Within (s : List ℕ) (start n : ℕ) (out : List ℕ) (at : ℕ) (state : State) (rows : ℕ) (out' : List ℕ) : Type 0 where
  pub read : Partial
  pub is : state_of read ≡ state
  pub sound : PartialFits read
  pub low : start ≤ at
  pub high : at ≤ length s
  pub few : rows + start ≤ n + at
  pub count : rows ≡ n + length (partial_rows read)
  pub kept : out' ≡ stored out n (partial_rows read)
  pub steps : (p : Context) (ps : List Bracket) → length ps ≤ 8
      → from s (inside (listing [] fresh) p ps) start ≡ from s (inside read p ps) at

module _ (s : List ℕ) (start n : ℕ) (out : List ℕ) where
  -- nothing has been read of it
  pub within_first : start ≤ length s → n < start → Within s start n out start (Listing fresh) n out
  unfolding stored
  within_first h l = record {
    read = listing [] fresh;
    is = refl;
    sound = record { numbers = λ i l. absurd (let z : ⊥ = omega arith in z); last = tt };
    low = omega arith;
    high = h;
    few = omega arith;
    count = omega arith;
    kept = refl;
    steps = λ p ps l. refl;
  }

  module _ (at : ℕ) (state : State) (rows : ℕ) (out' : List ℕ) (w : Within s start n out at state rows out') where
    -- the buffer keeps its length
    pub within-length : length out' ≡ length out
    within-length = ap length w.kept ∙ stored-length (partial_rows w.read) out n

    -- the state keeps to the limits
    pub within-most : StateMost state
    within-most = subst StateMost w.is (state-most w.read w.sound)

    -- the text ends in a pattern
    pub within_end : length s ≤ at → FigureRead s start n out out' (Err (Broken at))
    within_end h p ps l = w.steps p ps l ∙ from_end s (inside w.read p ps) at h

    module _ (h : at < length s) where
      -- the state follows the reading
      follows : Follows w.read (step_in w.read (get_or s at 0)) (step_state state (get_or s at 0))
      follows =
          subst (λ (x : State). Follows w.read (step_in w.read (get_or s at 0)) (step_state x (get_or s at 0))) w.is
          (step_follows w.read (get_or s at 0) w.sound)

      within-is : (m : reading.Next) → step_in w.read (get_or s at 0) ≡ m → (p : Context) (ps : List Bracket)
          → step (inside w.read p ps) (get_or s at 0) ≡ within m p ps
      unfolding step
      within-is m e p ps = ap (λ (x : reading.Next). within x p ps) e

      -- a byte inside a row
      pub within-goes : (to : State) → step_state state (get_or s at 0) ≡ Some (Goes to) → Within s start n out (at + 1) to rows out'
      within-goes to e =
          go (step_in w.read (get_or s at 0)) refl (subst (Follows w.read (step_in w.read (get_or s at 0))) e follows)
          (step_in-told w.read (get_or s at 0) w.sound)
        where
          go : (m : reading.Next) → step_in w.read (get_or s at 0) ≡ m → Follows w.read m (Some (Goes to))
              → NextTold (partial_text w.read ++ (get_or s at 0 ∷ [])) m → Within s start n out (at + 1) to rows out'
          go (goes f) q r t = record {
            read = f;
            is = r.state;
            sound = t.1;
            low = let l = w.low in omega arith;
            high = omega arith;
            few = let l = w.few in omega arith;
            count = w.count ∙ ap (λ (x : List Row). n + length x) (sym r.rows);
            kept = w.kept ∙ ap (stored out n) (sym r.rows);
            steps = λ p ps l. w.steps p ps l ∙ from_goes s (inside w.read p ps) at (inside f p ps) h (within-is (goes f) q p ps) l;
          }
          go (closes f) q r t = absurd r
          go stuck q r t = absurd r

      -- a byte behind a row
      pub within_emits : (k : Kind) (to : State) → step_state state (get_or s at 0) ≡ Some (Emits to k)
          → Within s start n out (at + 1) to (rows + 1) (put_row out' rows k)
      within_emits k to e =
          go (step_in w.read (get_or s at 0)) refl (subst (Follows w.read (step_in w.read (get_or s at 0))) e follows)
          (step_in-told w.read (get_or s at 0) w.sound)
        where
          go : (m : reading.Next) → step_in w.read (get_or s at 0) ≡ m → Follows w.read m (Some (Emits to k))
              → NextTold (partial_text w.read ++ (get_or s at 0 ∷ [])) m
              → Within s start n out (at + 1) to (rows + 1) (put_row out' rows k)
          go (goes f) q r t = record {
            read = f;
            is = r.state;
            sound = t.1;
            low = let l = w.low in omega arith;
            high = omega arith;
            few = let l = w.few in omega arith;
            count =
                let a = w.count in
                let b = ap length r.rows in
                let c = length-append (partial_rows w.read) (row_of k ∷ []) in
                omega arith;
            kept =
                stored_one out' rows k
                ∙ ap₂ (λ (x : List ℕ) (m : ℕ). stored x m (row_of k ∷ [])) w.kept w.count
                ∙ sym (stored_append (partial_rows w.read) (row_of k ∷ []) out n)
                ∙ ap (stored out n) (sym r.rows);
            steps = λ p ps l. w.steps p ps l ∙ from_goes s (inside w.read p ps) at (inside f p ps) h (within-is (goes f) q p ps) l;
          }
          go (closes f) q r t = absurd r
          go stuck q r t = absurd r

      -- `]`: the last row, and END
      pub within-closes : (k : Kind) → step_state state (get_or s at 0) ≡ Some (Closes k)
          → FigureRead s start n out (put_row (put_row out' rows k) (rows + 1) End) (Ok (record { at = at + 1; rows = rows + 2 }))
      within-closes k e =
          go (step_in w.read (get_or s at 0)) refl (subst (Follows w.read (step_in w.read (get_or s at 0))) e follows)
        where
          go : (m : reading.Next) → step_in w.read (get_or s at 0) ≡ m → Follows w.read m (Some (Closes k))
              → FigureAt s start n out (put_row (put_row out' rows k) (rows + 1) End) (at + 1) (rows + 2)
          go (goes f) q r = absurd r
          go (closes f) q r = record {
            read = f;
            rows = record {
              ahead = let l = w.low in omega arith;
              within = omega arith;
              few = let l = w.few in omega arith;
              count =
                  let a = w.count in
                  let b = ap length r.rows in
                  let c = length-append (partial_rows w.read) (row_of k ∷ end ∷ []) in
                  omega arith;
              is =
                  stored_two out' rows k End
                  ∙ ap₂ (λ (x : List ℕ) (m : ℕ). stored x m (row_of k ∷ end ∷ [])) w.kept w.count
                  ∙ sym (stored_append (partial_rows w.read) (row_of k ∷ end ∷ []) out n)
                  ∙ ap (stored out n) (sym r.rows);
            };
            goes =
                λ p ps l. w.steps p ps l
                ∙ from_goes s (inside w.read p ps) at (filled p (g.figure f) ps) h (within-is (closes f) q p ps)
                (rw (filled_open p (g.figure f) ps) l);
          }
          go stuck q r = absurd r

      -- a byte that no line has there
      pub within-stuck : step_state state (get_or s at 0) ≡ None → FigureRead s start n out out' (Err (Broken at))
      within-stuck e = go (step_in w.read (get_or s at 0)) refl (subst (Follows w.read (step_in w.read (get_or s at 0))) e follows)
        where
          go : (m : reading.Next) → step_in w.read (get_or s at 0) ≡ m → Follows w.read m None
              → FigureRead s start n out out' (Err (Broken at))
          go (goes f) q r = absurd r
          go (closes f) q r = absurd r
          go stuck q r = λ p ps l. w.steps p ps l ∙ from-none s (inside w.read p ps) at h (within-is stuck q p ps)
