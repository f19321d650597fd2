-- The text of a pattern, written from its end, row by row. No contract cites this file.
--     begun-behind, put-begun             one number more of a condition
--     distance-text .. proximity-text     the text of each condition
--     snoc_inj, snoc_or                   a list by its last element
--     rows_last                           the last of some rows
--     behind-is                           the row in front, as the code reads it
--     lists-number, lists-room, lists-first, lists-next     the list numbers of a pattern
--     open-condition .. open-lists        a pattern without its closing bracket
--     pattern-room, pattern-put           a pattern
-- Assumes nothing.
use Prim.Native.Nat.{ℕ, zero, suc, ◌+◌, ◌-◌, ◌≤◌}
use native.Mathlib.Nat.{zero-add}
use native.Mathlib.Numerals.{add-one}
use native.Mathlib.Omega.{arith}
use mathlib.Core.Path.{◌≡◌, refl, sym, ap, ap₂, ◌∙◌}
use mathlib.Core.Bool.{true, false, true≢false}
use mathlib.Core.Logic.{◌⊎◌, inl, inr, ⊎_elim}
use mathlib.Core.List.{List, [], ◌∷◌, ◌++◌, map, append_assoc, append-nil, map-append}
use lib.ListN.{length, length-append, length-map}
use Rattle.seq.specs.Decimal.{decimal}
use Rattle.seq.specs.Lists.{joined}
use Rattle.seq.proofs.Laws.Lists.{length-snoc}
use Rattle.seq.proofs.Laws.Numbers.{run-snoc, length_run}
use Rattle.plan.specs.declared.row.Predicate.{Predicate}
use Rattle.plan.specs.declared.row.Predicate.TheVariants.{Distance, Ordered, Samepara, Window, Proximity}
use Rattle.plan.specs.declared.row.Operator.{Operator}
use Rattle.plan.specs.declared.row.Kind.{Kind}
use Rattle.plan.specs.declared.row.Kind.TheVariants as kind
use Rattle.plan.specs.declared.row.Row.{Row}
use Rattle.plan.specs.Rows.{row_at, rows_before, is_voice}
use Rattle.plan.specs.Patterns.{Pattern}
use Rattle.grammar.specs.Text.{lead, gap_after}
use Rattle.grammar.specs.Grammar.{condition_text, open_text, figure_text}
use Rattle.grammar.specs.Query.{condition_of, figure_of}
use Rattle.grammar.proofs.Laws.Text.{lead-behind}
use Rattle.printer.specs.Inner.Writing.{PutBack, Back, spaced, begun, Formed, behind_voice, voice_row, condition_row, Shut, Laid}
use Rattle.printer.specs.Inner.Writing.{ListsEnd, ListsRoom, ListsPut, OpenEnd, OpenRoom, OpenPut, PatternEnd, PatternRoom, PatternPut}
use Rattle.printer.proofs.Laws.Bytes.{put_as, put_then}

-- behind a space stands a space
gap : (ns : List ℕ) → gap_after 32 ns ≡ 32
gap [] = refl
gap (n ∷ ns) = refl

-- one number more
begun-behind : (letter : ℕ) (ns : List ℕ) (n : ℕ) → begun letter (ns ++ (n ∷ [])) ≡ begun letter ns ++ spaced n
unfolding begun
begun-behind letter ns n =
    ap (λ (l : List ℕ). 59 ∷ letter ∷ l) (lead-behind 32 ns n ∙ ap (λ (x : ℕ). lead 32 ns ++ (x ∷ decimal n)) (gap ns))

pub length-begun : (letter : ℕ) (ns : List ℕ) (n : ℕ)
    → length (begun letter (ns ++ (n ∷ []))) ≡ length (begun letter ns) + length (spaced n)
length-begun letter ns n = ap length (begun-behind letter ns n) ∙ length-append (begun letter ns) (spaced n)

pub put-begun : (letter : ℕ) (ns : List ℕ) (n : ℕ) {out out' out'' : List ℕ} {end m r : ℕ} → PutBack (spaced n) out end out' m
    → PutBack (begun letter ns) out' m out'' r
    → PutBack (begun letter (ns ++ (n ∷ []))) out end out'' r
put-begun letter ns n x y = rw (begun-behind letter ns n) (put_then (begun letter ns) (spaced n) x y)

-- a condition's letter
pub length-letter : (letter : ℕ) → length (begun letter []) ≡ 2
unfolding begun lead
length-letter letter = refl

-- the text of each condition
module _ {c : Predicate} where
  pub distance-text : {a b limit : ℕ} → c ≡ Distance a b limit → condition_text (condition_of c) ≡ begun 110 (a ∷ b ∷ limit ∷ [])
  unfolding begun
  distance-text e = ap (λ (x : Predicate). condition_text (condition_of x)) e

  pub ordered-text : {a b : ℕ} → c ≡ Ordered a b → condition_text (condition_of c) ≡ begun 98 (a ∷ b ∷ [])
  unfolding begun
  ordered-text e = ap (λ (x : Predicate). condition_text (condition_of x)) e

  pub samepara-text : {a b : ℕ} → c ≡ Samepara a b → condition_text (condition_of c) ≡ begun 116 (a ∷ b ∷ [])
  unfolding begun
  samepara-text e = ap (λ (x : Predicate). condition_text (condition_of x)) e

  pub window-text : {limit : ℕ} → c ≡ Window limit → condition_text (condition_of c) ≡ begun 115 (limit ∷ [])
  unfolding begun
  window-text e = ap (λ (x : Predicate). condition_text (condition_of x)) e

  pub proximity-text : {a b least most : ℕ} → c ≡ Proximity a b least most
      → condition_text (condition_of c) ≡ begun 97 (a ∷ b ∷ least ∷ most ∷ [])
  unfolding begun
  proximity-text e = ap (λ (x : Predicate). condition_text (condition_of x)) e

-- a list by its last element
pub record Snoc {A : Type 0} (xs : List A) : Type 0 where
  pub front : List A
  pub last : A
  pub is : xs ≡ front ++ (last ∷ [])

pub snoc_or : {A : Type 0} (xs : List A) → (xs ≡ []) ⊎ Snoc xs
snoc_or [] = inl refl
snoc_or {A} (x ∷ xs) =
    ⊎_elim
    (λ (e : xs ≡ []). inr (record { front = []; last = x; is = ap (λ (l : List A). x ∷ l) e }))
    (λ (s : Snoc xs). inr (record { front = x ∷ s.front; last = s.last; is = ap (λ (l : List A). x ∷ l) s.is }))
    (snoc_or xs)

-- a list that is not empty has a last element
pub some-snoc : {A : Type 0} (xs : List A) → 1 ≤ length xs → Snoc xs
some-snoc {A} xs h =
    ⊎_elim (λ (e : xs ≡ []). absurd (let n = ap length e in let z : ⊥ = omega arith in z)) (λ (s : Snoc xs). s) (snoc_or xs)

-- two lists with one last element each are the same
pub record SnocSame {A : Type 0} (xs ys : List A) (x y : A) : Type 0 where
  pub front : xs ≡ ys
  pub last : x ≡ y

pub snoc_inj : {A : Type 0} (xs ys : List A) (x y : A) → xs ++ (x ∷ []) ≡ ys ++ (y ∷ []) → SnocSame xs ys x y
snoc_inj [] [] x y e = record { front = refl; last = cc }
snoc_inj [] (b ∷ ys) x y e = absurd (let n = ap length e in let l = length-snoc ys y in let z : ⊥ = omega arith in z)
snoc_inj (a ∷ xs) [] x y e = absurd (let n = ap length e in let l = length-snoc xs x in let z : ⊥ = omega arith in z)
snoc_inj {A} (a ∷ xs) (b ∷ ys) x y e =
    let t : xs ++ (x ∷ []) ≡ ys ++ (y ∷ []) = cc in
    let h : a ≡ b = cc in
    let w = snoc_inj xs ys x y t in
    record { front = ap₂ (λ (u : A) (l : List A). u ∷ l) h w.front; last = w.last }

-- the last of some rows
pub record RowsLast (p : List ℕ) (n : ℕ) (xs : List Row) (x : Row) : Type 0 where
  pub front : rows_before p n ≡ xs
  pub last : row_at p n ≡ x

pub rows_last : (p : List ℕ) (n : ℕ) (xs : List Row) (x : Row) → rows_before p (n + 1) ≡ xs ++ (x ∷ []) → RowsLast p n xs x
rows_last p n xs x e =
    let w = snoc_inj (rows_before p n) xs (row_at p (0 + n)) x (sym (run-snoc (row_at p) 0 n) ∙ e) in
    record { front = w.front; last = ap (row_at p) (sym (zero-add n)) ∙ w.last }

-- how many rows they are
pub rows-count : (p : List ℕ) (n : ℕ) (xs : List Row) → rows_before p n ≡ xs → n ≡ length xs
rows-count p n xs e = sym (length_run (row_at p) 0 n) ∙ ap length e

-- one row back
pub rows_back : (p : List ℕ) (n : ℕ) (xs : List Row) → 1 ≤ n → rows_before p n ≡ xs → rows_before p (n - 1 + 1) ≡ xs
rows_back p n xs h e = ap (rows_before p) (let k : n - 1 + 1 ≡ n = omega arith in k) ∙ e

-- the row in front is one of the plan too
pub formed-back : {p : List ℕ} {last : ℕ} → Formed p last → Formed p (last - 1)
formed-back h = record { inside = (let i = h.inside in omega arith); formed = h.formed }

-- the row in front, as the code reads it
pub behind-is : (p : List ℕ) (i : ℕ) → 1 ≤ i → behind_voice p i ≡ is_voice (row_at p (i - 1)).kind
behind-is p zero h = absurd (let z : ⊥ = omega arith in z)
behind-is p (suc i) h = ap (λ (k : ℕ). is_voice (row_at p k).kind) (let e : i ≡ suc i - 1 = omega arith in e)

-- row 0 stands behind nothing
pub some-before : (p : List ℕ) (i : ℕ) → behind_voice p i ≡ true → 1 ≤ i
some-before p zero b = absurd (true≢false (sym b))
some-before p (suc i) b = omega arith

-- the row in front is the last of those in front
behind-last : (p : List ℕ) (i : ℕ) (xs : List Row) (x : Row) → rows_before p i ≡ xs ++ (x ∷ []) → behind_voice p i ≡ is_voice x.kind
behind-last p zero xs x e = absurd (let n = rows-count p 0 (xs ++ (x ∷ [])) e in let l = length-snoc xs x in let z : ⊥ = omega arith in z)
behind-last p (suc i) xs x e = ap (λ (r : Row). is_voice r.kind) (rows_last p i xs x (ap (rows_before p) (add-one i) ∙ e)).last

-- a VOICE has a list
voice_kind : (k : Kind) → is_voice k ≡ true → (list : ℕ) × (k ≡ kind.Voice list)
voice_kind (kind.Voice list) e = (list, refl)
voice_kind (kind.Condition c) e = absurd (true≢false (sym e))
voice_kind kind.End e = absurd (true≢false (sym e))
voice_kind (kind.Operator o) e = absurd (true≢false (sym e))

-- rows whose last one is no VOICE, in front of row i
shut-behind : (p : List ℕ) (i : ℕ) (rest : List Row) → Shut rest → rows_before p i ≡ rest → behind_voice p i ≡ true → ⊥
shut-behind p zero rest h e b = true≢false (sym b)
shut-behind p (suc i) rest h e b =
    let v = voice_kind (row_at p i).kind b in
    let r : row_at p (0 + i) ≡ voice_row v.0 = ap (row_at p) (zero-add i) ∙ ap (λ (k : Kind). record { kind = k }) v.1 in
    h.no-voice (rows_before p i) v.0
    (sym e ∙ ap (rows_before p) (sym (add-one i)) ∙ run-snoc (row_at p) 0 i ∙ ap (λ (x : Row). rows_before p i ++ (x ∷ [])) r)

-- the list numbers of a pattern, the last one first
record ListsLast (p : List ℕ) (last : ℕ) (rest : List Row) (lists : List ℕ) : Type 0 where
  front : List ℕ
  list : ℕ
  is : lists ≡ front ++ (list ∷ [])
  row : (row_at p last).kind ≡ kind.Voice list
  rows : rows_before p last ≡ rest ++ map voice_row front

-- the last row is a VOICE over the last list
lists-last : {p : List ℕ} {last : ℕ} {rest : List Row} {lists : List ℕ} → ListsEnd p last rest lists → ListsLast p last rest lists
lists-last {p} {last} {rest} {lists} h =
    let s = some-snoc lists h.some in
    let w = rows_last p last (rest ++ map voice_row s.front) (voice_row s.last)
    (h.rows ∙ ap (λ (l : List ℕ). rest ++ map voice_row l) s.is
    ∙ ap (λ (l : List Row). rest ++ l) (map-append voice_row s.front (s.last ∷ []))
    ∙ sym (append_assoc rest (map voice_row s.front) (voice_row s.last ∷ []))) in
    record { front = s.front; list = s.last; is = s.is; row = ap (λ (r : Row). r.kind) w.last; rows = w.front }

-- row `last` is a VOICE over this list
voice-same : {k : Kind} {a b : ℕ} → k ≡ kind.Voice a → k ≡ kind.Voice b → a ≡ b
voice-same e f = cc

-- behind a VOICE there are lists in front; behind another row there are none
lists-some : (p : List ℕ) (last : ℕ) (rest : List Row) (front : List ℕ) → Shut rest → rows_before p last ≡ rest ++ map voice_row front
    → behind_voice p last ≡ true → 1 ≤ length front
lists-some p last rest [] h e b = absurd (shut-behind p last rest h (e ∙ append-nil rest) b)
lists-some p last rest (x ∷ front) h e b = omega arith

lists-none : (p : List ℕ) (last : ℕ) (rest : List Row) (front : List ℕ) → rows_before p last ≡ rest ++ map voice_row front
    → behind_voice p last ≡ false → front ≡ []
lists-none p last rest front e b =
    ⊎_elim
    (λ (z : front ≡ []). z)
    (λ (s : Snoc front).
    absurd (true≢false (sym (behind-last p last (rest ++ map voice_row s.front) (voice_row s.last)
    (e ∙ ap (λ (l : List ℕ). rest ++ map voice_row l) s.is
    ∙ ap (λ (l : List Row). rest ++ l) (map-append voice_row s.front (s.last ∷ []))
    ∙ sym (append_assoc rest (map voice_row s.front) (voice_row s.last ∷ [])))) ∙ b)))
    (snoc_or front)

-- behind a number stands a space
gap-some : (ns : List ℕ) → 1 ≤ length ns → gap_after 91 ns ≡ 32
gap-some [] h = absurd (let z : ⊥ = omega arith in z)
gap-some (n ∷ ns) h = refl

-- the text of lists, by the last one
lists-text : {lists : List ℕ} (front : List ℕ) {list n : ℕ} → lists ≡ front ++ (list ∷ []) → list ≡ n
    → lead 91 lists ≡ lead 91 front ++ (gap_after 91 front ∷ decimal n)
lists-text {lists} front {list} {n} e f =
    ap (lead 91) e ∙ lead-behind 91 front list ∙ ap (λ (x : ℕ). lead 91 front ++ (gap_after 91 front ∷ decimal x)) f

module _ {p : List ℕ} {last : ℕ} where
  -- row `last` is a VOICE
  pub lists-voice : {end : ℕ} → ListsRoom p last end → (list : ℕ) × ((row_at p last).kind ≡ kind.Voice list)
  lists-voice h = let w = lists-last h.ends in (w.list, w.row)

  module _ {n : ℕ} (is-voice : (row_at p last).kind ≡ kind.Voice n) where
    -- its number and the byte in front of it have room
    pub lists-number : {end : ℕ} → ListsRoom p last end → length (decimal n) + 1 ≤ end
    lists-number h =
        let w = lists-last h.ends in
        let e = ap length (lists-text w.front w.is (voice-same w.row is-voice)) in
        let l = length-append (lead 91 w.front) (gap_after 91 w.front ∷ decimal n) in
        let r = h.room in
        omega arith

    -- the list in front of it is next
    lists-before : {rest : List Row} {lists : List ℕ} → behind_voice p last ≡ true → (h : ListsEnd p last rest lists)
        → ListsEnd p (last - 1) rest (lists-last h).front
    lists-before {rest} {lists} b h =
        let w = lists-last h in
        let s = lists-some p last rest w.front h.shut w.rows b in
        let k = rows-count p last (rest ++ map voice_row w.front) w.rows in
        let l = length-append rest (map voice_row w.front) in
        let m : length (map voice_row w.front) ≡ length w.front = length-map w.front voice_row in
        record { rows = rows_back p last (rest ++ map voice_row w.front) (omega arith) w.rows; some = s; shut = h.shut }

    module _ (b : behind_voice p last ≡ true) {out : List ℕ} {end : ℕ} {out₁ : List ℕ} {m : ℕ}
        (number : PutBack (decimal n) out end out₁ m) {out₂ : List ℕ} {k : ℕ} (byte : PutBack (32 ∷ []) out₁ m out₂ k) where
      pub lists-room : ListsRoom p last end → ListsRoom p (last - 1) k
      lists-room h =
          let w = lists-last h.ends in
          let e = ap length (lists-text w.front w.is (voice-same w.row is-voice)) in
          let l = length-append (lead 91 w.front) (gap_after 91 w.front ∷ decimal n) in
          let r = h.room in
          let x = number.ends in
          let y = byte.ends in
          record { formed = formed-back h.formed; rest = h.rest; lists = w.front; ends = lists-before b h.ends; room = omega arith }

      -- the numbers in front of it are stored
      pub lists-next : {out₃ : List ℕ} {r : Back} → ListsPut p (last - 1) out₂ k out₃ r → ListsPut p last out end out₃ r
      lists-next {out₃} {r} h = record { all = go }
        where
          go : (rest : List Row) (lists : List ℕ) → ListsEnd p last rest lists → Laid (lead 91 lists) rest out end out₃ r
          go rest lists e =
              let w = lists-last e in
              let g = lists-before b e in
              let d = h.all rest w.front g in
              let t : lead 91 lists ≡ lead 91 w.front ++ ((32 ∷ []) ++ decimal n) =
              lists-text w.front w.is (voice-same w.row is-voice)
              ∙ ap (λ (x : ℕ). lead 91 w.front ++ (x ∷ decimal n)) (gap-some w.front g.some) in
              record {
                row = d.row;
                put = put_as t
                    (put_then (lead 91 w.front) ((32 ∷ []) ++ decimal n) (put_then (32 ∷ []) (decimal n) number byte) d.put);
              }

    -- it is the first one
    pub lists-first : behind_voice p last ≡ false → {out : List ℕ} {end : ℕ} {out₁ : List ℕ} {m : ℕ} → PutBack (decimal n) out end out₁ m
        → {out₂ : List ℕ} {k : ℕ} → PutBack (91 ∷ []) out₁ m out₂ k → ListsPut p last out end out₂ (record { row = last; at = k })
    unfolding lead
    lists-first b {out} {end} {out₁} {m} number {out₂} {k} byte = record { all = go }
      where
        go : (rest : List Row) (lists : List ℕ) → ListsEnd p last rest lists
            → Laid (lead 91 lists) rest out end out₂ (record { row = last; at = k })
        go rest lists e =
            let w = lists-last e in
            let z = lists-none p last rest w.front w.rows b in
            let t : lead 91 lists ≡ (91 ∷ []) ++ decimal n =
            lists-text w.front w.is (voice-same w.row is-voice)
            ∙ ap (λ (l : List ℕ). lead 91 l ++ (gap_after 91 l ∷ decimal n)) z in
            record {
              row = rows-count p last rest (w.rows ∙ ap (λ (l : List ℕ). rest ++ map voice_row l) z ∙ append-nil rest);
              put = put_as t (put_then (91 ∷ []) (decimal n) number byte);
            }

-- one condition more
conditions-behind : (cs : List Predicate) (c : Predicate)
    → joined (map condition_text (map condition_of (cs ++ (c ∷ [])))) ≡ joined (map condition_text (map condition_of cs)) ++ condition_text
    (condition_of c)
unfolding joined
conditions-behind [] c = append-nil (condition_text (condition_of c))
conditions-behind (d ∷ cs) c =
    ap (λ (l : List ℕ). condition_text (condition_of d) ++ l) (conditions-behind cs c)
    ∙ sym (append_assoc (condition_text (condition_of d)) (joined (map condition_text (map condition_of cs))) (condition_text (condition_of c)))

-- a pattern with these predicates in their place
abbrev with : Pattern → List Predicate → Pattern
with f cs = record { vars = f.vars; predicates = cs }

-- the text with one condition more
open-behind : (f : Pattern) (cs : List Predicate) (c : Predicate)
    → open_text (figure_of (with f (cs ++ (c ∷ [])))) ≡ open_text (figure_of (with f cs)) ++ condition_text (condition_of c)
unfolding open_text
open-behind f cs c =
    ap (λ (l : List ℕ). lead 91 f.vars ++ l) (conditions-behind cs c)
    ∙ sym (append_assoc (lead 91 f.vars) (joined (map condition_text (map condition_of cs))) (condition_text (condition_of c)))

-- the text with no condition
open-bare : (f : Pattern) → open_text (figure_of (with f [])) ≡ lead 91 f.vars
unfolding open_text joined
open-bare f = append-nil (lead 91 f.vars)

-- the rows with one condition more
open-rows : (f : Pattern) (cs : List Predicate) (c : Predicate) (rest : List Row)
    → rest ++ (map voice_row f.vars ++ map condition_row (cs ++ (c ∷ []))) ≡ (rest ++ (map voice_row f.vars ++ map condition_row cs)) ++
    (condition_row c ∷ [])
open-rows f cs c rest =
    ap (λ (l : List Row). rest ++ (map voice_row f.vars ++ l)) (map-append condition_row cs (c ∷ []))
    ∙ ap (λ (l : List Row). rest ++ l) (sym (append_assoc (map voice_row f.vars) (map condition_row cs) (condition_row c ∷ [])))
    ∙ sym (append_assoc rest (map voice_row f.vars ++ map condition_row cs) (condition_row c ∷ []))

-- the rows of an open pattern, by the last one: a condition
record OpenCondition (p : List ℕ) (last : ℕ) (rest : List Row) (f : Pattern) : Type 0 where
  front : List Predicate
  predicate : Predicate
  row : (row_at p last).kind ≡ kind.Condition predicate
  some : 1 ≤ last
  before : OpenEnd p (last - 1) rest (with f front)
  text : open_text (figure_of f) ≡ open_text (figure_of (with f front)) ++ condition_text (condition_of predicate)

-- or a VOICE
record OpenVoice (p : List ℕ) (last : ℕ) (rest : List Row) (f : Pattern) : Type 0 where
  list : ℕ
  row : (row_at p last).kind ≡ kind.Voice list
  lists : ListsEnd p last rest f.vars
  text : open_text (figure_of f) ≡ lead 91 f.vars

-- a pattern without END ends in a condition or in a VOICE
open-last : {p : List ℕ} {last : ℕ} {rest : List Row} {f : Pattern} → OpenEnd p last rest f
    → OpenCondition p last rest f ⊎ OpenVoice p last rest f
open-last {p} {last} {rest} {f} h = ⊎_elim (λ e. inr (voice e)) (λ s. inl (condition s)) (snoc_or f.predicates)
  where
    voice : f.predicates ≡ [] → OpenVoice p last rest f
    voice e =
        let g : ListsEnd p last rest f.vars = record {
          rows = h.rows ∙ ap (λ (l : List Predicate). rest ++ (map voice_row f.vars ++ map condition_row l)) e
              ∙ ap (λ (l : List Row). rest ++ l) (append-nil (map voice_row f.vars));
          some = h.some;
          shut = h.shut;
        } in
        let w = lists-last g in
        record {
          list = w.list;
          row = w.row;
          lists = g;
          text = ap (λ (l : List Predicate). open_text (figure_of (with f l))) e
              ∙ open-bare f;
        }

    condition : Snoc f.predicates → OpenCondition p last rest f
    condition s =
        let front = rest ++ (map voice_row f.vars ++ map condition_row s.front) in
        let w = rows_last p last front (condition_row s.last)
        (h.rows ∙ ap (λ (l : List Predicate). rest ++ (map voice_row f.vars ++ map condition_row l)) s.is
        ∙ open-rows f s.front s.last rest) in
        let n = rows-count p last front w.front in
        let a = length-append rest (map voice_row f.vars ++ map condition_row s.front) in
        let b = length-append (map voice_row f.vars) (map condition_row s.front) in
        let m : length (map voice_row f.vars) ≡ length f.vars = length-map f.vars voice_row in
        let o = h.some in
        let k : 1 ≤ last = omega arith in
        record {
          front = s.front;
          predicate = s.last;
          row = ap (λ (r : Row). r.kind) w.last;
          some = k;
          before = record { rows = rows_back p last front k w.front; some = h.some; shut = h.shut };
          text = ap (λ (l : List Predicate). open_text (figure_of (with f l))) s.is ∙ open-behind f s.front s.last;
        }

-- row `last` is a condition
record OpenAt (p : List ℕ) (last : ℕ) (rest : List Row) (f : Pattern) (c : Predicate) : Type 0 where
  front : List Predicate
  some : 1 ≤ last
  before : OpenEnd p (last - 1) rest (with f front)
  text : open_text (figure_of f) ≡ open_text (figure_of (with f front)) ++ condition_text (condition_of c)

module _ {p : List ℕ} {last : ℕ} where
  module _ {c : Predicate} (is-condition : (row_at p last).kind ≡ kind.Condition c) where
    open_at : {rest : List Row} {f : Pattern} → OpenEnd p last rest f → OpenAt p last rest f c
    open_at {rest} {f} h =
        ⊎_elim
        (λ (w : OpenCondition p last rest f).
        let e : w.predicate ≡ c = let x = w.row in cc in
        record {
          front = w.front;
          some = w.some;
          before = w.before;
          text = w.text
              ∙ ap (λ (x : Predicate). open_text (figure_of (with f w.front)) ++ condition_text (condition_of x)) e;
        })
        (λ (w : OpenVoice p last rest f). absurd (let x = w.row in let z : ◌≡◌ {A = ℕ} 0 1 = cc in let y : ⊥ = omega arith in y))
        (open-last h)

    pub open-some : {end : ℕ} → OpenRoom p last end → 1 ≤ last
    open-some h = (open_at h.ends).some

    pub open-condition : {end : ℕ} → OpenRoom p last end → length (condition_text (condition_of c)) ≤ end
    open-condition h =
        let w = open_at h.ends in
        let e = ap length w.text in
        let l = length-append (open_text (figure_of (with h.pattern w.front))) (condition_text (condition_of c)) in
        let r = h.room in
        omega arith

    module _ {out : List ℕ} {end : ℕ} {out₁ : List ℕ} {m : ℕ} (put : PutBack (condition_text (condition_of c)) out end out₁ m) where
      pub open-room : OpenRoom p last end → OpenRoom p (last - 1) m
      open-room h =
          let w = open_at h.ends in
          let e = ap length w.text in
          let l = length-append (open_text (figure_of (with h.pattern w.front))) (condition_text (condition_of c)) in
          let r = h.room in
          let x = put.ends in
          record {
            formed = formed-back h.formed;
            rest = h.rest;
            pattern = with h.pattern
                w.front;
            ends = w.before;
            room = omega arith;
          }

      pub open_next : {out₂ : List ℕ} {r : Back} → OpenPut p (last - 1) out₁ m out₂ r → OpenPut p last out end out₂ r
      open_next {out₂} {r} h = record { all = go }
        where
          go : (rest : List Row) (f : Pattern) → OpenEnd p last rest f → Laid (open_text (figure_of f)) rest out end out₂ r
          go rest f e =
              let w = open_at e in
              let d = h.all rest (with f w.front) w.before in
              record {
                row = d.row;
                put = put_as w.text
                    (put_then (open_text (figure_of (with f w.front))) (condition_text (condition_of c)) put d.put);
              }

  -- row `last` is a VOICE
  module _ {n : ℕ} (is-voice : (row_at p last).kind ≡ kind.Voice n) where
    open-voice : {rest : List Row} {f : Pattern} → OpenEnd p last rest f → OpenVoice p last rest f
    open-voice {rest} {f} h =
        ⊎_elim
        (λ (w : OpenCondition p last rest f). absurd (let x = w.row in let z : ◌≡◌ {A = ℕ} 0 1 = cc in let y : ⊥ = omega arith in y))
        (λ (w : OpenVoice p last rest f). w)
        (open-last h)

    pub open-lists : {end : ℕ} → OpenRoom p last end → ListsRoom p last end
    open-lists h =
        let w = open-voice h.ends in
        let e = ap length w.text in
        let r = h.room in
        record { formed = h.formed; rest = h.rest; lists = h.pattern.vars; ends = w.lists; room = omega arith }

    pub open-first : {out : List ℕ} {end : ℕ} {out₁ : List ℕ} {r : Back} → ListsPut p last out end out₁ r → OpenPut p last out end out₁ r
    open-first {out} {end} {out₁} {r} h = record { all = go }
      where
        go : (rest : List Row) (f : Pattern) → OpenEnd p last rest f → Laid (open_text (figure_of f)) rest out end out₁ r
        go rest f e =
            let w = open-voice e in let d = h.all rest f.vars w.lists in record { row = d.row; put = put_as w.text d.put }

  -- it is nothing else
  pub open-no-end : (row_at p last).kind ≡ kind.End → {end : ℕ} → OpenRoom p last end → ⊥
  open-no-end e h =
      ⊎_elim
      (λ (w : OpenCondition p last h.rest h.pattern). let x = w.row in let z : ◌≡◌ {A = ℕ} 0 1 = cc in let y : ⊥ = omega arith in y)
      (λ (w : OpenVoice p last h.rest h.pattern). let x = w.row in let z : ◌≡◌ {A = ℕ} 0 1 = cc in let y : ⊥ = omega arith in y)
      (open-last h.ends)

  pub open-no_operator : {o : Operator} → (row_at p last).kind ≡ kind.Operator o → {end : ℕ} → OpenRoom p last end → ⊥
  open-no_operator e h =
      ⊎_elim
      (λ (w : OpenCondition p last h.rest h.pattern). let x = w.row in let z : ◌≡◌ {A = ℕ} 0 1 = cc in let y : ⊥ = omega arith in y)
      (λ (w : OpenVoice p last h.rest h.pattern). let x = w.row in let z : ◌≡◌ {A = ℕ} 0 1 = cc in let y : ⊥ = omega arith in y)
      (open-last h.ends)

  -- the rows of a pattern, in front of its END
  pattern_open : {rest : List Row} {f : Pattern} → PatternEnd p last rest f → (1 ≤ last) × OpenEnd p (last - 1) rest f
  pattern_open {rest} {f} h =
      let shown = map voice_row f.vars ++ map condition_row f.predicates in
      let w = rows_last p last (rest ++ shown) (record { kind = kind.End })
      (h.rows ∙ sym (append_assoc rest shown (record { kind = kind.End } ∷ []))) in
      let n = rows-count p last (rest ++ shown) w.front in
      let a = length-append rest shown in
      let b = length-append (map voice_row f.vars) (map condition_row f.predicates) in
      let m : length (map voice_row f.vars) ≡ length f.vars = length-map f.vars voice_row in
      let o = h.some in
      let k : 1 ≤ last = omega arith in
      (k, record { rows = rows_back p last (rest ++ shown) k w.front; some = h.some; shut = h.shut })

  -- a pattern has a row in front of its END, and a byte
  pub pattern-some : {end : ℕ} → PatternRoom p last end → (1 ≤ last) × (1 ≤ end)
  unfolding figure_text
  pattern-some h =
      let l = length-snoc (open_text (figure_of h.pattern)) 93 in
      let r = h.room in
      ((pattern_open h.ends).0, omega arith)

  module _ {out : List ℕ} {end : ℕ} {out₁ : List ℕ} {m : ℕ} (byte : PutBack (93 ∷ []) out end out₁ m) where
    pub pattern-room : PatternRoom p last end → OpenRoom p (last - 1) m
    unfolding figure_text
    pattern-room h =
        let l = length-snoc (open_text (figure_of h.pattern)) 93 in
        let r = h.room in
        let x = byte.ends in
        record {
          formed = formed-back h.formed;
          rest = h.rest;
          pattern = h.pattern;
          ends = (pattern_open
              h.ends).1;
          room = omega arith;
        }

    pub pattern-put : {out₂ : List ℕ} {r : Back} → OpenPut p (last - 1) out₁ m out₂ r → PatternPut p last out end out₂ r
    unfolding figure_text
    pattern-put {out₂} {r} h = record { all = go }
      where
        go : (rest : List Row) (f : Pattern) → PatternEnd p last rest f → Laid (figure_text (figure_of f)) rest out end out₂ r
        go rest f e =
            let d = h.all rest f (pattern_open e).1 in
            record { row = d.row; put = put_then (open_text (figure_of f)) (93 ∷ []) byte d.put }
