-- A buffer of which the part from an index on is lent, and comes back. No contract cites this file.
--     lent, lent-whole, lent_length                            what is lent is the rest of the buffer
--     back, back-drop, back-length, back-before, back-others   the buffer afterwards
--     ats-lent, ends-lent, ats-back, ends-back                 the same of cursors: where they stand, and their ends
-- Assumes nothing.
use Prim.Native.Nat.{ℕ, ◌+◌, ◌-◌, ◌<◌, ◌≤◌}
use native.Mathlib.Omega.{arith}
use mathlib.Core.Path.{◌≡◌, sym, ap, ap₂, ◌∙◌}
use mathlib.Core.Logic.{⊎_elim}
use mathlib.Core.List.{List, ◌++◌, append-nil, map, map-append}
use lib.ListN.{length, get_or, take, drop, length-append, length-drop, length-map, drop_of_length-le, get_or-append, take-append-drop}
use lib.Seq.{take_all, drop_at, get_or-take, get_or-drop, length-take-le}
use Rattle.seq.proofs.Laws.Tests.{below_or}
use Rattle.std.proofs.lemmas.List.{take-map, drop-map}
use Rattle.matcher.specs.declared.cursor.Cursor.{Cursor}
use Rattle.matcher.specs.Inner.Cursors.{ats_of, ends_of}
use Rattle.matcher.specs.Inner.Settling.{Within}
use Rattle.search.specs.Inner.Walk.{Among}

module _ (first : ℕ) (xs : List ℕ) where
  abbrev pub lent : List ℕ
  lent = take (length xs - first) (drop first xs)

  pub lent-whole : lent ≡ drop first xs
  lent-whole = take_all (length xs - first) (drop first xs) (let e = length-drop first xs in omega arith)

  pub lent_length : length lent ≡ length xs - first
  lent_length = ap length lent-whole ∙ length-drop first xs

  -- a part comes back
  abbrev pub back : List ℕ → List ℕ
  back part = take first xs ++ (part ++ drop (length xs - first) (drop first xs))

  back_whole : back lent ≡ xs
  back_whole =
      ap (λ (ys : List ℕ). take first xs ++ ys) (take-append-drop (length xs - first) (drop first xs))
      ∙ take-append-drop first xs

  module _ (part : List ℕ) (room : first ≤ length xs) where
    back_is : back part ≡ take first xs ++ part
    back_is =
        let e = length-drop first xs in
        ap (λ (rest : List ℕ). take first xs ++ (part ++ rest)) (drop_of_length-le (drop first xs) {i = length xs - first} (omega arith))
        ∙ ap (λ (ys : List ℕ). take first xs ++ ys) (append-nil part)

    pub back-drop : drop first (back part) ≡ part
    back-drop = ap (drop first) back_is ∙ drop_at (take first xs) part first (length-take-le first xs room)

    pub back-before : (x : ℕ) → x < first → get_or (back part) x 0 ≡ get_or xs x 0
    back-before x h =
        ap (λ (ys : List ℕ). get_or ys x 0) back_is
        ∙ get_or-append (take first xs) part 0 x (let e = length-take-le first xs room in omega arith)
        ∙ get_or-take first xs x 0 h

    pub back-length : length part ≡ length lent → length (back part) ≡ length xs
    back-length e =
        let a = length-append (take first xs) part in
        let b = length-take-le first xs room in
        let c = lent_length in
        ap length back_is ∙ (omega arith)

    -- what is behind the n numbers that may have changed is as it was
    pub back-others : (n : ℕ) → Within n lent part → (x : ℕ) → (Among first n x → ⊥) → get_or (back part) x 0 ≡ get_or xs x 0
    back-others n w x out =
        let behind : first ≤ x → n ≤ x - first = λ h. ⊎_elim
        (λ (l : x < first + n). absurd (out (h, l)))
        (λ (l : first + n ≤ x). omega arith)
        (below_or x (first + n)) in
        ⊎_elim
        (back-before x)
        (λ (h : first ≤ x).
        let e : first + (x - first) ≡ x = omega arith in
        ap (λ (y : ℕ). get_or (back part) y 0) (sym e)
        ∙ sym (get_or-drop first (back part) (x - first) 0)
        ∙ ap (λ (ys : List ℕ). get_or ys (x - first) 0) back-drop
        ∙ w.rest (x - first) (behind h)
        ∙ ap (λ (ys : List ℕ). get_or ys (x - first) 0) lent-whole
        ∙ get_or-drop first xs (x - first) 0
        ∙ ap (λ (y : ℕ). get_or xs y 0) e)
        (below_or x first)

-- what is seen of cursors of which a part is lent: what is seen of the part, and of the cursors when it comes back
module _ (seen : Cursor → ℕ) (first : ℕ) (cs : List Cursor) where
  seen-lent : map seen (take (length cs - first) (drop first cs)) ≡ lent first (map seen cs)
  seen-lent =
      sym (take-map seen (length cs - first) (drop first cs))
      ∙ ap₂ (λ (n : ℕ) (xs : List ℕ). take (n - first) xs) (sym (length-map cs seen)) (sym (drop-map seen first cs))

  seen-back : (part : List Cursor)
      → map seen (take first cs ++ (part ++ drop (length cs - first) (drop first cs))) ≡ back first (map seen cs) (map seen part)
  seen-back part =
      map-append seen (take first cs) (part ++ drop (length cs - first) (drop first cs))
      ∙ ap₂ (λ (xs ys : List ℕ). xs ++ ys)
      (sym (take-map seen first cs))
      (map-append seen part (drop (length cs - first) (drop first cs))
      ∙ ap (λ (xs : List ℕ). map seen part ++ xs)
      (sym (drop-map seen (length cs - first) (drop first cs))
      ∙ ap₂ (λ (n : ℕ) (xs : List ℕ). drop (n - first) xs) (sym (length-map cs seen)) (sym (drop-map seen first cs))))

module _ (first : ℕ) (cs : List Cursor) where
  pub ats-lent : ats_of (take (length cs - first) (drop first cs)) ≡ lent first (ats_of cs)
  unfolding ats_of
  ats-lent = seen-lent (λ c. c.at) first cs

  pub ends-lent : ends_of (take (length cs - first) (drop first cs)) ≡ lent first (ends_of cs)
  unfolding ends_of
  ends-lent = seen-lent (λ c. c.end) first cs

  pub ats-back : (part : List Cursor) → ats_of (take first cs ++ (part ++ drop (length cs - first) (drop first cs))) ≡ back first (ats_of cs) (ats_of part)
  unfolding ats_of
  ats-back part = seen-back (λ c. c.at) first cs part

  -- the ends are as they were
  pub ends-back : (part : List Cursor) → ends_of part ≡ ends_of (take (length cs - first) (drop first cs))
      → ends_of (take first cs ++ (part ++ drop (length cs - first) (drop first cs))) ≡ ends_of cs
  unfolding ends_of
  ends-back part e =
      seen-back (λ c. c.end) first cs part
      ∙ ap (back first (ends_of cs)) (e ∙ ends-lent)
      ∙ back_whole first (ends_of cs)
