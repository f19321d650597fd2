-- Reading a line answers the first refusal that applies. No contract cites this file.
--     of-read, in-first                  what applies, and what applies in the first stage
--     of-broken, of-deep, of-whole       the answer is sound, by how the reading ends
--     read-sound, read_first             it is the first refusal that applies
-- Assumes nothing.
use Prim.Native.Nat.{ℕ, ◌+◌, ◌*◌, ◌<◌, ◌≤◌}
use native.Mathlib.Omega.{arith}
use mathlib.Core.Path.{◌≡◌, refl, sym, ap, ◌∙◌, subst}
use mathlib.Core.Bool.{true, true≢false}
use mathlib.Core.Logic.{⊎_elim, ◌⊎◌, inl, inr}
use mathlib.Core.List.{List, [], ◌∷◌}
use lib.Dec.{ltb}
use lib.ListN.{length, take}
use lib.Seq.{take-length, take_at}
use borrow.Author.Tests.{ltb-true, ltb-false}
use Rattle.seq.specs.Lists.{elem}
use Rattle.seq.specs.Refusals.{Said, refused, answered, stage_in, FirstRefusal}
use Rattle.seq.proofs.Laws.Refusals.{First, rung, end, first-refusal}
use Rattle.seq.proofs.Laws.Refusals as r
use Rattle.seq.proofs.Laws.Decides.{Decides, same_decides, ltb_decides}
use Rattle.seq.proofs.Laws.Ladder.{Clear, first-of, single}
use Rattle.grammar.specs.Grammar.{Line, Fits, written, LineText}
use Rattle.grammar.specs.Meaning.{line_rows}
use Rattle.line.specs.Refusals.{Breaks, Deep, ReadApplies, too_long, breaks, too_deep, too_many, short, read_stages}
use Rattle.grammar.specs.Reading.{Outcome, whole, broken, deep, reading, start, after}
use Rattle.grammar.proofs.Laws.Steps.{Steps}
use Rattle.line.specs.Read.{read_by, read_answer, size_by, size_of_line}
use Rattle.grammar.proofs.Laws.Outcome.{Stopped, Opened, Wholly, OutcomeTold, outcome-told, unambiguous}
use Rattle.line.proofs.Laws.Refusals.{broken-breaks, not-deep, not-broken, stopped-steps, opened-deep, opened-steps, whole-line}

module _ (s : List ℕ) (room : ℕ) where
  -- the stage of a number
  abbrev Stage : ℕ → ℕ
  Stage n = stage_in read_stages n

  -- 21 at byte 2,048
  abbrev Long : ℕ → ℕ → Type 0
  Long m q = (m ≡ 21) × ((q ≡ 2048) × (2048 < length s))

  -- 21 where the grammar breaks
  abbrev Broken : ℕ → ℕ → Type 0
  Broken m q = (m ≡ 21) × ((length s ≤ 2048) × Breaks s q)

  -- 22
  abbrev Deeper : ℕ → ℕ → Type 0
  Deeper m q = (m ≡ 22) × ((length s ≤ 2048) × Deep s q)

  -- 23
  abbrev Many : Type 0
  Many = (l : Line) × Fits l × (written l ≡ s) × (64 < length (line_rows l))

  -- 16
  abbrev Short : Type 0
  Short = (l : Line) × Fits l × (written l ≡ s) × (room < 4 * length (line_rows l))

  -- one of them
  abbrev OfRead : ℕ → ℕ → Type 0
  OfRead m q = Long m q ⊎ (Broken m q ⊎ (Deeper m q ⊎ (((m ≡ 23) × ((q ≡ 0) × Many)) ⊎ ((m ≡ 16) × ((q ≡ 0) × Short)))))

  -- whatever applies is one of them
  of-read : (m q : ℕ) → ReadApplies s room m q → OfRead m q
  of-read m q (too_long h) = inl (refl, (refl, h))
  of-read m q (breaks e l h) = inr (inl (refl, (omega arith, h)))
  of-read m q (too_deep e l h) = inr (inr (inl (refl, (l, h))))
  of-read m q (too_many x f t h) = inr (inr (inr (inl (refl, (refl, (x, f, t, h))))))
  of-read m q (short x f t h) = inr (inr (inr (inr (refl, (refl, (x, f, t, h))))))

  -- what applies in the first stage
  abbrev InFirst : ℕ → ℕ → Type 0
  InFirst m q = Long m q ⊎ (Broken m q ⊎ Deeper m q)

  -- of the first stage
  in-first : (m q : ℕ) → ReadApplies s room m q → Stage m ≡ 0 → InFirst m q
  unfolding stage_in elem
  in-first m q a e =
      ⊎_elim (λ w. inl w)
      (⊎_elim (λ w. inr (inl w))
      (⊎_elim (λ w. inr (inr w))
      (⊎_elim (λ w. absurd (let z : 1 ≡ 0 = rw w.0 at e in omega arith)) (λ w. absurd (let z : 2 ≡ 0 = rw w.0 at e in omega arith)))))
      (of-read m q a)

  abbrev IsSound : Said ℕ → Type 0
  IsSound said = r.Sound Stage (ReadApplies s room) (size_of_line s) said

  -- a first refusal is a sound answer
  told : (n p : ℕ) → First Stage (ReadApplies s room) n p → IsSound (refused n p)
  told n p f = rung Stage (ReadApplies s room) (size_of_line s) true n p (refused n p) (λ t. f) (λ t. absurd (true≢false t))

  -- a refusal of the first stage is first where none of that stage comes before it
  first-stage : (n p : ℕ) → Stage n ≡ 0 → ReadApplies s room n p → ((m q : ℕ) → InFirst m q → ((q < p) ⊎ ((q ≡ p) × (m < n))) → ⊥)
      → First Stage (ReadApplies s room) n p
  first-stage n p e a none =
      first-of Stage (ReadApplies s room) n p (λ m q x. rw e (omega arith)) a (λ m q x w. none m q (in-first m q x (w ∙ e)))

  at_21 : Stage 21 ≡ 0
  unfolding stage_in elem
  at_21 = refl

  at_22 : Stage 22 ≡ 0
  unfolding stage_in elem
  at_22 = refl

  module _ (fits : length s ≤ 2048) where
    -- the text is not too long
    not-long : (m q : ℕ) → Long m q → ⊥
    not-long m q y = let z : 2048 < length s = y.1.1 in omega arith

    -- a reading that stops
    of-broken : (e : ℕ) → Stopped start 0 s e → IsSound (refused 21 e)
    of-broken e w =
        let b = broken-breaks s e w in
        told 21 e (first-stage 21 e at_21 (breaks e fits b)
        (λ m q x lower.
        let read = stopped-steps s e w in
        ⊎_elim (not-long m q)
        (⊎_elim
        (λ (y : Broken m q). ⊎_elim (λ (k : q < e). not-broken s 8 e w.there read b.inside q k y.1.1)
        (λ (k : (q ≡ e) × (m < 21)). let z : m ≡ 21 = y.0 in let t : m < 21 = k.1 in omega arith) lower)
        (λ (y : Deeper m q). ⊎_elim (λ (k : q < e). not-deep s e w.there read q k y.1.1)
        (λ (k : (q ≡ e) × (m < 21)). let z : m ≡ 22 = y.0 in let t : m < 21 = k.1 in omega arith) lower)) x))

    -- a reading that meets a ninth bracket
    of-deep : (e : ℕ) → Opened start 0 s e → IsSound (refused 22 e)
    of-deep e w =
        let d = opened-deep s e w in
        let inside = d.inside in
        told 22 e (first-stage 22 e at_22 (too_deep e fits d)
        (λ m q x lower.
        ⊎_elim (not-long m q)
        (⊎_elim
        (λ (y : Broken m q). not-broken s _ (e + 1) w.then (opened-steps s e w) (omega arith) q (below m q lower) y.1.1)
        (λ (y : Deeper m q). ⊎_elim (λ (k : q < e). earlier q k y.1.1)
        (λ (k : (q ≡ e) × (m < 22)). let z : m ≡ 22 = y.0 in let t : m < 22 = k.1 in omega arith) lower)) x))
      where
        below : (m q : ℕ) → ((q < e) ⊎ ((q ≡ e) × (m < 22))) → q < e + 1
        below m q lower = ⊎_elim (λ (k : q < e). omega arith) (λ (k : (q ≡ e) × (m < 22)). let z = k.0 in omega arith) lower

        earlier : (q : ℕ) → q < e → Deep s q → ⊥
        earlier q k = not-deep s e w.there (subst (λ (x : List ℕ). Steps 8 start x w.there) (sym taken) w.steps) q k
          where
            taken : take e s ≡ w.read
            taken =
                ap (take e) (sym w.text)
                ∙ take_at w.read (w.byte ∷ w.rest) e (let l = w.at in let z : length w.read ≡ e = omega arith in z)

    -- a reading that comes to the end of a line
    of-whole : (l : Line) → Wholly start s l → size_of_line s ≡ 4 * length (line_rows l)
        → IsSound (read_by (whole l) room)
    unfolding stage_in elem
    of-whole l w size =
        single Stage (ReadApplies s room) (size_of_line s) (ltb 64 (length (line_rows l))) 23 _ Many many_decides
        (λ x. too_many x.0 x.1 x.2 x.3) clear_1 only_23
        (λ c. single Stage (ReadApplies s room) (size_of_line s) (ltb room (4 * length (line_rows l))) 16 _ Short short_decides
        (λ x. short x.0 x.1 x.2 x.3) c only_16
        (λ d. subst (λ (n : ℕ). IsSound (answered n)) size (end Stage (ReadApplies s room) (size_of_line s) (λ m q a. last m q a (d m q a)))))
      where
        line : Fits l × (written l ≡ s)
        line = whole-line s l w

        is-line : LineText s
        is-line = record { line = l; fits = line.0; text = line.1 }

        same : (x : Line) → Fits x → written x ≡ s → x ≡ l
        same x f t = unambiguous x l f line.0 (t ∙ sym line.1)

        many_decides : Decides (ltb 64 (length (line_rows l))) Many
        many_decides =
            same_decides (ltb_decides 64 (length (line_rows l))) (λ h. (l, line.0, line.1, h))
            (λ x. subst (λ (y : Line). 64 < length (line_rows y)) (same x.0 x.1 x.2) x.3)

        short_decides : Decides (ltb room (4 * length (line_rows l))) Short
        short_decides =
            same_decides (ltb_decides room (4 * length (line_rows l))) (λ h. (l, line.0, line.1, h))
            (λ x. subst (λ (y : Line). room < 4 * length (line_rows y)) (same x.0 x.1 x.2) x.3)

        none_first : (m q : ℕ) → InFirst m q → ⊥
        none_first m q x =
            let last = after w.front w.part [] in
            let read = subst (λ (t : List ℕ). Steps 8 start t last) (sym (take-length s)) w.steps in
            ⊎_elim (not-long m q)
            (⊎_elim (λ (y : Broken m q). y.1.1.no_line is-line)
            (λ (y : Deeper m q). not-deep s (length s) last read q y.1.1.inside y.1.1)) x

        clear_1 : Clear Stage (ReadApplies s room) 1
        clear_1 m q a =
            ⊎_elim (λ x. absurd (none_first m q (inl x)))
            (⊎_elim (λ x. absurd (none_first m q (inr (inl x))))
            (⊎_elim (λ x. absurd (none_first m q (inr (inr x)))) (⊎_elim (λ x. rw x.0 (omega arith)) (λ x. rw x.0 (omega arith)))))
            (of-read m q a)

        only_23 : (m q : ℕ) → ReadApplies s room m q → Stage m ≡ 1 → (m ≡ 23) × ((q ≡ 0) × Many)
        only_23 m q a e =
            ⊎_elim (λ x. absurd (none_first m q (inl x)))
            (⊎_elim (λ x. absurd (none_first m q (inr (inl x))))
            (⊎_elim (λ x. absurd (none_first m q (inr (inr x))))
            (⊎_elim (λ x. x) (λ x. absurd (let z : 2 ≡ 1 = rw x.0 at e in omega arith)))))
            (of-read m q a)

        only_16 : (m q : ℕ) → ReadApplies s room m q → Stage m ≡ 2 → (m ≡ 16) × ((q ≡ 0) × Short)
        only_16 m q a e =
            ⊎_elim (λ x. absurd (none_first m q (inl x)))
            (⊎_elim (λ x. absurd (none_first m q (inr (inl x))))
            (⊎_elim (λ x. absurd (none_first m q (inr (inr x))))
            (⊎_elim (λ x. absurd (let z : 1 ≡ 2 = rw x.0 at e in omega arith)) (λ x. x))))
            (of-read m q a)

        last : (m q : ℕ) → ReadApplies s room m q → 3 ≤ Stage m → ⊥
        last m q a h =
            ⊎_elim (λ x. none_first m q (inl x))
            (⊎_elim (λ x. none_first m q (inr (inl x)))
            (⊎_elim (λ x. none_first m q (inr (inr x)))
            (⊎_elim (λ x. let z : 3 ≤ 1 = rw x.0 at h in omega arith) (λ x. let z : 3 ≤ 2 = rw x.0 at h in omega arith))))
            (of-read m q a)

    -- by how the reading ends
    of-outcome : (o : Outcome) → OutcomeTold start 0 s o → size_of_line s ≡ size_by o → IsSound (read_by o room)
    of-outcome (whole l) w e = of-whole l w e
    of-outcome (broken q) w e = of-broken q w
    of-outcome (deep q) w e = of-deep q w

  -- the answer is sound
  pub read-sound : IsSound (read_answer s room)
  unfolding read_answer size_of_line
  read-sound =
      rung Stage (ReadApplies s room) (size_of_line s) (ltb 2048 (length s)) 21 2048 (read_by (reading s) room)
      (λ t. let h : 2048 < length s = ltb-true 2048 (length s) t in
      first-stage 21 2048 at_21 (too_long h)
      (λ m q x lower.
      ⊎_elim
      (λ (y : Long m q).
      let a : m ≡ 21 = y.0 in
      let b : q ≡ 2048 = y.1.0 in
      ⊎_elim (λ (k : q < 2048). omega arith) (λ (k : (q ≡ 2048) × (m < 21)). let z : m < 21 = k.1 in omega arith) lower)
      (⊎_elim (λ (y : Broken m q). let z : length s ≤ 2048 = y.1.0 in omega arith)
      (λ (y : Deeper m q). let z : length s ≤ 2048 = y.1.0 in omega arith)) x))
      (λ t. of-outcome (ltb-false 2048 (length s) t) (reading s) (outcome-told s start 0) refl)

  -- reading answers the first refusal that applies
  pub read_first : FirstRefusal Stage (ReadApplies s room) (size_of_line s) (read_answer s room)
  read_first = first-refusal Stage (ReadApplies s room) (size_of_line s) (read_answer s room) read-sound
