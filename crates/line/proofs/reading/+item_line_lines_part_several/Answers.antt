-- `reading::item`, `reading::line`, `reading::lines`, `reading::part` and `reading::several` meet their contracts: a law of
-- `Laws/Reads.antt` or `Laws/Several.antt` for each way through them. Assumes nothing.
use native.Mathlib.Omega.{arith}
use mathlib.Core.Path.{◌≡◌, refl, sym, ◌∙◌, subst}
use mathlib.Core.Bool.{Bool, true, false, not}
use mathlib.Core.Logic.{◌≢◌}
use lib.Dec.{eqb}
use borrow.Author.Tests.{eqb-true, eqb-false}
use Rattle.std.proofs.Common.{ℕ, ◌+◌, ◌<◌, ◌≤◌, List, length, get_or, Bor, Option, Some, None}
use Rattle.std.specs.List.{HoldsAt}
use Rattle.std.specs.Option.{MatchOption, option_eq}
use Rattle.std.proofs.lemmas.Option.{MatchOption-at_some, MatchOption-at_none}
use Rattle.std.proofs.lemmas.Result.{err_from_is_err_and}
use Rattle.grammar.specs.Grammar as g
use Rattle.line.specs.Inner.Reads.{LinesRead}
use Rattle.line.proofs.Laws.Reads as laws
use Rattle.line.proofs.Laws.Several.{several-out, several-none, several-wrong, several-lines}
use Rattle.line.proofs.Laws.Several.{lines_open, lines-wrong, lines-full, lines_comma}
use Rattle.line.proofs.Laws.Several.{lines-early, lines_end}
use Rattle.line.proofs.reading.+item_line_lines_part_several.Goals as goal
use Rattle.line.proofs.reading.+item_line_lines_part_several.Goals.{several-in-49-to-56, several-in_default-matches, several-in_default-matches-2}

-- what `get` answers of byte i of a text
abbrev Got : List ℕ → ℕ → Option (Bor ℕ) → Type 0
Got s i r = MatchOption r (length s ≤ i) (λ y. (i < length s) × HoldsAt (λ z. y.now ≡ z) s i)

-- a byte is there
there : (s : List ℕ) (i : ℕ) {r : Option (Bor ℕ)} {x : Bor ℕ} → r ≡ Some x → Got s i r → (i < length s) × (get_or s i 0 ≡ x.now)
there s i e h = let w = MatchOption-at_some _ _ _ e h in (w.0, sym (w.1 0))

-- the text ends in front of it
gone : (s : List ℕ) (i : ℕ) {r : Option (Bor ℕ)} → r ≡ None → Got s i r → length s ≤ i
gone s i e h = MatchOption-at_none _ _ e h

-- byte y is there, as `==` answers
abbrev Is : Option (Bor ℕ) → Bor ℕ → Bool
Is r y = option_eq (λ a b. eqb a.now b.now) r (Some y)

stands : (s : List ℕ) (i : ℕ) (r : Option (Bor ℕ)) (y : Bor ℕ) → Got s i r → Is r y ≡ true → (i < length s) × (get_or s i 0 ≡ y.now)
stands s i None y h e = cc
stands s i (Some x) y h e = (h.0, sym (h.1 0) ∙ eqb-true x.now y.now e)

-- another byte is there, or none
differs : (s : List ℕ) (i : ℕ) (r : Option (Bor ℕ)) (y : Bor ℕ) → Got s i r → Is r y ≡ false → i < length s → get_or s i 0 ≢ y.now
differs s i None y h e l = absurd (let z : ⊥ = omega arith in z)
differs s i (Some x) y h e l = λ w. eqb-false x.now y.now e (h.1 0 ∙ w)

-- the answer of `!=`
unlike : (t : Bool) → not t ≡ true → t ≡ false
unlike true e = cc
unlike false e = refl

alike : (t : Bool) → not t ≡ false → t ≡ true
alike true e = refl
alike false e = cc

pub item-returns-in_default : goal.item-returns-in_default
item-returns-in_default t c =
    let a = c.args in
    laws.item_out a.text.now a.at a.depth a.first a.out.now (gone a.text.now a.at c.in_default.is c.get.ensures.lookup.3)

pub item-returns-in-91 : goal.item-returns-in-91
item-returns-in-91 t c =
    let a = c.args in
    let s = a.text.now in
    let w = there s a.at c.in-Some.is c.get.ensures.lookup.3 in
    laws.item-figure s a.at a.depth a.first a.out.now w.0 (omega arith) (w.1 ∙ c.in-91.is) c.figure.new.out c.figure.result c.figure.ensures

pub item-returns-in-60 : goal.item-returns-in-60
item-returns-in-60 t c =
    let a = c.args in
    let s = a.text.now in
    let w = there s a.at c.in-Some.is c.get.ensures.lookup.3 in
    laws.item-several s a.at a.depth a.first a.out.now w.0 (omega arith) (w.1 ∙ c.in-60.is) (omega arith) c.several.new.out c.several.result
    c.several.ensures

pub item-returns-in-60-2 : goal.item-returns-in-60-2
item-returns-in-60-2 t c =
    let a = c.args in
    let s = a.text.now in
    let w = there s a.at c.in-Some.is c.get.ensures.lookup.3 in
    laws.item-ninth s a.at a.depth a.first a.out.now w.0 (omega arith) (w.1 ∙ c.in-60.is) (omega arith)

pub item-returns-in-60-2-2 : goal.item-returns-in-60-2-2
item-returns-in-60-2-2 t c =
    let a = c.args in
    let s = a.text.now in
    let w = there s a.at c.in-Some.is c.get.ensures.lookup.3 in
    laws.item-deep s a.at a.depth a.first a.out.now w.0 (omega arith) (w.1 ∙ c.in-40.is) (omega arith)

pub item-returns-in_err-end-in-40 : goal.item-returns-in_err-end-in-40
item-returns-in_err-end-in-40 t c =
    let a = c.args in
    let s = a.text.now in
    let w = there s a.at c.in-Some.is c.get.ensures.lookup.3 in
    let p = err_from_is_err_and c.from_residual.result c.from_residual.ensures.1 in
    rw (p.1, p.2)
    (laws.item-stops s a.at a.depth a.first a.out.now w.0 (omega arith) (w.1 ∙ c.in-40.is) (omega arith) c.line.new.out _
    c.in_err-end-in-40.ensures)

pub item-returns-then-ne : goal.item-returns-then-ne
item-returns-then-ne t c =
    let a = c.args in
    let s = a.text.now in
    let w = there s a.at c.in-Some.is c.get.ensures.lookup.3 in
    let e = unlike _ (sym c.ne.ensures ∙ c.if-ne.true) in
    laws.item-wrong s a.at a.depth a.first a.out.now w.0 (omega arith) (w.1 ∙ c.in-40.is) (omega arith) c.line.new.out _ _
    c.in_ok-end-in-40.ensures (differs s c.in_ok-end-in-40.field-0.at _ _ c.get-in-40.ensures.lookup.3 e)

pub item-returns-else-ne : goal.item-returns-else-ne
item-returns-else-ne t c =
    let a = c.args in
    let s = a.text.now in
    let w = there s a.at c.in-Some.is c.get.ensures.lookup.3 in
    let e = alike _ (sym c.ne.ensures ∙ c.if-ne.false) in
    let v = stands s c.in_ok-end-in-40.field-0.at _ _ c.get-in-40.ensures.lookup.3 e in
    laws.item-shut s a.at a.depth a.first a.out.now w.0 (omega arith) (w.1 ∙ c.in-40.is) (omega arith) c.line.new.out _ _
    c.in_ok-end-in-40.ensures v.0 v.1

pub item-returns-in_default-byte : goal.item-returns-in_default-byte
item-returns-in_default-byte t c =
    let a = c.args in
    let s = a.text.now in
    let w = there s a.at c.in-Some.is c.get.ensures.lookup.3 in
    let k = c.in_default-byte in
    laws.item-none s a.at a.depth a.first a.out.now w.0 (omega arith) (omega arith) (omega arith) (omega arith)

pub line-returns-then-eq : goal.line-returns-then-eq
line-returns-then-eq t c =
    let a = c.args in
    let s = a.text.now in
    let o = a.out.now in
    let q = c.settle-rows in
    let w = stands s c.in_ok-end.field-0.at _ _ c.get.ensures.lookup.3 (sym c.eq.ensures ∙ c.if-eq.true) in
    laws.line-either s a.at a.depth a.first o a.waiting c.part.new.out q.new.out _ _ q.result c.in_ok-end.ensures q.ensures.out_after
    q.ensures.value (omega arith) w.0 w.1 c.line.new.out c.line.result c.line.ensures

pub line-returns : goal.line-returns
line-returns t c =
    let a = c.args in
    let s = a.text.now in
    let o = a.out.now in
    let q = c.settle-rows in
    laws.line_at s a.at a.depth a.first o a.waiting c.part.new.out q.new.out _ _ q.result c.in_ok-end.ensures q.ensures.out_after
    q.ensures.value (differs s c.in_ok-end.field-0.at _ _ c.get.ensures.lookup.3 (sym c.eq.ensures ∙ c.if-eq.false))

pub part-returns-then-eq : goal.part-returns-then-eq
part-returns-then-eq t c =
    let a = c.args in
    let s = a.text.now in
    let o = a.out.now in
    let q = c.settle-rows in
    let w = stands s c.in_ok-end.field-0.at _ _ c.get-next.ensures.lookup.3 (sym c.eq.ensures ∙ c.if-eq.true) in
    laws.part_joint s a.at a.depth a.first o a.waiting c.item.new.out q.new.out _ _ q.result c.in_ok-end.ensures q.ensures.out_after
    q.ensures.value (omega arith) w.0 g.both w.1 c.part.new.out c.part.result c.part.ensures

pub part-returns-then-eq-2 : goal.part-returns-then-eq-2
part-returns-then-eq-2 t c =
    let a = c.args in
    let s = a.text.now in
    let o = a.out.now in
    let q = c.settle-rows in
    let p = c.part-then-eq-2 in
    let w = stands s c.in_ok-end.field-0.at _ _ c.get-next.ensures.lookup.3 (sym c.eq-2.ensures ∙ c.if-eq-2.true) in
    laws.part_joint s a.at a.depth a.first o a.waiting c.item.new.out q.new.out _ _ q.result c.in_ok-end.ensures q.ensures.out_after
    q.ensures.value (omega arith) w.0 g.without w.1 p.new.out p.result p.ensures

pub part-returns : goal.part-returns
part-returns t c =
    let a = c.args in
    let s = a.text.now in
    let o = a.out.now in
    let q = c.settle-rows in
    let i = c.in_ok-end.field-0.at in
    let h = c.get-next.ensures.lookup.3 in
    let e = differs s i _ _ h (sym c.eq.ensures ∙ c.if-eq.false) in
    let f = differs s i _ _ h (sym c.eq-2.ensures ∙ c.if-eq-2.false) in
    laws.part_at s a.at a.depth a.first o a.waiting c.item.new.out q.new.out _ _ q.result c.in_ok-end.ensures q.ensures.out_after
    q.ensures.value (λ l. (e l, f l))

pub several-returns-in_default : goal.several-returns-in_default
several-returns-in_default t c =
    let a = c.args in
    several-out a.text.now a.at a.depth a.first a.out.now (gone a.text.now a.at c.in_default.is c.get.ensures.lookup.3)

pub several-returns-then-not-matches : goal.several-returns-then-not-matches
several-returns-then-not-matches t c =
    let a = c.args in
    let s = a.text.now in
    let w = there s a.at c.in-Some.is c.get.ensures.lookup.3 in
    let e = c.if-not-matches.true in
    several-none s a.at a.depth a.first a.out.now w.0
    (λ l h. elim c.if-matches.branch [
      | several-in-49-to-56 v ↦ let i = v.matches-is in cc
      | several-in_default-matches v ↦ let k = v.in_default-matches in omega arith
      | several-in_default-matches-2 v ↦ let k = v.in_default-matches in omega arith
    ])

pub several-returns-then-ne : goal.several-returns-then-ne
several-returns-then-ne t c =
    let a = c.args in
    let s = a.text.now in
    let w = there s a.at c.in-Some.is c.get.ensures.lookup.3 in
    let e = unlike _ (sym c.ne.ensures ∙ c.if-ne.true) in
    several-wrong s a.at a.depth a.first a.out.now w.0 (omega arith) (omega arith) (omega arith)
    (differs s (a.at + 1) _ _ c.get-2.ensures.lookup.3 e)

pub several-returns : goal.several-returns
several-returns t c =
    let a = c.args in
    let s = a.text.now in
    let f = c.lines in
    let w = there s a.at c.in-Some.is c.get.ensures.lookup.3 in
    let v = stands s (a.at + 1) _ _ c.get-2.ensures.lookup.3 (alike _ (sym c.ne.ensures ∙ c.if-ne.false)) in
    several-lines s a.at a.depth a.first a.out.now w.0 (omega arith) (omega arith) (omega arith) v.0 v.1 f.new.out f.result
    (subst (λ (n : ℕ). LinesRead s (a.at + 2) a.depth n 0 a.first a.out.now f.new.out f.result)
    (let e = c.from.ensures in omega arith) f.ensures)

pub lines-returns-in_default : goal.lines-returns-in_default
lines-returns-in_default t c =
    let a = c.args in
    lines_open a.text.now a.at a.depth a.least a.count a.first a.out.now c.line.new.out _ _ c.in_ok-end.ensures
    (gone a.text.now c.in_ok-end.field-0.at c.in_default.is c.get.ensures.lookup.3)

pub lines-returns-in-44 : goal.lines-returns-in-44
lines-returns-in-44 t c =
    let a = c.args in
    let s = a.text.now in
    let f = c.lines in
    let w = there s c.in_ok-end.field-0.at c.in-Some.is c.get.ensures.lookup.3 in
    lines_comma s a.at a.depth a.least a.count a.first a.out.now c.line.new.out _ _ c.in_ok-end.ensures w.0 (w.1 ∙ c.in-44.is)
    (omega arith) (omega (arith, c.requires.at_in_bounds)) f.new.out f.result f.ensures

pub lines-returns-in-62 : goal.lines-returns-in-62
lines-returns-in-62 t c =
    let a = c.args in
    let s = a.text.now in
    let w = there s c.in_ok-end.field-0.at c.in-Some.is c.get.ensures.lookup.3 in
    lines_end s a.at a.depth a.least a.count a.first a.out.now c.line.new.out _ _ c.in_ok-end.ensures w.0 (w.1 ∙ c.in-62.is)
    (omega arith) (omega arith) (omega (arith, c.requires.at_in_bounds)) c.put.new.out c.put.ensures

pub lines-returns-in_default-byte : goal.lines-returns-in_default-byte
lines-returns-in_default-byte t c =
    let a = c.args in
    let s = a.text.now in
    let w = there s c.in_ok-end.field-0.at c.in-Some.is c.get.ensures.lookup.3 in
    lines-full s a.at a.depth a.least a.count a.first a.out.now c.line.new.out _ _ c.in_ok-end.ensures w.0 (w.1 ∙ c.in-44.is) (omega arith)

pub lines-returns-in_default-byte-2 : goal.lines-returns-in_default-byte-2
lines-returns-in_default-byte-2 t c =
    let a = c.args in
    let s = a.text.now in
    let w = there s c.in_ok-end.field-0.at c.in-Some.is c.get.ensures.lookup.3 in
    lines-early s a.at a.depth a.least a.count a.first a.out.now c.line.new.out _ _ c.in_ok-end.ensures w.0 (w.1 ∙ c.in-62.is)
    (omega arith)

pub lines-returns-in_default-byte-3 : goal.lines-returns-in_default-byte-3
lines-returns-in_default-byte-3 t c =
    let a = c.args in
    let s = a.text.now in
    let w = there s c.in_ok-end.field-0.at c.in-Some.is c.get.ensures.lookup.3 in
    lines-early s a.at a.depth a.least a.count a.first a.out.now c.line.new.out _ _ c.in_ok-end.ensures w.0 (w.1 ∙ c.in-62.is)
    (omega arith)

pub lines-returns-in_default-byte-4 : goal.lines-returns-in_default-byte-4
lines-returns-in_default-byte-4 t c =
    let a = c.args in
    let s = a.text.now in
    let w = there s c.in_ok-end.field-0.at c.in-Some.is c.get.ensures.lookup.3 in
    let k = c.in_default-byte in
    lines-wrong s a.at a.depth a.least a.count a.first a.out.now c.line.new.out _ _ c.in_ok-end.ensures w.0 (omega arith) (omega arith)
