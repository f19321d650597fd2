use native.Mathlib.Omega.{arith}
use Prim.Native.Nat.{ℕ, ◌+◌, ◌-◌, ◌*◌, ◌≤◌}
use mathlib.Core.Path.{◌≡◌, sym, ap, ap₂, ◌∙◌}
use mathlib.Core.List.{List}
use Rattle.plan.specs.declared.showing.Span.{Span}
use Rattle.plan.specs.Rows.{row_count, is_voice, is_end}
use Rattle.plan.specs.Parts as parts
use Rattle.plan.proofs.Laws.Accepted.{given}
use Rattle.plan.proofs.Laws.Spans.{found_ge, found_within, behind-first, behind-next}
use Rattle.plan.proofs.showing.span_at.Goals as goal
use Rattle.plan.proofs.showing.span_at.Goals.{After-first_of-last}

-- the first VOICE from a row on, and the first END from there on, where the row is at most m
record Found (p : List ℕ) (behind m first last : ℕ) : Type 0 where
  pub first-is : first ≡ parts.opening p behind
  pub last-is : last ≡ parts.ending p behind
  pub order : first ≤ last
  pub within : last ≤ m

found : (p : List ℕ) (behind m first last : ℕ) → first ≡ parts.opening p behind → last ≡ parts.first_of is_end p first → behind ≤ m → row_count p ≤ m → Found p behind m first last
found p behind m first last a b h l =
    let low : first ≤ m = rw a (found_within is_voice p behind m h l) in
    record {
      first-is = a;
      last-is = b ∙ ap (parts.first_of is_end p) a;
      order = rw b (found_ge is_end p first);
      within = rw b (found_within is_end p first m low l);
    }

pub loop-init : goal.loop-init
loop-init c = (sym (behind-first _), omega arith)

pub overflow_add-behind : goal.overflow_add-behind
overflow_add-behind c =
    let g = given _ _ c.requires.by_index.1 in
    let p = c.args.plan.now in
    let f = found p c.loop.behind (row_count p + c.loop.counter) _ _ (c.first_of-first.ensures is_voice (λ kind held h. h.1)) (c.first_of-behind.ensures is_end (λ kind held h. h.1)) c.loop.invariant.1 (omega arith) in
    omega arith

pub loop-preserved : goal.loop-preserved
loop-preserved c =
    let p = c.args.plan.now in
    let f = found p c.loop.behind (row_count p + c.loop.counter) _ _ (c.first_of-first.ensures is_voice (λ kind held h. h.1)) (c.first_of-behind.ensures is_end (λ kind held h. h.1)) c.loop.invariant.1 (omega arith) in
    (ap (λ (n : ℕ). n + 1) (f.last-is ∙ ap (parts.ending p) c.loop.invariant.0) ∙ sym (behind-next p c.loop.counter), omega arith)

-- behind the loop
last : (c : After-first_of-last) → Found c.args.plan.now c.loop.behind 72 c.first_of-first-2.result c.first_of-last.result
last c =
    let g = given _ _ c.requires.by_index.1 in
    found c.args.plan.now c.loop.behind 72 _ _ (c.first_of-first-2.ensures is_voice (λ kind held h. h.1)) (c.first_of-last.ensures is_end (λ kind held h. h.1)) (omega (arith, c.loop.invariant.1)) (omega arith)

pub overflow_mul-result : goal.overflow_mul-result
overflow_mul-result c = let f = last c in omega arith

pub overflow_add-result : goal.overflow_add-result
overflow_add-result c = let f = last c in omega arith

pub overflow_sub-result : goal.overflow_sub-result
overflow_sub-result c = let f = last c in omega arith

pub overflow_mul-result-2 : goal.overflow_mul-result-2
overflow_mul-result-2 c = let f = last c in omega arith

pub returns : goal.returns
returns c =
    let f = last c in
    let p = c.args.plan.now in
    let k : c.loop.counter ≡ c.args.pattern = omega arith in
    let b = c.loop.invariant.0 ∙ ap (parts.behind p) k in
    let spanned : ℕ → ℕ → Span = λ first end. record { start = 4 * first; len = 4 * (end + 1 - first) } in
    ap₂ spanned (f.first-is ∙ ap (parts.opening p) b) (f.last-is ∙ ap (parts.ending p) b)
