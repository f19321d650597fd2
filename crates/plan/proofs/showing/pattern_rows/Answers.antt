-- `showing::pattern_rows` meets its contract: the part of the plan at the pattern's span. Assumes nothing.
use native.Mathlib.Omega.{arith}
use Prim.Native.Nat.{ℕ, ◌+◌, ◌-◌, ◌≤◌}
use mathlib.Core.Path.{◌≡◌, ap, ◌∙◌}
use mathlib.Core.List.{List}
use lib.ListN.{length, take, drop}
use Rattle.plan.specs.declared.showing.Span.{Span}
use Rattle.plan.specs.Parts.{span_of, part_of, part_at}
use Rattle.plan.proofs.Laws.Shown.{span-inside}
use Rattle.plan.proofs.showing.pattern_rows.Goals as goal

-- the span lies in the plan
inside : (v p : List ℕ) (k : ℕ) {s : Span} → s ≡ span_of v p k → s.start + s.len ≤ length p
inside v p k e = rw e (span-inside v p k).0

pub overflow_add-result : goal.overflow_add-result
overflow_add-result c = omega (arith, inside _ _ _ c.pattern_span-span.ensures)

pub offset_bounds-plan-span : goal.offset_bounds-plan-span
offset_bounds-plan-span c = omega (arith, inside _ _ _ c.pattern_span-span.ensures)

pub slice_bounds-result-end : goal.slice_bounds-result-end
slice_bounds-result-end c = omega (arith, inside _ _ _ c.pattern_span-span.ensures)

pub returns : goal.returns
unfolding part_of
returns c =
    let p = c.args.plan.now in
    let s = c.pattern_span-span.result in
    let e : s.start + s.len - s.start ≡ s.len = omega arith in
    ap (λ (n : ℕ). take n (drop s.start p)) e ∙ ap (part_at p) c.pattern_span-span.ensures
