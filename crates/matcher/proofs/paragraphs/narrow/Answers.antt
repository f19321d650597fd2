-- `paragraphs::narrow` meets its contract: the words rise, so that those below the bound come first. Assumes nothing.
use Prim.Native.Nat.{◌+◌, ◌*◌, ◌≤◌}
use native.Mathlib.Omega.{arith}
use mathlib.Core.Path.{ap, ◌∙◌}
use Rattle.volume.specs.Inner.Below.{below_of}
use Rattle.matcher.specs.Inner.Blocks.{Across}
use Rattle.matcher.proofs.Laws.Blocks.{narrowed}
use Rattle.matcher.proofs.paragraphs.narrow.Goals as goal
use Rattle.matcher.proofs.paragraphs.narrow.Goals.{After-below-d}

-- what is told of the five words
told : (c : After-below-d)
    → let a = c.args in
    let n = ((c.below-a.result + c.below-b.result) + c.below-c.result) + c.below-d.result in
    Across a.volume.now a.block a.bound (a.k + a.step * n) a.step × (a.k + a.step * n ≤ a.k + 4 * a.step)
told c =
    let a = c.args in
    let p = c.requires in
    narrowed a.volume.now a.block a.bound a.k a.step p.rising_block p.step_bound p.le_step p.across _ _ _ _
    (c.below-a.ensures.value ∙ ap (λ x. below_of x a.bound) c.word_in_block.ensures)
    (c.below-b.ensures.value ∙ ap (λ x. below_of x a.bound) c.word_in_block-2.ensures)
    (c.below-c.ensures.value ∙ ap (λ x. below_of x a.bound) c.word_in_block-3.ensures)
    (c.below-d.ensures.value ∙ ap (λ x. below_of x a.bound) c.word_in_block-4.ensures)

pub overflow_mul-result : goal.overflow_mul-result
overflow_mul-result c = let t = (told c).1 in omega arith

pub overflow_add-result-4 : goal.overflow_add-result-4
overflow_add-result-4 c = let t = (told c).1 in omega arith

pub returns : goal.returns
returns c =
    let w = told c in
    record { across_2 = w.0; upper_bound = w.1 }
