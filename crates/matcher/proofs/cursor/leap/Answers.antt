use native.Mathlib.Omega.{arith}
use mathlib.Core.Path.{◌∙◌}
use Rattle.matcher.proofs.Laws.Cursors.{galloped-first, galloped-next, galloped_hit, galloped-end, stretch-within}
use Rattle.matcher.proofs.cursor.leap.Goals as goal

pub loop-step-init : goal.loop-step-init
loop-step-init c = (galloped-first _ _ _ _ c.requires.stretch, omega arith)

pub word_at-requires : goal.word_at-requires
word_at-requires c = let w = c.requires.stretch.within in omega arith

pub lower_bound-requires : goal.lower_bound-requires
lower_bound-requires c = let g = c.loop-step.invariant.0 in
    stretch-within _ _ _ _ _ c.requires.stretch g.from (omega arith) (omega arith)

pub returns-then-target-from : goal.returns-then-target-from
returns-then-target-from c = let g = c.loop-step.invariant.0 in
    let e = c.word_at.ensures in
    c.lower_bound.ensures ∙ galloped_hit _ _ _ _ c.requires.stretch _ _ g (omega arith) (omega arith) (omega arith)

pub overflow_mul-step : goal.overflow_mul-step
overflow_mul-step c = let w = c.requires.stretch.within in omega arith

pub loop-step-preserved : goal.loop-step-preserved
loop-step-preserved c = let g = c.loop-step.invariant.0 in
    let e = c.word_at.ensures in
    (galloped-next _ _ _ _ c.requires.stretch _ _ g (omega arith) (omega arith) (omega arith), omega arith)

pub lower_bound-requires-2 : goal.lower_bound-requires-2
lower_bound-requires-2 c = let g = c.loop-step.invariant.0 in stretch-within _ _ _ _ _ c.requires.stretch g.from g.to (omega arith)

pub returns : goal.returns
returns c = c.lower_bound-2.ensures ∙ galloped-end _ _ _ _ c.requires.stretch _ c.loop-step.invariant.0
