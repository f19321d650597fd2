use native.Mathlib.Omega.{arith}
use Rattle.matcher.proofs.Laws.Cursors.{narrowed-first, narrowed-up, narrowed_down, narrowed-done}
use Rattle.matcher.proofs.cursor.lower_bound.Goals as goal

pub loop-low-init : goal.loop-low-init
loop-low-init c = narrowed-first _ _ _ _ c.requires.order

pub word_at-requires : goal.word_at-requires
word_at-requires c = let w = c.requires.within in omega arith

pub loop-low-preserved-then-from-target : goal.loop-low-preserved-then-from-target
loop-low-preserved-then-from-target c =
    let e = c.word_at.ensures in
    narrowed-up _ _ _ _ c.requires c.loop-low.low _ _ c.loop-low.invariant (omega arith) (omega arith) (omega arith)

pub loop-low-preserved : goal.loop-low-preserved
loop-low-preserved c =
    let e = c.word_at.ensures in
    narrowed_down _ _ _ _ c.requires _ c.loop-low.high _ c.loop-low.invariant (omega arith) (omega arith) (omega arith)

pub returns : goal.returns
returns c = narrowed-done _ _ _ _ _ _ c.loop-low.invariant c.loop-low-test.false
