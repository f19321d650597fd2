-- `cursor::gallop` meets its contract: where the eighth word is of the same block and not below the target, the words below it are counted.
-- Assumes nothing.
use native.Mathlib.Omega.{arith}
use mathlib.Core.Path.{refl}
use Rattle.matcher.proofs.Laws.Cursors.{window_hit, arrived-at}
use Rattle.matcher.proofs.cursor.gallop.Goals as goal

pub overflow_sub-end : goal.overflow_sub-end
overflow_sub-end c = let o = c.requires.order in omega arith

pub word_behind-requires : goal.word_behind-requires
word_behind-requires c =
    let w = c.requires.within in
    record { k_bound = omega arith; k_bound_2 = omega arith }

pub below_in_window-passed-requires : goal.below_in_window-passed-requires
below_in_window-passed-requires c =
    let w = c.requires.within in
    record { i_bound = omega arith; i_bound_2 = omega arith }

pub word_behind-bits-requires : goal.word_behind-bits-requires
word_behind-bits-requires c =
    let w = c.requires.within in
    record { k_bound = omega arith; k_bound_2 = omega arith }

pub returns-then-target-from : goal.returns-then-target-from
returns-then-target-from c =
    let a = c.args in
    let n = c.below_in_window-passed.ensures.value in
    let e = c.word_behind.ensures in
    let hit = window_hit a.volume.now a.target a.from a.end 7 c.requires (omega arith) (omega arith) in
    arrived-at _ (omega (arith, n, hit)) (omega arith) (rw c.word_behind-bits.ensures refl)

pub leap_on-requires : goal.leap_on-requires
leap_on-requires c = c.requires

pub returns : goal.returns
returns c = c.leap_on.ensures
