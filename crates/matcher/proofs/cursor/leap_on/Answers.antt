-- Where the eighth word is not below the target, the words below it are counted; else the search goes on behind it.
use Prim.Native.Nat.{◌+◌, ◌≤◌}
use native.Mathlib.Omega.{arith}
use mathlib.Core.Path.{◌≡◌, ◌∙◌}
use Rattle.matcher.specs.Inner.Cursors.{Galloped}
use Rattle.matcher.proofs.Laws.Cursors.{galloped-first, galloped-end, stretch-within, window_hit, window-passed, arrived-at, arrived-end}
use Rattle.matcher.proofs.cursor.leap_on.Goals as goal
use Rattle.matcher.proofs.cursor.leap_on.Goals.{then-end-from-ge8+else-target-from, else-end-from-ge8, Joined-end-from-ge8}

pub overflow_sub-end : goal.overflow_sub-end
overflow_sub-end c = let o = c.requires.order in omega arith

pub overflow_add-from : goal.overflow_add-from
overflow_add-from c = let w = c.requires.within in omega arith

pub word_at-requires : goal.word_at-requires
word_at-requires c = let w = c.requires.within in omega arith

pub below_across-passed-requires : goal.below_across-passed-requires
below_across-passed-requires c = let w = c.requires.within in omega arith

pub overflow_add-at : goal.overflow_add-at
overflow_add-at c = let w = c.requires.within in omega arith

pub posting_at-posting-requires : goal.posting_at-posting-requires
posting_at-posting-requires c = let w = c.requires.within in omega arith

pub returns-then-target-from : goal.returns-then-target-from
returns-then-target-from c =
    let a = c.args in
    let w = c.word_at.ensures in
    let n = c.below_across-passed.ensures.value in
    let hit = window_hit a.volume.now a.target a.from a.end 7 c.requires (omega arith) (omega arith) in
    arrived-at _ (omega (arith, n, hit)) (omega arith) c.posting_at-posting.ensures

pub overflow_add-low : goal.overflow_add-low
overflow_add-low c = let w = c.requires.within in omega arith

-- the words in front of where the steps begin are below the target
passed : (c : Joined-end-from-ge8)
    → let a = c.args in Galloped a.volume.now a.target a.from a.end c.if-end-from-ge8.low × (1 ≤ c.if-end-from-ge8.step)
passed c =
    let a = c.args in
    elim c.if-end-from-ge8.branch [
      | then-end-from-ge8+else-target-from w ↦
          let g = window-passed a.volume.now a.target a.from a.end 7 c.requires (omega arith) (omega arith) in
          let e : a.from + 7 + 1 ≡ c.if-end-from-ge8.low = omega arith in
          (rw e at g, omega arith)
      | else-end-from-ge8 w ↦ (rw w.low-is (galloped-first a.volume.now a.target a.from a.end c.requires), omega arith)
    ]

pub leap-at-requires : goal.leap-at-requires
leap-at-requires c =
    let g = (passed c).0 in
    record {
      stretch = stretch-within _ _ _ _ _ c.requires g.from g.to (omega arith);
      le_first = (passed c).1;
    }

pub posting_at-posting-requires-then-at-end : goal.posting_at-posting-requires-then-at-end
posting_at-posting-requires-then-at-end c = let w = c.requires.within in omega arith

pub returns-then-at-end : goal.returns-then-at-end
returns-then-at-end c =
    let g = passed (goal.at.returns-then-at-end c).Joined-end-from-ge8 in
    arrived-at _ (c.leap-at.ensures ∙ galloped-end _ _ _ _ c.requires _ g.0) c.if-at-end.true c.posting_at-posting-then-at-end.ensures

pub returns : goal.returns
returns c =
    let g = passed (goal.at.returns c).Joined-end-from-ge8 in
    arrived-end _ (c.leap-at.ensures ∙ galloped-end _ _ _ _ c.requires _ g.0) c.if-at-end.false
