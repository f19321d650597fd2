-- `reading::list_span` meets its contract: the counts of an accepted volume lie in its blocks. Assumes nothing.
use native.Mathlib.Omega.{arith}
use Prim.Native.Nat.{ℕ, ◌+◌}
use mathlib.Core.Path.{ap, ap₂, ◌∙◌}
use Rattle.volume.specs.Layout.{lead}
use Rattle.volume.specs.declared.layout.ListSpan.{ListSpan}
use Rattle.volume.proofs.Laws.Check.{Good, good}
use Rattle.volume.proofs.reading.list_span.Goals as goal
use Rattle.volume.proofs.reading.list_span.Goals.{Start}

-- what acceptance gives
accepted : (c : Start) → Good c.args.volume.now
accepted c = good c.args.volume.now c.requires.accepted

pub word_at-lists-requires : goal.word_at-lists-requires
word_at-lists-requires c = let g = accepted (goal.at.word_at-lists-requires c).Start in omega arith

pub count_sum-before-requires : goal.count_sum-before-requires
count_sum-before-requires c = let g = accepted (goal.at.count_sum-before-requires c).Start in record { n_bound = omega arith; n_bound_2 = omega arith }

pub count_at-count-requires : goal.count_at-count-requires
count_at-count-requires c = let g = accepted (goal.at.count_at-count-requires c).Start in omega arith

pub returns : goal.returns
returns c =
    let span : ℕ → ℕ → ListSpan = λ s n. record { start = s; count = n } in
    let front = c.lead.ensures ∙ ap (λ (n : ℕ). lead n) c.word_at-lists.ensures in
    ap₂ span (ap₂ (λ (a b : ℕ). a + b) front c.count_sum-before.ensures.value) c.count_at-count.ensures
