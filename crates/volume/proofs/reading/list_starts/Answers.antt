use Prim.Native.Nat.{ℕ, ◌+◌}
use native.Mathlib.Omega.{arith}
use mathlib.Core.Path.{◌≡◌, refl, sym, ap, ap₂, ◌∙◌}
use lib.ListN.{length, length-set}
use Rattle.volume.specs.Layout.{lead, start}
use Rattle.volume.proofs.Laws.Check.{Good, good}
use Rattle.volume.proofs.Laws.Starts.{start_first, start-next, started-next}
use Rattle.volume.proofs.reading.list_starts.Goals as goal
use Rattle.volume.proofs.reading.list_starts.Goals.{After-count_at, At-loop-i, Start}

accepted : (c : Start) → Good c.args.volume.now
accepted c = good c.args.volume.now c.requires.accepted

pub word_at-lists-requires : goal.word_at-lists-requires
word_at-lists-requires c = let g = accepted (goal.at.word_at-lists-requires c).Start in omega arith

pub loop-i-init : goal.loop-i-init
loop-i-init c =
    let a = c.args in
    let v = a.volume.now in
    let here = c.lead-at.ensures ∙ ap (λ (n : ℕ). lead n) c.word_at-lists.ensures ∙ sym (start_first v) in (
      started-next v a.starts.now 0 _ (λ j h. absurd (let z : ⊥ = omega arith in z)) (omega arith) here,
      here,
      refl,
    )

-- the buffer keeps its length
same : (l : At-loop-i) → length l.loop-i.starts ≡ length l.args.starts.now
same l = l.loop-i.invariant.2 ∙ length-set l.args.starts.now 0 _

pub count_at-requires : goal.count_at-requires
count_at-requires c = let g = accepted (goal.at.count_at-requires c).Start in omega arith

-- the start of the next list
next : (c : After-count_at)
    → c.loop-i.at + c.count_at.result ≡ start c.args.volume.now (c.loop-i.i + 1)
next c =
    let l = c.loop-i in
    ap₂ (λ (a b : ℕ). a + b) l.invariant.1 c.count_at.ensures ∙ sym (start-next c.args.volume.now l.i)

pub overflow_add-at : goal.overflow_add-at
overflow_add-at c =
    let g = accepted (goal.at.overflow_add-at c).Start in
    let w = g.lists-within c.loop-i.i (omega arith) in
    let e = c.loop-i.invariant.1 in
    let q = c.count_at.ensures in
    omega arith

pub bounds-starts-i : goal.bounds-starts-i
bounds-starts-i c = let e = same (goal.at.bounds-starts-i c).At-loop-i in omega arith

pub loop-i-preserved : goal.loop-i-preserved
loop-i-preserved c =
    let l = c.loop-i in
    let v = c.args.volume.now in
    let e = same (goal.at.loop-i-preserved c).At-loop-i in (
      started-next v l.starts (l.i + 1) _ (λ j h. l.invariant.0.each j (omega arith)) (omega arith) (next c),
      next c,
      length-set l.starts (l.i + 1) _ ∙ l.invariant.2,
    )

pub shape_of-starts : goal.shape_of-starts
shape_of-starts c = same (goal.at.shape_of-starts c).At-loop-i

pub returns : goal.returns
returns c = record {
  by_index = λ j h. c.loop-i.invariant.0.each j (omega arith);
  starts_len_unchanged = same (goal.at.returns c).At-loop-i;
}
