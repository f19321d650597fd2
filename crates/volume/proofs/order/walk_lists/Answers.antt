use native.Mathlib.Omega.{arith}
use Prim.Native.Nat.{ℕ, ◌+◌, ◌*◌, ◌/◌, ◌≤◌}
use native.Mathlib.Nat.{sub-zero}
use mathlib.Core.Path.{◌≡◌, sym, ap, ap₂, ◌∙◌}
use mathlib.Core.Bool.{not}
use lib.ListN.{length}
use Rattle.seq.specs.Lists.{rises}
use Rattle.seq.specs.Numbers.{first_from, run, sum_to}
use Rattle.seq.proofs.Laws.Numbers.{first_hit, first_miss, first-end, index-found, index-none, sum_step}
use Rattle.volume.specs.Layout.{list_count, count, word}
use Rattle.volume.specs.Check.{order_wrong, bad_list}
use Rattle.volume.proofs.Laws.Check.{list-within}
use Rattle.volume.proofs.order.walk_lists.Goals as goal
use Rattle.volume.proofs.order.walk_lists.Goals.{After-count_at-size, After-words_rise}

-- the list that is read ends inside the blocks
in_blocks : (c : After-count_at-size)
    → c.loop-i.start + c.count_at-size.result ≤ 126 * (length c.args.volume.now / 512)
in_blocks c =
    let l = c.loop-i in
    let v = c.args.volume.now in
    let size : c.count_at-size.result ≡ count v l.i = c.count_at-size.ensures in
    let w = list-within v l.i (omega arith) in
    omega arith

-- what the walk of the list tells
order_is : (c : After-words_rise) → order_wrong c.args.volume.now c.loop-i.i ≡ not c.words_rise.result
unfolding order_wrong
order_is c =
    let l = c.loop-i in
    let v = c.args.volume.now in
    ap not (sym (c.words_rise.ensures ∙ ap₂ (λ (s n : ℕ). rises (run (word v) s n)) l.invariant.0 c.count_at-size.ensures))

pub loop-i-init : goal.loop-i-init
unfolding sum_to
loop-i-init c =
    let p = c.requires.lists_value in
    (omega arith, ap (first_from (order_wrong _) 0) (sub-zero _ ∙ p))

pub words_rise-requires : goal.words_rise-requires
words_rise-requires c = in_blocks c

pub returns-then-not-words_rise : goal.returns-then-not-words_rise
returns-then-not-words_rise c =
    let l = c.loop-i in
    let a = c.args in
    let v = a.volume.now in
    let bad : bad_list v ≡ l.i = sym l.invariant.1 ∙ first_hit (order_wrong v) l.i a.lists c.loop-i-test.true (order_is (goal.at.returns-then-not-words_rise c).After-words_rise ∙ c.if-not-words_rise.true-raw) in
    rw bad (sym (index-found (list_count v) l.i (omega arith)))

pub overflow_add-start : goal.overflow_add-start
overflow_add-start c = let w = in_blocks (goal.at.overflow_add-start c).After-count_at-size in omega arith

pub loop-i-preserved : goal.loop-i-preserved
loop-i-preserved c =
    let l = c.loop-i in
    let a = c.args in
    let v = a.volume.now in
    let step : sum_to (count v) (l.i + 1) ≡ sum_to (count v) l.i + count v l.i = sum_step (count v) l.i in
    let size : c.count_at-size.result ≡ count v l.i = c.count_at-size.ensures in (
      omega arith,
      sym (first_miss (order_wrong v) l.i a.lists c.loop-i-test.true (order_is (goal.at.loop-i-preserved c).After-words_rise ∙ c.if-not-words_rise.false-raw)) ∙ l.invariant.1,
    )

pub returns : goal.returns
returns c =
    let l = c.loop-i in
    let a = c.args in
    let v = a.volume.now in
    let bad : bad_list v ≡ l.i = sym l.invariant.1 ∙ first-end (order_wrong v) l.i a.lists c.loop-i-test.false in
    sym (index-none (list_count v) (bad_list v) (omega arith))
