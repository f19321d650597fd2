use native.Mathlib.Nat.{sub-zero}
use native.Mathlib.Omega.{arith}
use Rattle.std.proofs.Common.{rules}
use mathlib.Core.Path.{◌≡◌, refl, sym, ◌∙◌}
use mathlib.Core.Bool.{not}
use lib.ListN.{length}
use Rattle.seq.specs.Lists.{at}
use Rattle.seq.specs.Numbers.{sum_to}
use Rattle.seq.proofs.Laws.Numbers.{first_hit, first_miss, first-end, index-found, index-none, sum_more, sum-within}
use Rattle.volume.specs.Write.{given_wrong, bad_given}
use Rattle.volume.proofs.Laws.WriteAnswer.{given_wrong-is}
use Rattle.volume.proofs.writing.bad_given.Goals as goal
use Rattle.volume.proofs.writing.bad_given.Goals.{After-rising, At-loop-i}

pub loop-i-init : goal.loop-i-init
unfolding sum_to
loop-i-init c = (refl, rw sub-zero)

-- the test of list i by what the walk of it tells
wrong-is : (c : After-rising) → given_wrong c.args.counts.now c.args.postings.now c.loop-i.i ≡ not c.rising.result
wrong-is c =
    let tells = c.rising.ensures (at c.args.postings.now) (λ i x h e. search rules) in
    given_wrong-is _ _ c.loop-i.i c.loop-i.from _ c.loop-i.invariant.0 tells

pub overflow_add-end : goal.overflow_add-end
overflow_add-end c =
    let counts = c.args.counts.now in
    let small = c.type_inv.counts c.loop-i.i in
    let within = sum-within (at counts) c.loop-i.i (length counts) c.loop-i-test.true in
    omega arith

pub rising-requires : goal.rising-requires
rising-requires c =
    let counts = c.args.counts.now in
    let small = c.type_inv.counts c.loop-i.i in
    let within = sum-within (at counts) c.loop-i.i (length counts) c.loop-i-test.true in
    record { callable = λ i h. search rules; from_le_end = omega arith; end_bound = omega arith; end_fits = omega arith }

pub returns-then-not-rising : goal.returns-then-not-rising
returns-then-not-rising c =
    let l = c.loop-i in
    let wrong = wrong-is (goal.at.returns-then-not-rising c).After-rising ∙ c.if-not-rising.true-raw in
    let bad : bad_given c.args.counts.now c.args.postings.now ≡ l.i = sym l.invariant.1 ∙ first_hit _ l.i _ c.loop-i-test.true wrong in
    rw bad (sym (index-found _ l.i c.loop-i-test.true))

pub loop-i-preserved : goal.loop-i-preserved
loop-i-preserved c =
    let l = c.loop-i in
    let right = wrong-is (goal.at.loop-i-preserved c).After-rising ∙ c.if-not-rising.false-raw in
    (sum_more _ l.i _ _ l.invariant.0 refl, sym (first_miss _ l.i _ c.loop-i-test.true right) ∙ l.invariant.1)

pub returns : goal.returns
returns c =
    let l = c.loop-i in
    let bad : bad_given c.args.counts.now c.args.postings.now ≡ l.i = sym l.invariant.1 ∙ first-end _ l.i _ c.loop-i-test.false in
    sym (index-none _ _ (omega arith))
