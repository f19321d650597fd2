use native.Mathlib.Omega.{arith}
use Prim.Native.Nat.{ℕ, ◌<◌, ◌≤◌}
use mathlib.Core.Path.{◌≡◌, sym, ◌∙◌}
use mathlib.Core.Bool.{true, false}
use mathlib.Core.Logic.{⊎_elim}
use Rattle.seq.proofs.Laws.Tests.{below_or}
use Rattle.seq.proofs.Laws.Numbers.{first_hit, first_miss, first-end}
use Rattle.plan.specs.Rows.{row_count, row_at}
use Rattle.plan.specs.Parts.{first_of}
use Rattle.plan.proofs.Laws.Accepted.{given}
use Rattle.plan.proofs.reading.first_of.Goals as goal

pub row_at-requires-clause-i_value : goal.row_at-requires-clause-i_value
row_at-requires-clause-i_value g c = (given _ _ c.requires.by_index.1).formed c.loop-i.i c.loop-i-test.true

pub returns-then-test : goal.returns-then-test
unfolding first_of
returns-then-test g c = λ sort same.
    let p = c.args.plan.now in
    let held : c.test.result ≡ sort (row_at p c.loop-i.i).kind = rw c.row_at.ensures at (same c.row_at.result.kind c.test.result c.test.ensures) in
    let e : sort (row_at p c.loop-i.i).kind ≡ true = sym held ∙ c.if-test.true in
    sym (first_hit (λ j. sort (row_at p j).kind) c.loop-i.i (row_count p) c.loop-i-test.true e) ∙ c.loop-i.invariant sort same

pub loop-i-preserved : goal.loop-i-preserved
unfolding first_of
loop-i-preserved g c = λ sort same.
    let p = c.args.plan.now in
    let held : c.test.result ≡ sort (row_at p c.loop-i.i).kind = rw c.row_at.ensures at (same c.row_at.result.kind c.test.result c.test.ensures) in
    let e : sort (row_at p c.loop-i.i).kind ≡ false = sym held ∙ c.if-test.false in
    sym (first_miss (λ j. sort (row_at p j).kind) c.loop-i.i (row_count p) c.loop-i-test.true e) ∙ c.loop-i.invariant sort same

pub returns : goal.returns
unfolding first_of
returns g c = λ sort same.
    let p = c.args.plan.now in
    let n = row_count p in
    let l = c.loop-i in
    let test = λ (j : ℕ). sort (row_at p j).kind in
    let m = c.max.ensures in
    ⊎_elim
    (λ (h : c.args.from < n). let e : c.max.result ≡ l.i = omega arith in e ∙ sym (first-end test l.i n c.loop-i-test.false) ∙ l.invariant sort same)
    (λ (h : n ≤ c.args.from). let e : c.max.result ≡ c.args.from = omega arith in e ∙ sym (first-end test c.args.from n h))
    (below_or c.args.from n)
