use mathlib.Core.Path.{◌≡◌, refl, sym, ap, ◌∙◌}
use mathlib.Core.Bool.{not}
use borrow.Author.Tests.{eq-eqb, ne_eqb}
use Rattle.seq.proofs.Laws.Numbers.{first_hit, first_miss, first-end, index-found, index-none}
use Rattle.seq.specs.Numbers.{index_below}
use Rattle.volume.specs.Layout.{word}
use Rattle.volume.specs.Check.{padding_wrong}
use Rattle.volume.proofs.stream.bad_word.Goals as goal

pub loop-i-init : goal.loop-i-init
loop-i-init c = refl

pub returns-then-word_at-ne0 : goal.returns-then-word_at-ne0
unfolding padding_wrong
returns-then-word_at-ne0 c =
    let l = c.loop-i in
    let a = c.args in
    let wrong = ap not (ne_eqb _ _ (λ e. c.if-word_at-ne0.true (c.word_at.ensures ∙ e))) in
    sym (index-found a.end l.i c.loop-i-test.true) ∙ ap (index_below a.end) (sym (first_hit (padding_wrong a.volume.now) l.i a.end c.loop-i-test.true wrong) ∙ l.invariant)

pub loop-i-preserved : goal.loop-i-preserved
unfolding padding_wrong
loop-i-preserved c =
    let l = c.loop-i in
    let a = c.args in
    let zero_word : word a.volume.now l.i ≡ 0 = sym c.word_at.ensures ∙ c.if-word_at-ne0.false in
    sym (first_miss (padding_wrong a.volume.now) l.i a.end c.loop-i-test.true (ap not (eq-eqb _ _ zero_word))) ∙ l.invariant

pub returns : goal.returns
returns c =
    let l = c.loop-i in
    let a = c.args in
    sym (index-none a.end l.i c.loop-i-test.false) ∙ ap (index_below a.end) (sym (first-end (padding_wrong a.volume.now) l.i a.end c.loop-i-test.false) ∙ l.invariant)
