-- `blocks::checksum_wrong` meets its contract: the sums of the block beside those that it holds. Assumes nothing.
use Prim.Native.Nat.{ℕ}
use mathlib.Core.Path.{sym, ap, ap₂, ◌∙◌}
use mathlib.Core.Bool.{Bool, not, ◌&&◌}
use mathlib.Core.Logic.{inl}
use lib.Dec.{eqb}
use borrow.Author.Tests.{eq-eqb, ne_eqb}
use Rattle.seq.proofs.Laws.Decides.{holds}
use Rattle.volume.specs.Layout.{covered, stored_b}
use Rattle.block.specs.Checksum.{check_b}
use Rattle.volume.specs.Check.{checksum_wrong}
use Rattle.volume.proofs.Laws.Check.{checksum_wrong_decides}
use Rattle.volume.proofs.blocks.checksum_wrong.Goals as goal

pub returns-then-read16-sums : goal.returns-then-read16-sums
returns-then-read16-sums c =
    let a = c.args in
    ap not (ne_eqb _ _ c.if-read16-sums.true)
    ∙ sym (holds (checksum_wrong_decides a.volume.now a.k) (inl (λ e. c.if-read16-sums.true (c.read16.ensures ∙ e ∙ sym c.block_sums-sums.ensures.a_value))))

pub returns-else-read16-sums : goal.returns-else-read16-sums
unfolding checksum_wrong
returns-else-read16-sums c =
    let a = c.args in
    let v = a.volume.now in
    let sums = c.block_sums-sums.ensures in
    ap₂ (λ (x y : ℕ). not (eqb x y)) c.read16-else-read16-sums.ensures sums.b_value
    ∙ sym (ap (λ (t : Bool). not (t && eqb (stored_b v a.k) (check_b (covered v a.k)))) (eq-eqb _ _ (sym c.read16.ensures ∙ c.if-read16-sums.false ∙ sums.a_value)))
