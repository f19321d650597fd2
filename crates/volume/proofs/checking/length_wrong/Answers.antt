-- `checking::length_wrong` meets its contract: the three tests of the length. Assumes nothing.
use Prim.Native.Nat.{◌%◌}
use mathlib.Core.Path.{◌≡◌, sym, ◌∙◌}
use mathlib.Core.Bool.{false, not}
use mathlib.Core.Logic.{inl, inr}
use lib.ListN.{length}
use lib.Dec.{eqb}
use borrow.Author.Tests.{eq-eqb, ne_eqb}
use Rattle.seq.proofs.Laws.Decides.{holds, eqb_decides, not_decides}
use Rattle.seq.proofs.Laws.Tests.{contrary}
use Rattle.volume.specs.Check.{length_wrong}
use Rattle.volume.proofs.Laws.Check.{length_wrong_decides}
use Rattle.volume.proofs.checking.length_wrong.Goals as goal
use Rattle.volume.proofs.checking.length_wrong.Goals.{then-volume-eq0, else-volume-eq0}

pub returns-then-volume-ne0 : goal.returns-then-volume-ne0
returns-then-volume-ne0 c =
    let v = c.args.volume.now in
    let d = length_wrong_decides v in
    c.if-volume-ne0.true
    ∙ sym (elim c.if-volume-eq0.branch [ then-volume-eq0 w ↦ holds d (inl w.if-volume-eq0.true) | else-volume-eq0 w ↦ holds d (inr (inl ((not_decides (eqb_decides (length v % 512) 0)).yes (sym w.value-is ∙ c.if-volume-ne0.true)))) ])

pub returns-else-volume-ne0 : goal.returns-else-volume-ne0
unfolding length_wrong
returns-else-volume-ne0 c =
    let v = c.args.volume.now in
    let not_first = c.if-volume-ne0.false in
    elim c.if-volume-eq0.branch [ then-volume-eq0 w ↦ absurd (contrary (w.value-is ∙ eq-eqb (length v) 0 w.if-volume-eq0.true) not_first) | else-volume-eq0 w ↦ let whole : not (eqb (length v % 512) 0) ≡ false = sym w.value-is ∙ not_first in rw (ne_eqb (length v) 0 w.if-volume-eq0.false, whole) ]
