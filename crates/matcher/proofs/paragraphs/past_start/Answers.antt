-- `paragraphs::past_start` meets its contract: from where the cursor may go on, it comes to the same start. Assumes nothing.
use native.Mathlib.Omega.{arith}
use Prim.Native.Nat.{◌+◌, ◌*◌}
use mathlib.Core.Path.{◌≡◌, ap, ◌∙◌}
use Rattle.matcher.specs.declared.cursor.Cursor.{Cursor}
use Rattle.matcher.proofs.Laws.Cursors.{galloped-end, galloped_on, stretch-within}
use Rattle.matcher.proofs.Laws.Starts.{stands-stretch}
use Rattle.matcher.proofs.paragraphs.past_start.Goals as goal

pub resume-at-requires : goal.resume-at-requires
resume-at-requires c = let o = c.args.opened.now in stands-stretch o.volume.accepted o.at_document

pub resume-from-requires : goal.resume-from-requires
resume-from-requires c =
    let o = c.args.opened.now in
    let g = c.resume-at.ensures in
    stretch-within _ _ _ _ _ (stands-stretch o.volume.accepted o.at_document) g.from g.to (omega arith)

pub advance_past-next-requires : goal.advance_past-next-requires
advance_past-next-requires c =
    let o = c.args.opened.now in
    let g = galloped_on c.resume-at.ensures c.resume-from.ensures in
    stretch-within _ _ _ _ _ (stands-stretch o.volume.accepted o.at_document) g.from g.to (omega arith)

pub returns : goal.returns
returns c =
    let o = c.args.opened.now in
    let e : c.bound_of-bound.result + 1 ≡ o.document.doc * 65536 + c.args.pos + 1 = omega arith in
    ap (λ (r : Cursor). r.at) c.advance_past-next.ensures.value
    ∙ galloped-end _ _ _ _ (stands-stretch o.volume.accepted o.at_document) _ (rw e at (galloped_on c.resume-at.ensures c.resume-from.ensures))
