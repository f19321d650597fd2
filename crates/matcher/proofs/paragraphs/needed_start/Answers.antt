-- `paragraphs::needed_start` meets its contract, by the start of the position's paragraph; where it stands in none, the first posting
-- behind it is the first start, if there is one and it is of the document. Assumes nothing.
use native.Mathlib.Omega.{arith}
use mathlib.Core.Path.{sym, ap, ◌∙◌}
use Rattle.volume.specs.declared.posting.Posting.{Posting}
use Rattle.matcher.proofs.Laws.Starts.{stands-stretch, first-none, first-other, first-here}
use Rattle.matcher.proofs.Laws.Paragraphs.{needed-bare, needed_para}
use Rattle.matcher.proofs.paragraphs.needed_start.Goals as goal

pub returns-then-para-ne-POSITIONS : goal.returns-then-para-ne-POSITIONS
returns-then-para-ne-POSITIONS c = λ pos small found same. same ∙ needed_para _ _ (λ e. c.if-para-ne-POSITIONS.true (same ∙ e))

pub returns-then-para-starts : goal.returns-then-para-starts
returns-then-para-starts c =
    let o = c.args.opened.now in
    λ pos small found same.
    let bare = sym same ∙ c.if-para-ne-POSITIONS.false in
    first-none o.volume.accepted o.at_document small found bare c.if-para-starts.true ∙ needed-bare _ _ bare

pub posting_at-first-requires : goal.posting_at-first-requires
posting_at-first-requires c =
    let p = c.requires in
    let o = c.args.opened.now in
    let w = (stands-stretch o.volume.accepted o.at_document).within in
    let t = p.at_le_end in
    omega (arith, c.if-para-starts.false)

pub returns-then-doc-document : goal.returns-then-doc-document
returns-then-doc-document c =
    let o = c.args.opened.now in
    λ pos small found same.
    let bare = sym same ∙ c.if-para-ne-POSITIONS.false in
    first-other o.volume.accepted o.at_document small found bare c.if-para-starts.false
    (ap (λ (r : Posting). r.bits) c.posting_at-first.ensures)
    (λ e. c.if-doc-document.true (c.doc.ensures ∙ e))
    ∙ needed-bare _ _ bare

pub returns : goal.returns
returns c =
    let o = c.args.opened.now in
    λ pos small found same.
    let bare = sym same ∙ c.if-para-ne-POSITIONS.false in
    c.pos.ensures
    ∙ first-here o.volume.accepted o.at_document small found bare c.if-para-starts.false
    (ap (λ (r : Posting). r.bits) c.posting_at-first.ensures)
    (sym c.doc.ensures ∙ c.if-doc-document.false)
    ∙ needed-bare _ _ bare
