-- `paragraphs::para_start` meets its contract: the posting in front of the first one behind the position is the paragraph's start, if the
-- cursor has passed it and it is of the document. Assumes nothing.
use native.Mathlib.Omega.{arith}
use mathlib.Core.Path.{ap, ◌∙◌}
use Rattle.volume.specs.declared.posting.Posting.{Posting}
use Rattle.matcher.proofs.Laws.Starts.{stands-stretch, para-first, para_in}
use Rattle.matcher.proofs.paragraphs.para_start.Goals as goal

pub returns-then-at-starts : goal.returns-then-at-starts
returns-then-at-starts c = let o = c.args.opened.now in λ pos small found. para-first o.volume.accepted o.at_document small found c.if-at-starts.true

pub posting_at-last-requires : goal.posting_at-last-requires
posting_at-last-requires c =
    let o = c.args.opened.now in
    let w = (stands-stretch o.volume.accepted o.at_document).within in
    omega arith

pub returns : goal.returns
returns c =
    let o = c.args.opened.now in
    λ pos small found.
    c.start_in.ensures
    ∙ para_in o.volume.accepted o.at_document small found c.if-at-starts.false (ap (λ (r : Posting). r.bits) c.posting_at-last.ensures)
