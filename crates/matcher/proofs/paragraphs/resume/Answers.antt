-- `paragraphs::resume` meets its contract: the words in front of the mark are not above the one right in front of it. Assumes nothing.
use native.Mathlib.Omega.{arith}
use Rattle.matcher.proofs.Laws.Cursors.{galloped-mark}
use Rattle.matcher.proofs.paragraphs.resume.Goals as goal

pub returns : goal.returns
returns c =
    let e = c.word_at.ensures in
    galloped-mark _ _ _ _ c.requires _ (omega arith) (omega arith) (omega arith)
