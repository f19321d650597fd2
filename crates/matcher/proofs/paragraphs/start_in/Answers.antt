-- `paragraphs::start_in` meets its contract. Assumes nothing.
use mathlib.Core.Path.{refl, sym, ◌∙◌}
use Rattle.seq.proofs.Laws.Decides as decides
use Rattle.seq.proofs.Laws.Decides.{eqb_decides}
use Rattle.matcher.proofs.paragraphs.start_in.Goals as goal

pub returns-then-doc : goal.returns-then-doc
returns-then-doc c =
    rw (decides.holds (eqb_decides _ _) (sym c.doc.ensures ∙ c.if-doc.true)) c.pos.ensures

pub returns : goal.returns
returns c = rw (decides.fails (eqb_decides _ _) (λ e. c.if-doc.false (c.doc.ensures ∙ e))) refl
