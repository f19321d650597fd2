-- `patterns::put_letter` meets its contract. Assumes nothing.
use mathlib.Core.Path.{◌∙◌}
use mathlib.Core.List.{[], ◌∷◌}
use Rattle.grammar.specs.Text.{lead}
use Rattle.printer.specs.Inner.Writing.{begun}
use Rattle.printer.proofs.Laws.Bytes.{put_then}
use Rattle.printer.proofs.patterns.put_letter.Goals as goal

pub returns : goal.returns
unfolding begun lead
returns c =
    let letter = c.put_byte.ensures in
    let mark = c.put_byte-2.ensures in
    record { put = put_then (59 ∷ []) (c.args.letter ∷ []) letter.put mark.put; same = mark.same ∙ letter.same }
