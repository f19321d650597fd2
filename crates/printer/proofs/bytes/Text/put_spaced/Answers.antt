-- `bytes::Text::put_spaced` meets its contract. Assumes nothing.
use mathlib.Core.Path.{◌∙◌}
use mathlib.Core.List.{[], ◌∷◌}
use Rattle.seq.specs.Decimal.{decimal}
use Rattle.printer.proofs.Laws.Bytes.{put_then}
use Rattle.printer.proofs.bytes.Text.put_spaced.Goals as goal

pub returns : goal.returns
returns c =
    let number = c.put_number.ensures in
    let space = c.put_byte.ensures in
    record { put = put_then (32 ∷ []) (decimal c.args.n) number.put space.put; same = space.same ∙ number.same }
