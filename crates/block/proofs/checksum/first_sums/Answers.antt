-- `checksum::first_sums` meets its contract: 252 bytes by rows, and the last four. Assumes nothing.
use Rattle.block.proofs.Laws.Halves.{first_done}
use Rattle.block.proofs.checksum.first_sums.Goals as goal

pub returns : goal.returns
returns c =
    let sums = c.half_sums-rows.ensures in
    let tilt = rw c.tilted.ensures at c.columns.ensures.value in
    rw (c.columns-behind.ensures.value, tilt)
    (first_done c.row_at.ensures.value c.half_rows.ensures sums.plain_value sums.weighted_value c.row_at-last.ensures.value c.requires)
