-- `checksum::second_sums` meets its contract: 252 bytes by rows, with nothing behind them. Assumes nothing.
use Rattle.block.proofs.Laws.Halves.{second-done}
use Rattle.block.proofs.checksum.second_sums.Goals as goal

pub returns : goal.returns
returns c =
    let rows = c.half_sums.ensures in
    second-done c.row_at.ensures.value c.half_rows.ensures rows.plain_value rows.weighted_value c.requires
