-- `blocks::check_block` meets its contract: the number first, then the checksum. Assumes nothing.
use Rattle.volume.specs.Check.{block_wrong}
use Rattle.volume.specs.Inner.Falls.{block_answer}
use Rattle.volume.proofs.blocks.check_block.Goals as goal

pub returns-then-number_wrong : goal.returns-then-number_wrong
unfolding block_answer block_wrong
returns-then-number_wrong c = rw (← c.if-number_wrong.ensures)

pub returns-then-checksum_wrong : goal.returns-then-checksum_wrong
unfolding block_answer block_wrong
returns-then-checksum_wrong c = rw (← c.if-number_wrong.ensures, ← c.if-checksum_wrong.ensures)

pub returns : goal.returns
unfolding block_answer block_wrong
returns c = rw (← c.if-number_wrong.ensures, ← c.if-checksum_wrong.ensures)
