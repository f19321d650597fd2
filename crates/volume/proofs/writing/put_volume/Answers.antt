-- `volume::writing::put_volume` meets its contract: three runs of blocks, each behind the one before it.
-- Assumes nothing.
use native.Mathlib.Omega.{arith}
use Rattle.volume.proofs.Laws.Storing.{put_three}
use Rattle.volume.proofs.writing.put_volume.Goals as goal

pub returns : goal.returns
returns c =
    put_three _ _ _ _ _ _ _ _ (omega arith) (omega arith)
    c.put_blocks.ensures
    c.put_blocks-2.ensures
    c.put_blocks-3.ensures
