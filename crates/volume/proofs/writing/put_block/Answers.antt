-- `volume::writing::put_block` meets its contract: its number and its words are the bytes that the checksum covers.
-- Assumes nothing.
use mathlib.Core.Path.{ap, ◌∙◌}
use Rattle.volume.specs.Write.{sealed}
use Rattle.volume.proofs.Laws.Storing.{put_body}
use Rattle.volume.proofs.writing.put_block.Goals as goal

pub returns : goal.returns
returns c =
    c.seal.ensures
    ∙ ap sealed (put_body _ _ _ _ _ c.put32.ensures c.put_stream.ensures)
