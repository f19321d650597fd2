-- `stream::word_at` meets its contract: the four bytes at the word's offset are inside the volume. Assumes nothing.
use mathlib.Core.Path.{sym, ap, ◌∙◌}
use Rattle.block.specs.Bytes.{le32}
use Rattle.volume.specs.Layout.{word}
use Rattle.volume.proofs.Laws.Stream.{offset-is}
use Rattle.volume.proofs.stream.word_at.Goals as goal

pub returns : goal.returns
unfolding word
returns c = let a = c.args in c.read32.ensures ∙ ap (le32 a.volume.now) (sym (offset-is a.i))
