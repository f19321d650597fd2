-- `stream::word_behind` meets its contract: the four bytes at the word's offset are inside the volume. Assumes nothing.
use mathlib.Core.Path.{sym, ◌∙◌}
use Rattle.volume.proofs.Laws.Stream.{word-near}
use Rattle.volume.proofs.stream.word_behind.Goals as goal

pub returns : goal.returns
returns c =
    let a = c.args in
    c.read32.ensures ∙ sym (word-near a.volume.now a.i a.k c.requires.k_bound)
