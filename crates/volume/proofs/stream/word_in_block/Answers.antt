-- `stream::word_in_block` meets its contract: a block's words stand one behind the other. Assumes nothing.
use mathlib.Core.Path.{sym, ◌∙◌}
use Rattle.volume.proofs.Laws.Stream.{word-of_block}
use Rattle.volume.proofs.stream.word_in_block.Goals as goal

pub returns : goal.returns
returns c =
    let a = c.args in
    c.read32.ensures ∙ sym (word-of_block a.volume.now a.block a.k c.requires.k_bound)
