-- `stream::count_at` meets its contract. Assumes nothing.
use mathlib.Core.Path.{ap, ◌∙◌}
use Rattle.volume.specs.Layout.{word}
use Rattle.volume.proofs.stream.count_at.Goals as goal

pub returns : goal.returns
returns c = c.word_at.ensures ∙ ap (word c.args.volume.now) c.entry.ensures
