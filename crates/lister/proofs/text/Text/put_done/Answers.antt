-- `text::Text::put_done` meets its contract: the word, the number and the newline are stored one behind the other. Assumes nothing.
use native.Mathlib.Omega.{arith}
use mathlib.Core.Path.{◌∙◌}
use mathlib.Core.List.{[], ◌∷◌}
use Rattle.lister.specs.Text.{done_word}
use Rattle.lister.proofs.Laws.Stored.{stored-size}
use Rattle.lister.proofs.Laws.Text.{stored-line, one_number}
use Rattle.lister.proofs.Laws.Lengths.{spaced-long}
use Rattle.lister.proofs.text.Text.put_done.Goals as goal

pub put_bytes-requires : goal.put_bytes-requires
put_bytes-requires c = omega (arith, spaced-long c.args.tally (omega arith))

pub put_number-requires : goal.put_number-requires
put_number-requires c =
    let word = c.put_bytes.ensures.added in
    omega (arith, spaced-long c.args.tally (omega arith), stored-size word, word.behind)

pub put_bytes-requires-2 : goal.put_bytes-requires-2
put_bytes-requires-2 c =
    let word = c.put_bytes.ensures.added in
    let number = c.put_number.ensures.added in
    omega (arith, spaced-long c.args.tally (omega arith), stored-size word, word.behind, stored-size number, number.behind)

pub returns : goal.returns
returns c =
    let word = c.put_bytes.ensures in
    let number = c.put_number.ensures in
    let newline = c.put_bytes-2.ensures in
    record {
      added = stored-line done_word (c.args.tally ∷ []) word.added (rw one_number number.added) newline.added;
      same = newline.same ∙ number.same ∙ word.same;
    }
