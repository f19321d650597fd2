-- `text::Text::put_line` meets its contract: the word, the numbers and the newline are stored one behind the other. Assumes nothing.
use native.Mathlib.Omega.{arith}
use mathlib.Core.Path.{◌∙◌}
use Rattle.lister.proofs.Laws.Stored.{stored-size}
use Rattle.lister.proofs.Laws.Text.{length-line, stored-line}
use Rattle.lister.proofs.text.Text.put_line.Goals as goal

pub put_bytes-requires : goal.put_bytes-requires
put_bytes-requires c =
    omega (arith, length-line c.args.word.now c.args.ns.now, c.requires)

pub put_numbers-requires : goal.put_numbers-requires
put_numbers-requires c =
    let word = c.put_bytes.ensures.added in
    omega (arith, length-line c.args.word.now c.args.ns.now, c.requires, stored-size word, word.behind)

pub put_bytes-requires-2 : goal.put_bytes-requires-2
put_bytes-requires-2 c =
    let word = c.put_bytes.ensures.added in
    let numbers = c.put_numbers.ensures.added in
    omega (arith, length-line c.args.word.now c.args.ns.now, c.requires, stored-size word, word.behind, stored-size numbers, numbers.behind)

pub returns : goal.returns
returns c =
    let word = c.put_bytes.ensures in
    let numbers = c.put_numbers.ensures in
    let newline = c.put_bytes-2.ensures in
    record {
      added = stored-line c.args.word.now c.args.ns.now word.added numbers.added newline.added;
      same = newline.same ∙ numbers.same ∙ word.same;
    }
