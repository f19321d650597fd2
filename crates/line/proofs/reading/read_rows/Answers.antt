-- `reading::read_rows` meets its contract: a line from the first byte on, with nothing behind it. Assumes nothing.
use native.Mathlib.Omega.{arith}
use Rattle.line.proofs.Laws.Reads.{whole-broken, whole-at}
use Rattle.line.proofs.reading.read_rows.Goals as goal

pub returns-then-whole-text : goal.returns-then-whole-text
returns-then-whole-text c =
    let a = c.args in
    whole-broken a.text.now a.out.now c.line.new.out _ _ c.in_ok-whole.ensures (omega arith)

pub returns : goal.returns
returns c =
    let a = c.args in
    whole-at a.text.now a.out.now c.line.new.out _ _ c.in_ok-whole.ensures (omega arith)
