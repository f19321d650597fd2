-- `text::Text::put_number` meets its contract: the library's text of a number is that of `decimal`. Assumes nothing.
use native.Mathlib.Omega.{arith}
use mathlib.Core.Path.{◌≡◌, ◌∙◌}
use Rattle.seq.specs.Decimal.{decimal}
use Rattle.lister.specs.Text.{spaced}
use Rattle.lister.proofs.Laws.Stored.{stored_more, stored-size}
use Rattle.lister.proofs.Laws.Decimal.{printed_decimal}
use Rattle.lister.proofs.text.Text.put_number.Goals as goal
use Rattle.lister.proofs.text.Text.put_number.Goals.{After-as_bytes}

-- the digits
written : (c : After-as_bytes) → c.as_bytes.result.now ≡ decimal c.args.n
written c = c.as_bytes.ensures.value ∙ c.format.ensures.text ∙ printed_decimal c.args.n (omega arith)

pub put_bytes-requires : goal.put_bytes-requires
unfolding spaced
put_bytes-requires c = omega (arith, c.requires)

pub put_bytes-requires-2 : goal.put_bytes-requires-2
unfolding spaced
put_bytes-requires-2 c =
    let space = c.put_bytes.ensures.added in
    rw (written (goal.at.put_bytes-requires-2 c).After-as_bytes) (omega (arith, c.requires, stored-size space, space.behind))

pub returns : goal.returns
unfolding spaced
returns c =
    let space = c.put_bytes.ensures in
    let digits = rw (written (goal.at.returns c).After-as_bytes) at c.put_bytes-2.ensures in
    record { added = stored_more space.added (decimal c.args.n) digits.added; same = digits.same ∙ space.same }
