-- `bytes::Text::put_byte_if` meets its contract. Assumes nothing.
use native.Mathlib.Omega.{arith}
use mathlib.Core.Path.{refl}
use Rattle.printer.proofs.Laws.Bytes.{put-none, put_as, only-true, only-false}
use Rattle.printer.proofs.bytes.Text.put_byte_if.Goals as goal

pub put_byte-requires : goal.put_byte-requires
put_byte-requires c =
    let w = only-true c.args.byte c.if-wanted.true in
    omega (arith, c.requires, w.1)

pub returns-then-wanted : goal.returns-then-wanted
returns-then-wanted c =
    let w = only-true c.args.byte c.if-wanted.true in
    let p = c.put_byte.ensures in
    record { put = put_as w.0 p.put; same = p.same }

pub returns-else-wanted : goal.returns-else-wanted
returns-else-wanted c =
    let s = c.args.self.now in
    record { put = put_as (only-false c.args.byte c.if-wanted.false) (put-none s.out.now s.at); same = refl }
