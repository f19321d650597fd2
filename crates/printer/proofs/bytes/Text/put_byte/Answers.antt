-- `bytes::Text::put_byte` meets its contract: a byte behind the end of the buffer changes nothing. Assumes nothing.
use native.Mathlib.Omega.{arith}
use Prim.Native.Nat.{◌-◌}
use mathlib.Core.Path.{refl}
use Rattle.printer.proofs.Laws.Bytes.{put_byte, put-past}
use Rattle.printer.proofs.bytes.Text.put_byte.Goals as goal

pub returns-then-self : goal.returns-then-self
returns-then-self c =
    let s = c.args.self.now in
    record { put = put_byte s.out.now s.at c.args.byte (s.at - 1) (omega arith); same = refl }

pub returns-else-self : goal.returns-else-self
returns-else-self c =
    let s = c.args.self.now in
    record { put = put-past s.out.now s.at c.args.byte (s.at - 1) (omega arith) c.if-self.false; same = refl }
