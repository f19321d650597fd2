use native.Mathlib.Omega.{arith}
use mathlib.Core.Path.{refl, ◌∙◌}
use Rattle.printer.proofs.Laws.Bytes.{some-digit, digits-first, digits-room, digits-next, digits-done}
use Rattle.printer.proofs.bytes.Text.put_number.Goals as goal

pub loop-left-init : goal.loop-left-init
loop-left-init c = let s = c.args.self.now in (digits-first c.args.n s.out.now s.at, refl)

pub put_byte-requires : goal.put_byte-requires
put_byte-requires c =
    let l = c.loop-left in
    let room = digits-room l.invariant.0 c.requires in
    let some = some-digit l.left in
    omega arith

pub loop-left-preserved : goal.loop-left-preserved
loop-left-preserved c =
    let l = c.loop-left in
    let p = rw c.digit_of.ensures at c.put_byte.ensures in
    (digits-next l.invariant.0 c.loop-left-test.true p.put, p.same ∙ l.invariant.1)

pub put_byte-requires-2 : goal.put_byte-requires-2
put_byte-requires-2 c =
    let l = c.loop-left in
    let room = digits-room l.invariant.0 c.requires in
    let some = some-digit l.left in
    omega arith

pub returns : goal.returns
returns c =
    let l = c.loop-left in
    let p = rw c.digit_of-2.ensures at c.put_byte-2.ensures in
    record { put = digits-done l.invariant.0 (omega arith) p.put; same = p.same ∙ l.invariant.1 }
