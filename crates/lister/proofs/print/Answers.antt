use native.Mathlib.Omega.{arith}
use Prim.Native.Nat.{ℕ}
use mathlib.Core.Path.{sym}
use mathlib.Core.List.{[]}
use lib.ListN.{length-replicate}
use lib.Seq.{length-take-le}
use Rattle.lister.specs.Turns.{at_start}
use Rattle.lister.proofs.Laws.Pages.{told-text, came-next}
use Rattle.lister.proofs.print.Goals as goal

pub loop-next-init : goal.loop-next-init
loop-next-init o c = (omega arith, omega arith, length-replicate {A = ℕ} 278558 0, ([], at_start))

pub turn_text-turn-requires : goal.turn_text-turn-requires
turn_text-turn-requires o c = (omega arith, omega arith)

pub slice_bounds-write_turn-end : goal.slice_bounds-write_turn-end
slice_bounds-write_turn-end o c =
    let t = c.turn_text-turn in
    sym (length-take-le t.result.bytes t.new.out (omega arith))

pub write_turn-requires : goal.write_turn-requires
write_turn-requires o c = (c.loop-next.invariant.3, told-text c.turn_text-turn.ensures.told)

pub loop-next-smaller : goal.loop-next-smaller
loop-next-smaller o c =
    let a = rw c.in-Some.is at c.turn_text-turn.ensures.ahead in
    omega (arith, a.1.0, a.1.1.0)

pub loop-next-preserved : goal.loop-next-preserved
loop-next-preserved o c =
    let t = c.turn_text-turn in
    let s = c.args in
    let l = c.loop-next in
    let a = rw c.in-Some.is at t.ensures.ahead in
    let came = came-next s.volume.now s.file.now l.invariant.3.0 l.start.doc l.start.tally l.invariant.3.1 t.ensures.told c.in-Some.next c.in-Some.is in
    (a.1.1.0, a.1.1.1, omega arith, (_, came))
