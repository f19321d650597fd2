-- `cursor::list_cursor` meets its contract. Assumes nothing.
use native.Mathlib.Omega.{arith}
use Prim.Native.Nat.{◌+◌}
use mathlib.Core.Path.{ap}
use Rattle.volume.specs.declared.layout.ListSpan.{ListSpan}
use Rattle.matcher.proofs.Laws.Volume.{span_small}
use Rattle.matcher.proofs.cursor.list_cursor.Goals as goal

pub overflow_add-end : goal.overflow_add-end
overflow_add-end c =
    let s = c.list_span-span in
    let m = span_small c.args.volume.now.bytes.now c.args.volume.now.accepted c.args.list c.requires s.result s.ensures in
    omega arith

pub returns : goal.returns
returns c = ap (λ (s : ListSpan). record { at = s.start; end = s.start + s.count }) c.list_span-span.ensures
