-- `Cursor::advance_past` meets its contract: the bound is one behind the position. Assumes nothing.
use native.Mathlib.Omega.{arith}
use mathlib.Core.Path.{◌≡◌}
use Prim.Native.Nat.{◌*◌, ◌+◌}
use Rattle.matcher.proofs.Laws.Cursors.{sought-is}
use Rattle.matcher.proofs.cursor.Cursor.advance_past.Goals as goal

pub advance-moved-requires : goal.advance-moved-requires
advance-moved-requires c = c.requires

pub returns : goal.returns
returns c =
    let a = c.args in
    let e : c.bound_of.result + 1 ≡ a.doc * 65536 + a.pos + 1 = omega arith in
    let w = sought-is a.volume.now (a.doc * 65536 + a.pos + 1) a.self c.advance-moved.result.at (rw e at c.advance-moved.ensures.at-is) in
    record { value = w.0; forward = w.1 }
