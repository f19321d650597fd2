-- `Cursor::seek` meets its contract: the bound is that of the document's first position. Assumes nothing.
use native.Mathlib.Omega.{arith}
use mathlib.Core.Path.{◌≡◌}
use Prim.Native.Nat.{◌*◌}
use Rattle.matcher.proofs.Laws.Cursors.{sought-is}
use Rattle.matcher.proofs.cursor.Cursor.seek.Goals as goal

pub leap_on-moved-requires : goal.leap_on-moved-requires
leap_on-moved-requires c = c.requires

pub returns : goal.returns
returns c =
    let a = c.args in
    let e : c.bound_of.result ≡ a.doc * 65536 = omega arith in
    let w = sought-is a.volume.now (a.doc * 65536) a.self c.leap_on-moved.result.at (rw e at c.leap_on-moved.ensures.at-is) in
    record { value = w.0; forward = w.1 }
