-- `Cursor::enter` meets its contract: the bound is that of the document's first position. Assumes nothing.
use native.Mathlib.Omega.{arith}
use mathlib.Core.Path.{◌≡◌}
use Prim.Native.Nat.{◌*◌}
use Rattle.matcher.proofs.cursor.Cursor.enter.Goals as goal

pub advance-requires : goal.advance-requires
advance-requires c = c.requires

pub returns : goal.returns
returns c = let e : c.bound_of.result ≡ c.args.doc * 65536 = omega arith in rw e at c.advance.ensures
