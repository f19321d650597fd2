use Prim.Native.Nat.{◌+◌}
use mathlib.Core.Path.{refl}
use borrow.Author.Tests.{eq-eqb, ne_eqb}
use Rattle.matcher.proofs.least.next_turn.Goals as goal

pub returns-then-next-n : goal.returns-then-next-n
returns-then-next-n c = let a = c.args in rw (eq-eqb (a.i + 1) a.n c.if-next-n.true) refl

pub returns : goal.returns
returns c = let a = c.args in rw (ne_eqb (a.i + 1) a.n c.if-next-n.false) refl
