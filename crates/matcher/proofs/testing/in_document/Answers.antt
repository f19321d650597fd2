-- `testing::in_document` meets its contract: what std says of each position is the word of `seq`. Assumes nothing.
use borrow.Author.Rules.{rules}
use Prim.Native.Nat.{◌≤◌}
use mathlib.Core.Logic.{◌↔◌}
use Rattle.std.specs.Prelude.{All, IsTrue}
use Rattle.matcher.proofs.Laws.Testing.{all-small}
use Rattle.matcher.proofs.testing.in_document.Goals as goal

pub returns : goal.returns
returns c =
    let e : IsTrue c.all.result ↔ All (λ q. q ≤ 65535) c.args.positions.now = search rules in
    all-small _ c.args.positions.now e
