-- `reading::front` meets its contract. Assumes nothing.
use Prim.Native.Nat.{ℕ}
use mathlib.Core.Path.{ap}
use Rattle.join.specs.declared.reading.Merge.{Merge}
use Rattle.join.proofs.reading.front.Goals as goal

pub returns : goal.returns
returns c =
    let before : ℕ → Merge = λ n. record { lists = 0; first = n; stop = n; second = n; end = n } in
    ap before c.lead-at.ensures
