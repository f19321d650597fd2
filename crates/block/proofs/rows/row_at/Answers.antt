use native.Mathlib.Omega.{arith}
use Rattle.block.proofs.Laws.Sums.{bytes_are}
use Rattle.block.proofs.rows.row_at.Goals as goal

pub returns-clause-value : goal.returns-clause-value
returns-clause-value g c =
    let i = c.loop-c.invariant in
    bytes_are g.row.N c.args.s.now c.loop-c.row c.args.at c.requires.most i.0 i.1 (λ k h. i.2 k (omega arith))
