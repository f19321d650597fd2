-- `lihambozy::lhz_pattern_rows` meets its contract: the span of `plan::pattern_span`, which fits 32 bits. Assumes nothing.
use native.Mathlib.Omega.{arith}
use Prim.Native.Nat.{◌+◌, ◌≤◌}
use mathlib.Core.Path.{ap}
use Rattle.plan.proofs.Laws.Shown.{span-inside}
use Rattle.lihambozy.specs.Flat.{flat_span}
use Rattle.lihambozy.proofs.lhz_pattern_rows.Goals as goal
use Rattle.lihambozy.proofs.lhz_pattern_rows.Goals.{After-struct_known-1}

-- the span lies among the first 256 words
small : (c : After-struct_known-1) → c.pattern_span-span.result.start + c.pattern_span-span.result.len ≤ 256
small c =
    let a = c.args in
    rw c.pattern_span-span.ensures (span-inside a.volume.now a.plan.now a.pattern).1

pub overflow_cast-start : goal.overflow_cast-start
overflow_cast-start c = omega (arith, small c)

pub overflow_cast-len : goal.overflow_cast-len
overflow_cast-len c = omega (arith, small (goal.at.overflow_cast-len c).After-struct_known-1)

pub returns : goal.returns
returns c = ap flat_span c.pattern_span-span.ensures
