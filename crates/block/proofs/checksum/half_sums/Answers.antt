-- `checksum::half_sums` meets its contract: each call gives its columns. Assumes nothing.
use native.Mathlib.Omega.{arith}
use Rattle.block.proofs.checksum.half_sums.Goals as goal

pub returns : goal.returns
returns c =
    let front = c.columns-front.ensures.value in
    let all = c.columns.ensures.value in
    let slope-front = rw c.tilted.ensures at c.columns-2.ensures.value in
    let slope-all = rw c.tilted-2.ensures at c.columns-5.ensures.value in
    let near = c.columns-3.ensures.value in
    let far = c.columns-4.ensures.value in
    record {
      plain_value = rw (front, all);
      plain_bound = omega arith;
      weighted_value = rw (front, slope-front, near, far, slope-all);
      weighted_bound = omega arith;
    }
