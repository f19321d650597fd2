use native.Mathlib.Omega.{arith}
use mathlib.Core.Path.{◌≡◌, refl}
use Rattle.block.proofs.Laws.Sums.{at_most-zeros, eights-first, eights_again, eights-near, eights-room-far, eights-room-all}
use Rattle.block.proofs.rows.half_rows.Goals as goal

pub rows_at-seven-requires : goal.rows_at-seven-requires
rows_at-seven-requires c = record {
  n_bound = omega arith;
  n_in_bounds = omega arith;
  at_most = at_most-zeros;
}

pub loop-i-init : goal.loop-i-init
loop-i-init c = eights-first refl c.rows_at-seven.ensures

pub plus-far-requires : goal.plus-far-requires
plus-far-requires c = eights-room-far c.loop-i.invariant (omega arith)

pub rows_at-eight-requires : goal.rows_at-eight-requires
rows_at-eight-requires c = record {
  n_bound = omega arith;
  n_in_bounds = omega arith;
  at_most = eights-near c.loop-i.invariant (omega arith);
}

pub plus-all-requires : goal.plus-all-requires
plus-all-requires c = eights-room-all c.loop-i.invariant (omega arith) c.rows_at-eight.ensures.more_within

pub loop-i-preserved : goal.loop-i-preserved
loop-i-preserved c =
    eights_again c.loop-i.invariant c.rows_at-eight.ensures c.plus-all.ensures c.plus-far.ensures (omega arith)

pub returns : goal.returns
returns c = let e : c.loop-i.i ≡ 3 = omega arith in rw e at c.loop-i.invariant
