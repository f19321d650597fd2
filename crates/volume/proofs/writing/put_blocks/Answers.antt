use native.Mathlib.Omega.{arith}
use lib.ListN.{length-take, length-drop}
use Rattle.volume.proofs.Laws.Storing.{laying-first, laying_again, laying-done}
use Rattle.volume.proofs.writing.put_blocks.Goals as goal

pub loop-k-init : goal.loop-k-init
loop-k-init c = laying-first _ _ _ _ (omega arith) (omega arith)

pub put_block-requires : goal.put_block-requires
put_block-requires c = record {
  k_bound = omega arith;
  out_len = simp (length-take, length-drop) (omega arith);
}

pub loop-k-preserved : goal.loop-k-preserved
loop-k-preserved c =
    let l = c.loop-k in
    laying_again _ _ _ _ l.out _ l.k l.invariant (omega arith) c.put_block.ensures (omega arith)

pub returns : goal.returns
returns c = laying-done _ _ _ _ _ c.loop-k.k c.loop-k.invariant c.loop-k-test.false
