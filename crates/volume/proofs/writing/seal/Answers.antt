-- `writing::seal` meets its contract: the two sums stand behind the 508 bytes that they are of. Assumes nothing.
use native.Mathlib.Omega.{arith}
use Rattle.volume.proofs.Laws.Storing.{put-sealed}
use Rattle.volume.proofs.writing.seal.Goals as goal

pub returns : goal.returns
returns c =
    let a = c.args in
    put-sealed a.out.now _ _ _ _ (omega arith)
    (c.block_sums-sums.ensures.a_value, c.block_sums-sums.ensures.b_value)
    c.put16.ensures
    c.put16-2.ensures
