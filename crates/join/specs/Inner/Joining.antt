-- The output of joining two volumes that are accepted, for `src/joining.rt`. No call's promise rests on this file. Assumes nothing.
use Rattle.std.specs.Prelude.{ℕ, List, length}
use Rattle.seq.specs.Refusals.{laid}
use Rattle.volume.specs.Write.{volume_of}
use Rattle.join.specs.Join.{lists_of_both, join_rest}

-- the output afterwards, behind the checks of both volumes
unfoldable pub rest_out : ℕ → List ℕ → List ℕ → List ℕ → List ℕ
unfolding join_rest
rest_out h v w out = laid (join_rest h v w (length out)) (volume_of (lists_of_both h v w)) out
