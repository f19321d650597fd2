-- `checksum::second_half` meets its contract: an array of 256 bytes has 252 in front of its last four. Assumes nothing.
use native.Mathlib.Omega.{arith}
use borrow.Author.Rules.{rules}
use mathlib.Core.Path.{◌≡◌, sym}
use lib.ListN.{length}
use lib.Seq.{length-take-le}
use Rattle.block.proofs.checksum.second_half.Goals as goal

pub slice_bounds-second_sums-end : goal.slice_bounds-second_sums-end
slice_bounds-second_sums-end c =
    let all : length c.args.half.now ≡ 256 = search rules in
    sym (length-take-le 252 c.args.half.now (omega arith))

pub second_sums-requires : goal.second_sums-requires
second_sums-requires c =
    let all : length c.args.half.now ≡ 256 = search rules in
    length-take-le 252 c.args.half.now (omega arith)
