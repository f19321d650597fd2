-- `blocks::check_blocks` meets its contract. The loop's invariant: the lowest block that is wrong from block k on is the lowest of all, and
-- `falls` is the number of falls in front of block k. Assumes nothing.
use Prim.Native.Nat.{◌*◌, ◌/◌, ◌-◌, ◌≤◌}
use mathlib.Core.Path.{◌≡◌}
use lib.ListN.{length}
use Rattle.seq.specs.Numbers.{first_from}
use Rattle.volume.specs.Check.{block_wrong, bad_block}
use Rattle.volume.specs.Inner.Falls.{falls_before}
use Rattle.volume.proofs.blocks.check_blocks.Given as goal

abbrev pub invariant-loop-k : goal.invariant-loop-k
invariant-loop-k l = record {
  few : l.falls ≤ 126 * l.k;
  counted : l.falls ≡ falls_before l.whole.bytes.now (126 * l.k);
  search : first_from (block_wrong l.whole.bytes.now) l.k (length l.whole.bytes.now / 512 - l.k) ≡ bad_block l.whole.bytes.now;
}
