-- Document 01's sample volume, computed. No contract cites this file. Assumes nothing.
use mathlib.Core.Path.{refl}
use Rattle.seq.specs.Lists.{above, rises, joined}
use Rattle.seq.specs.Numbers.{first_from, run, sum_to}
use Rattle.block.specs.Checksum.{sum_a, sum_b}
use Rattle.volume.specs.Layout.{offset, word, lists_of}
use Rattle.volume.specs.Check.{length_wrong, number_wrong, checksum_wrong, block_wrong, blocks_wrong, version_wrong, list_count_wrong, extent_wrong, order_wrong, lists_wrong, padding_wrong, tail_wrong, stream_verdict, verdict}
use Rattle.volume.specs.Write.{word_bytes, block_body, sealed, blocks_from, written, volume_of}
use Rattle.volume.specs.Demands.{Sample}

pub sample : Sample
unfolding
    above rises joined first_from run sum_to sum_a sum_b offset word lists_of
    length_wrong number_wrong checksum_wrong block_wrong blocks_wrong version_wrong list_count_wrong extent_wrong order_wrong lists_wrong padding_wrong tail_wrong stream_verdict verdict
    word_bytes block_body sealed blocks_from written volume_of
sample = record { checks = refl; reads = refl }
