-- The laws of `specs/`. No contract cites these files.
--     Bytes       numbers and their bytes
--     Checksum    the two sums, reduced late
--     Parts       the two sums from parts, in any order
--     Sums        what `src/rows.rt` keeps from turn to turn
--     Halves      the sums of a block's halves, from their rows
pub mod Bytes
pub mod Checksum
pub mod Parts
pub mod Sums
pub mod Halves
