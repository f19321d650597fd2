-- What bytes say, in reading order. `Inner` serves the contracts inside `src/`: no promise of the crate cites it.
--     Bytes       little-endian numbers
--     Checksum    the two running sums of a block
--     Parts       the same two from the sums of a block's parts, its halves among them
--     Demands     the statement that the crate is held to
pub mod Bytes
pub mod Checksum
pub mod Parts
pub mod Demands
pub mod Inner
