-- For the contracts inside the crate.
--     Sums    the sums of bytes by columns of eight, for `src/rows.rt`
pub mod Sums
