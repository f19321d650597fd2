-- What serves contracts inside the crate only.
--     States     the state in which a pattern is read
--     Store      rows stored in a lent buffer, each where it fits
--     Reads      what the readers of patterns, items, parts and lines answer
pub mod States
pub mod Store
pub mod Reads
