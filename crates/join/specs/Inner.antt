-- Vocabulary of the contracts inside the crate.
--     Docs       the documents of some postings, for `src/docs.rt`
--     Reading    how the joined stream is made from the two volumes, for `src/reading.rt` and `src/joining.rt`
--     Joining    the output behind the checks of both volumes, for `src/joining.rt`
pub mod Docs
pub mod Reading
pub mod Joining
