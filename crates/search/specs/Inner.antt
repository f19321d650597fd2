-- Vocabulary of the contracts inside the crate; no promise of a public call needs it.
--     Setup    the lists that a plan uses, and an order of each pattern's variables
--     Walk     where the cursors of a pattern stand, one document of the walk, and what is known of the documents passed
--     Rows     the row of a document, from bits and positions
pub mod Setup
pub mod Walk
pub mod Rows
