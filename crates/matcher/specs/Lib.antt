-- Testing positions of a pattern in one document, in reading order.
--     Answers     document 01's number and values for each answer
--     Testing     the answer to testing positions
--     Refusals    document 01's refusals of testing as relations
--     Demands     the statements that the crate is held to
--     Inner       what serves contracts inside the engine only
pub mod Answers
pub mod Testing
pub mod Refusals
pub mod Demands
pub mod Inner
