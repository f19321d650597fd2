-- Writing a plan as a typed line, in reading order.
--     Answers     the number and the values of each answer
--     Refusals    the refusals as a relation
--     Write       the answer, and the lent bytes afterwards
--     Demands     the statements that the crate is held to
--     Inner       what serves contracts inside the crate only
pub mod Answers
pub mod Refusals
pub mod Write
pub mod Demands
pub mod Inner
