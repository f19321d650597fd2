-- Reading a typed line as the rows of a plan, in reading order.
--     Answers     the number and the values of each answer
--     Refusals    the refusals as relations
--     Read        the answer, and the lent words afterwards
--     Demands     the statements that the crate is held to
--     Inner       what serves contracts inside the crate only
pub mod Answers
pub mod Refusals
pub mod Read
pub mod Demands
pub mod Inner
