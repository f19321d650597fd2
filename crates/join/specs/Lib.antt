-- What joining two volumes answers, in reading order.
--     Joined      the lists of two volumes, joined
--     Answers     document 02's number and values for each answer
--     Join        the call: its answer, and the lent bytes afterwards
--     Refusals    document 02's refusals of the call as a relation
--     Demands     the statements that the crate is held to
--     Inner       vocabulary of the contracts inside the crate
pub mod Joined
pub mod Answers
pub mod Join
pub mod Refusals
pub mod Demands
pub mod Inner
