-- Every match of a pattern in one document, in reading order. What a match is, and the order of tuples, is in `fulltext`.
--     Answers         document 01's number and values for each answer, and the words beside it
--     Enumerating     the call: its answer, and the lent words afterwards
--     Refusals        document 01's refusals of the call as a relation
--     Enumeration     a whole enumeration as a list of calls, and what holds of every one
--     Demands         the statements that the crate is held to
--     Inner           vocabulary of the contracts inside the crate
pub mod Answers
pub mod Enumerating
pub mod Refusals
pub mod Enumeration
pub mod Demands
pub mod Inner
