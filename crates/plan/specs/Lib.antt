-- What a plan is and what the calls on it answer, in reading order.
--     Limits      the limits of a plan, and the words of a row of a listing
--     Rows        the rows of a plan, and the kinds that they are read as
--     State       the reading of a plan, row by row
--     Patterns    what a plan means: its patterns, and its answer by a stack
--     Answers     document 01's number and values for each answer
--     Check       the verdict on a plan: its tests, and the first that applies
--     Parts       where the rows of each pattern lie
--     Counts      the same state, by counting rows
--     Refusals    document 01's refusals as relations, one line for each number
--     Accepted    what acceptance gives
--     Demands     the statements that the crate is held to
--     Inner       what serves contracts inside the engine only
pub mod Limits
pub mod Rows
pub mod State
pub mod Patterns
pub mod Answers
pub mod Check
pub mod Parts
pub mod Counts
pub mod Refusals
pub mod Accepted
pub mod Demands
pub mod Inner
