-- The laws of `specs/`. No contract cites these files.
--     Kinds                the table of `src/kinds.rt` follows its rule
--     Rows                 four words and the row that they are read as; the words of a plan and of its parts
--     State                the reading of a plan, row by row
--     Counts               the same, by counting rows
--     Passed               a plan that passes every test
--     Check                the rungs of the verdict, and what its tests decide
--     Patterns, Given      what a plan that passes every test gives
--     Spans                the first row of a sort
--     Reading, Walk, Parts     the rows that say a pattern, the walk over them, and where they lie
--     Shown                what showing a pattern answers
--     CheckFirst           checking answers the first refusal that applies
--     Stages               the refusals by their numbers
--     ShownFirst           a part is empty exactly if a refusal applies; the parts and the plan
--     Accepted             what acceptance gives
--     Outline              the rows and the variables of each pattern
--     Operators            what AT LEAST answers
--     Stack                the answers as bits, row by row
--     Answers              an answer is known from its number and values
pub mod Kinds
pub mod Rows
pub mod State
mod Counts
pub mod Passed
pub mod Check
pub mod Patterns
pub mod Given
pub mod Spans
mod Reading
mod Walk
mod Parts
pub mod Shown
pub mod CheckFirst
pub mod Stages
pub mod ShownFirst
pub mod Accepted
pub mod Outline
pub mod Operators
pub mod Stack
pub mod Answers
