-- The laws of `specs/`. No contract cites these files.
--     Refusals     what 21 and 22 mean, and how a reading ends
--     ReadFirst    reading answers the first refusal that applies
--     Whole        reading a line as a whole
--     Answers      an answer is known from its number and values
--     States       the states in which a pattern is read
--     Figure       a law for each way through the reader of a pattern
--     Reads        a law for each way through the readers of items, parts and lines
--     Several      a law for each way through the readers of several lines
--     Call         a law for each way through the call that reads a line
pub mod Refusals
pub mod ReadFirst
pub mod Whole
pub mod Answers
pub mod States
pub mod Figure
pub mod Reads
pub mod Several
pub mod Call
