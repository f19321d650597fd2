-- The laws of `specs/`. No contract cites these files.
--     WriteFirst    writing answers the first refusal that applies
--     There         a plan's line gives the plan again
--     Answers       an answer is known from its number and values
--     Bytes         text that is written from its end, piece by piece
--     Patterns      the text of a pattern, from its rows
--     Trees         the text of a tree, from its rows
--     Thresholds    the text of an AT LEAST, from its rows
--     Writer        the line of an accepted plan
pub mod WriteFirst
pub mod There
pub mod Answers
pub mod Bytes
pub mod Patterns
pub mod Trees
pub mod Thresholds
pub mod Writer
