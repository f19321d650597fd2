-- What a volume is and what the calls on it answer, in reading order.
--     Posting     a document and a position as one number
--     Layout      blocks, the stream of words, the counts and the lists of a volume
--     Answers     document 01's number and values for each answer
--     Check       the verdict on a volume: its tests, and the first that fails
--     Read        reading a list
--     Write       the volume of given lists, and the writer
--     Refusals    document 01's refusals as relations, one line for each number
--     Demands     the statements that the crate is held to
--     Inner       for contracts inside the crate and those of functions that ask for an accepted volume: no call's promise cites it
pub mod Posting
pub mod Layout
pub mod Answers
pub mod Check
pub mod Read
pub mod Write
pub mod Refusals
pub mod Demands
pub mod Inner
