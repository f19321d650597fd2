-- What the calls answer and what holds of every search, in reading order. What a search finds is in `fulltext`, testing positions in
-- `matcher`.
--     Answers      document 01's number and values for each answer
--     Listing      the listing call
--     Refusals     document 01's refusals as relations, one line for each number
--     Search       a search as a list of calls, and what holds of every one
--     Demands      the statements that the crate is held to
--     Inner        vocabulary of the contracts inside the crate
pub mod Answers
pub mod Listing
pub mod Refusals
pub mod Search
pub mod Demands
pub mod Inner
