-- The laws of `specs/`. No contract cites these files.
--     Pages          what a page says, by the number of rows that fit
--     Loop           a loop that lists documents row by row
--     Listing        the answers of the listing call, by what is asked
--     Calls          one call of a search: the ways in which it may go
--     Search, Whole  every search; demand 3 from its parts
--     Answers        an answer is known from its number and values
--     Stages         the refusals of listing, by their numbers
--     ListFirst      listing answers the first refusal that applies
--     Setup          the lists that a plan uses, and a cursor on each
--     Align          how the cursors of a pattern leap to one document
--     Walk           how each pattern is brought to the next document in which it can be found
--     Lent           a buffer of which a part is lent, and comes back
--     Orders         an order of each pattern's variables, set pattern by pattern
--     Settled        a pattern that stands in a document, and is settled there
--     Settling       the patterns that can be found in a document, settled one by one
--     Rows           a row that is written from bits and positions
--     Seen           one document of the walk
--     Tally          the postings passed, variable by variable
--     Visits         the listing loop, document by document
mod Pages
pub mod Loop
pub mod Listing
pub mod Calls
pub mod Search
pub mod Whole
pub mod Answers
pub mod ListFirst
pub mod Setup
pub mod Align
pub mod Walk
pub mod Lent
pub mod Orders
pub mod Settled
pub mod Settling
pub mod Rows
pub mod Tally
pub mod Seen
pub mod Visits
pub mod Stages
