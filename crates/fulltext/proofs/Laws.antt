-- The laws of `specs/`. No contract cites these files.
--     Positions    the positions of a document in a list, and membership
--     Paragraphs   the start of a position's paragraph
--     Needs        what each predicate says and needs
--     Least        the first match of a pattern is its least match
--     Order        the order of tuples
--     Ascending    lists of tuples in order
--     Enumeration  the matches of a pattern from a tuple on
--     Calculus     the tests that compute and the calculus agree
--     Skips        documents in which nothing is found
--     Counts       the words of a row, and the postings of a stretch of documents
--     Docs         the true documents of a stretch, and their rows
--     Same         what a plan says of a document depends on the positions in it alone
pub mod Positions
pub mod Paragraphs
pub mod Needs
pub mod Least
pub mod Order
pub mod Ascending
pub mod Enumeration
pub mod Calculus
pub mod Skips
pub mod Counts
pub mod Docs
pub mod Same
