-- What a plan finds, in reading order.
--     Positions    what a list of postings holds of a document
--     Calculus     the calculus of documents 000 and 004, and the formula of a pattern and of a plan
--     Paragraphs   the start of a position's paragraph, and two positions in one
--     Matches      the tuples of positions that match a pattern in a document, and the least of them
--     Order        the order of tuples, and the matches of a pattern from a tuple on
--     Documents    which documents are true of a plan, and their rows
--     Demands      the statements that the crate is held to
--     Inner        what serves contracts inside the engine only
pub mod Positions
pub mod Calculus
pub mod Paragraphs
pub mod Matches
pub mod Order
pub mod Documents
pub mod Demands
pub mod Inner
