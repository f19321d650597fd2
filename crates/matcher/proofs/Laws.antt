-- The laws of `specs/`. No contract cites these files.
--     Volume        the lists of an accepted volume as stretches of its stream
--     Cursors       where cursors stand, and how they move
--     Blocks        the words of a block, and a search among them
--     Paragraphs    the first start of a document, and the start that SAME TITLE needs
--     Starts        the start of a position's paragraph and the first start, by a cursor on list 0
--     Shortfall     what each predicate tells of the positions
--     Placed        the list of each variable of a plan, and a cursor for each
--     Rarest        the order of a pattern's variables, rarest first
--     Settling      how a pattern's variables come to its least match
--     Tried         the search for it, predicate by predicate
--     Range         refusal 17, test by test
--     Testing       what testing positions finds
--     TestFirst     testing answers the first refusal that applies
--     Tests         testing and the calculus
--     Stages        the refusals of testing, by their numbers
--     Answers       an answer is known from its number and values
pub mod Volume
pub mod Cursors
pub mod Blocks
pub mod Paragraphs
pub mod Starts
pub mod Shortfall
pub mod Placed
pub mod Rarest
pub mod Settling
pub mod Tried
pub mod Range
pub mod Testing
pub mod TestFirst
pub mod Tests
pub mod Stages
pub mod Answers
