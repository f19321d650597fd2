-- The laws of `specs/`. No contract cites these files.
--     Cases       examples, computed
--     Text        numbers as a line has them
--     Limits      how many numbers a condition has, and how large
--     Query       rows and trees: what a line says, and the line of a tree
--     Words       the words of rows, and their truth
--     Reading     what has been read is what the text says
--     Viable      whatever has been read, some line begins with it
--     Steps       the text of a line is read whole
--     Outcome     how a reading ends; a text has one tree
--     Balance     brackets open and closed along a reading
--     Brackets    the brackets of a line are those of its text
--     Spare       dropping a pair of brackets
--     Written     the tree of an accepted plan
--     Bounds      the line of an accepted plan keeps to the limits
pub mod Cases
pub mod Text
pub mod Limits
pub mod Query
pub mod Words
pub mod Reading
pub mod Viable
pub mod Steps
pub mod Outcome
pub mod Balance
pub mod Brackets
pub mod Spare
pub mod Written
pub mod Bounds
