-- Typed lines (02, N5 and N9), in reading order.
--     Text        numbers as a line has them
--     Grammar     lines as data, and their text
--     Meaning     the rows of a line, and its truth, read on its own
--     Brackets    brackets: how deep, how many, and a line without one pair of round ones
--     Query       a plan as a tree, and the line of a plan
--     Reading     a text read byte by byte: what has been read so far, and the next byte
--     Words       the words of the rows that a text says
--     Demands     the statements that the crate is held to
pub mod Text
pub mod Grammar
pub mod Meaning
pub mod Brackets
pub mod Query
pub mod Reading
pub mod Words
pub mod Demands
