-- What the program prints, in reading order.
--     Text       numbers in base ten, and lines of words with one space between them
--     Printed    what is printed of a volume file and a plan file
--     Turns      what is printed turn by turn
--     Cases      the starred cases of document 01, one table
--     Demands    the statements that the program is held to
--     Inner      what the contracts inside the crate cite
pub mod Text
pub mod Printed
pub mod Turns
pub mod Cases
pub mod Demands
pub mod Inner
