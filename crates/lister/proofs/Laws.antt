-- The laws of `specs/`. No contract cites these files.
--     Stored     what is stored piece by piece
--     Text       lines
--     Decimal    numbers in base ten
--     Lengths    how long text can be
--     Files      the words of a plan file
--     Pages      the turns of the program
--     Whole      all turns print the whole
--     Cases      the starred cases
pub mod Stored
pub mod Text
pub mod Decimal
pub mod Lengths
pub mod Files
pub mod Pages
pub mod Whole
pub mod Cases
