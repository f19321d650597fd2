-- The words that the definitions of every crate use, in reading order.
--     Lists      keep, all, any, total, joined, Permutation, elem, rises: lists, tests on them, and their order
--     Numbers    first_from, run, sum_to: a test's first index, a function's values as a list, and their sum
--     Decimal    decimal: numbers in base ten
--     Refusals   Said, laid, FirstRefusalOf, stage_in, FirstRefusal: what a call answers, what it leaves in a lent buffer, and which refusal
--                comes first
--     Pages      Portion, portion: what is written of a list of which only so many fit, and the first one left
--     Calls      Form, Call: calls with a lent buffer as they were made, and the form of their answers
pub mod Lists
pub mod Numbers
pub mod Decimal
pub mod Refusals
pub mod Pages
pub mod Calls
