-- The laws of `specs/`, of tests, and of lent buffers. No contract cites these files.
--     Tests      what a test's value tells
--     Decides    a test decides a fact
--     Lists      total, joined and lists that rise
--     Totals     sums over a list
--     Keep       the elements that pass a test
--     Members    elements, and facts of each, by recursion
--     Numbers    first_from, run and sum_to
--     Decimal    numbers in base ten
--     Runs       runs, sums and searches of lists
--     Slices     parts of lists, as runs of their values
--     Rising     lists and runs that rise
--     Stores     a buffer that is written from the front
--     Refusals   a ladder of tests answers the first refusal that applies
--     Ladder     the rungs of such a ladder, stage by stage
--     Stages     a call over another: its refusals come behind
--     Pages      what is written of a list
--     Calls      calls one after another, and the one that closes
pub mod Tests
pub mod Decides
pub mod Lists
pub mod Totals
pub mod Keep
pub mod Members
pub mod Numbers
pub mod Decimal
pub mod Runs
pub mod Slices
pub mod Rising
pub mod Stores
pub mod Refusals
pub mod Ladder
pub mod Stages
pub mod Pages
pub mod Calls
