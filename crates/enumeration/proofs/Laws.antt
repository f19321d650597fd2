-- The laws of `specs/`. No contract cites these files.
--     Attempts        how a pattern's variables are brought to bounds, and its least match from there on
--     Carries         the bounds that are tried one behind another until the next match is found
--     Placing         a cursor for each variable of a pattern, in front of a document
--     Writing         how matches are written one behind another
--     Enumerating     the answers of the call, by what is asked
--     Pages           what a page says, by the number of matches that fit
--     Matches         the matches of a pattern of an accepted plan, from a tuple on
--     Calls           one call of an enumeration: the ways in which it may go
--     Enumeration     every enumeration, whole
--     Answers         an answer is known from its number and values; the eight words beside it
--     Stages          the refusals of the call, by their numbers
--     MatchesFirst    the call answers the first refusal that applies
pub mod Attempts
pub mod Carries
pub mod Placing
pub mod Writing
pub mod Enumerating
pub mod Pages
pub mod Matches
pub mod Calls
pub mod Enumeration
pub mod Answers
pub mod Stages
pub mod MatchesFirst
