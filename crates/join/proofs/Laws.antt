-- The laws of `specs/`. No contract cites these files.
--     Joined         the joined lists: their lengths, and where their postings stand
--     Stream         the words of the joined stream, by where they come from
--     Made           words of a block that are made one behind the other
--     Reading        how they are made, run by run
--     Blocks         and block by block
--     Docs           the documents of some postings, and refusal 25
--     Limits         the joined lists pass the writer's tests
--     JoinFirst      the call answers the first refusal that applies
--     Joins          what it lays is accepted, and reads as the joined lists
--     Answers        an answer is known from its number, its values and the volume told
--     Lifts          raising a posting by documents is adding one number to it
--     Calls          each way out of joining
pub mod Joined
pub mod Stream
pub mod Made
pub mod Reading
pub mod Blocks
pub mod Docs
pub mod Limits
pub mod JoinFirst
pub mod Joins
pub mod Answers
pub mod Lifts
pub mod Calls
