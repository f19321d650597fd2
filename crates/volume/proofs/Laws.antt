-- The laws of `specs/`. No contract cites these files.
--     Stream                      where words stand
--     Check                       the rungs of the verdict, what its tests decide, and what acceptance gives
--     Pass                        what the pass over the blocks answers
--     Truth, Index                a bool as a number; an index below an end, back from the answer
--     Starts                      the starts of the lists, list by list
--     Read                        the rungs of reading a list
--     Write, WriteAnswer          the bytes of words and blocks; the writer's answer
--     Falls, Storing              what `src/order.rt` and `src/writing.rt` keep from turn to turn
--     CheckFirst, ReadFirst, WriteFirst     each call answers the first refusal that applies
--     Blocks, Rebuild             what is read from the blocks of a stream; bytes in order are the blocks of their own stream
--     Lists, Volume, Within       lists cut from counts and postings; round trip and rebuilding; the limits
--     Reader, Writer              the two calls in the terms of lists
--     Damage, Answers, Sample     one changed byte; an answer is known from its number and values; document 01's sample
pub mod Stream
pub mod Check
pub mod Pass
pub mod Truth
pub mod Index
pub mod Starts
pub mod Read
pub mod Write
pub mod WriteAnswer
pub mod Falls
pub mod Storing
pub mod CheckFirst
pub mod ReadFirst
pub mod WriteFirst
mod Blocks
mod Rebuild
pub mod Lists
pub mod Volume
pub mod Within
pub mod Reader
pub mod Writer
pub mod Damage
pub mod Answers
pub mod Sample
