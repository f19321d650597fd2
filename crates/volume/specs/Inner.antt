-- For contracts inside the crate, and for those of the functions with a `requires` that the crates above call.
--     Places    whole blocks, and where a list lies
--     Falls     the falls of the stream, for `src/order.rt`
--     Below     how many words of the stream are below a number, for `stream::below_in_window` and `stream::below_across`
--     Storing   what is stored of a block and of the blocks, for `src/writing.rt`
pub mod Places
pub mod Falls
pub mod Below
pub mod Storing
