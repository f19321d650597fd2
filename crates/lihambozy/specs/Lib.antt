-- What the C functions answer, and what holds of searches and enumerations made with them, in reading order.
--     Flat           the answers of the calls as structs of words
--     Search         a search as a list of calls of `lhz_list`, and what holds of every one
--     Enumeration    an enumeration as a list of calls of `lhz_list_matches`, and what holds of every one
--     Evening        a plan over two volumes, and over one in which they are joined
--     Demands        the statements that the crate is held to
pub mod Flat
pub mod Search
pub mod Enumeration
pub mod Evening
pub mod Demands
