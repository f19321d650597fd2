-- The laws of `specs/`. No contract cites these files.
--     Heard      a struct tells the answer that it was made from
--     Search     every search by the C functions, from the theorem of the crate `search`
--     Typed      every search by a typed line
--     Matches    the answer of writing matches as a struct, and every enumeration by the C functions
--     Raised     raised postings, and a list with raised postings behind it
--     Parted     two volumes that can be joined: a document parts their postings
--     Evening    a plan over two volumes, and over one in which they are joined
mod Heard
pub mod Search
pub mod Typed
pub mod Matches
mod Raised
mod Parted
pub mod Evening
