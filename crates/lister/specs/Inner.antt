-- What the contracts inside the crate cite.
--     Stored    what is stored in a lent buffer
--     Pages     what a turn gives
--     Files     what a read gives
pub mod Stored
pub mod Pages
pub mod Files
