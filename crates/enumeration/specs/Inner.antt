-- What serves contracts inside the crate only.
--     Attempts    where the variables of a pattern stand on the way to its next match
--     Walking     the same of the structs that the search goes by
pub mod Attempts
pub mod Walking
