-- What serves contracts inside the crate only.
--     Writing    text that is written from its end
--     Trees      trees that are written so
pub mod Writing
pub mod Trees
