-- What serves contracts inside the engine only.
--     State      a bound on the numbers of a state
--     Outline    where each pattern of a plan lies
--     Stack      a plan's answers as the bits of a number
pub mod State
pub mod Outline
pub mod Stack
