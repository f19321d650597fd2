-- The laws of the crate, and the statements that it is held to.
mod Laws
mod Demands
