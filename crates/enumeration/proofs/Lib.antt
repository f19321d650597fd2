-- `Demands` proves the statements of `specs/Demands.antt`, each in a line; `Laws` has the laws of `specs/`.
mod Demands
pub mod Laws
