-- `Demands` proves the statements of `specs/Demands.antt`, each in a line or two; `Laws` has the laws of `specs/`.
pub mod Demands
pub mod Laws
