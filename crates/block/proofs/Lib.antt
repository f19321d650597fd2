-- `Demands` proves the statement of `specs/Demands.antt`; `Laws` has the laws of `specs/`.
mod Demands
pub mod Laws
