-- `Demands` proves the statements of `specs/Demands.antt`; `Laws` has the laws of `specs/`.
mod Demands
mod Laws
