-- `Laws` has the laws of `specs/`, one file for each of its files, for the proofs of every crate.
pub mod Laws
