-- `Laws` has what the proofs of several functions use.
pub mod Laws
