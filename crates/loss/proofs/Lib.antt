-- `Laws` has the theorems over the definitions in `specs/`.
pub mod Laws
