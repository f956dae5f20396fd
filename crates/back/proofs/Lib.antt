-- `Laws` has the laws of what is read back.
pub mod Laws
