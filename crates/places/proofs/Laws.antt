-- The laws of the definitions in `specs/`.
pub mod Places
pub mod Eight
