-- The laws of the definitions in `specs/`.
pub mod Digits
pub mod Hex
