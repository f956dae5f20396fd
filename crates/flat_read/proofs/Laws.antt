-- The laws of the definitions in `specs/`.
pub mod Flat
pub mod Document
pub mod Pixels
pub mod Stored
