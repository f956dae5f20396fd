-- The laws of the definitions in `specs/`, and what an answer tells.
pub mod Write
pub mod Told
