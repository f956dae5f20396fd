-- The laws of the definitions in `specs/`.
pub mod Rounded
pub mod Product
pub mod Nearest
pub mod Exposure
pub mod Said
pub mod Lines
pub mod Usable
