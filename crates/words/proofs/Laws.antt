-- The laws of the definitions in `specs/`, a file for each of its files; and of bytes behind those that are taken.
pub mod Lines
pub mod Axes
pub mod Fields
pub mod Sizes
pub mod Rest
