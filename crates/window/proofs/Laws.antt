-- The laws of the definitions in `specs/`, a file for each of its files.
pub mod Row
pub mod Header
