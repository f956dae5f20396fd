-- The laws of the definitions in `specs/`, a file for each of its files; and of bytes behind a header.
pub mod Head
pub mod Written
pub mod Rest
