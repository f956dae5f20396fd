-- The laws of the definitions in `specs/`, a file for each of its files; what the search for refusal 12 passes over, and rows and the line between them.
pub mod Samples
pub mod Near
pub mod Rows
pub mod Line
pub mod Frame
