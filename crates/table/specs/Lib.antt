-- A field of a table that is a number.
pub mod Table
