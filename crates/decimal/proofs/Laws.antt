-- The laws of the definitions in `specs/`, a file for each of its files.
pub mod Decimal
pub mod Leading
