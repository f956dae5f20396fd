-- A whole number over a power of two, in decimal, and the first digits of a large one.
pub mod Decimal
pub mod Leading
pub mod Inner
