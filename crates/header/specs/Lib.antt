-- The header (RULES 3): what reading it answers, and the header as it is written.
pub mod Head
pub mod Inner
pub mod Written
