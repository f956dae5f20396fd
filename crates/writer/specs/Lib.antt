-- The whole writer: RULES 2.5, 5.6, 6.2 and 7.
pub mod Write
pub mod Inner
