-- The words of a header: RULES 3.1 to 3.6.
pub mod Lines
pub mod Fields
pub mod Axes
pub mod Sizes
pub mod Inner
