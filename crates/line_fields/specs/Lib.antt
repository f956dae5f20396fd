-- How a line is written.
pub mod Fields
