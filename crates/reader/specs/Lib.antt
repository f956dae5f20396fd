-- The whole reader: its checks (RULES 2.4), the rows of a frame and lent memory (RULES 4.1, 4.15 and 6).
pub mod Samples
pub mod Frame
pub mod Read
pub mod Inner
