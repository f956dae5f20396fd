-- The bounds by which the program's sums and rows have room.
pub mod Room
