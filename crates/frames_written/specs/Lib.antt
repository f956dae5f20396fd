-- The file of a frame, of samples and of four-byte pixels.
pub mod Samples
pub mod Frame
pub mod Inner
