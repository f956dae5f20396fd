-- The light of one pixel.
pub mod Light
