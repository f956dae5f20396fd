-- Where each stored pixel lies in the picture (RULES 3.14), and that all eight orientations are rearrangements.
pub mod Places
pub mod Eight
pub mod Inner
