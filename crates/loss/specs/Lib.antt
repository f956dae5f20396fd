-- What is claimed of one pixel, read and written: RULES 4.14, 5.1, 8.4 and 8.5.
pub mod Document
pub mod Apart
pub mod Written
pub mod Dark
pub mod Kept
pub mod Twice
