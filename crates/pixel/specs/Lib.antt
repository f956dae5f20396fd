-- Four bytes to three samples and back: RULES 4.13, 4.14 and 5.1.
pub mod Units
pub mod Rgbe
pub mod Inner
