-- Values in hexadecimal, as a line ends with them.
pub mod Digits
pub mod Hex
