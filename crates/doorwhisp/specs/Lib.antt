-- What a program in C or Rust gets from each call.
pub mod Pixels
pub mod Calls
