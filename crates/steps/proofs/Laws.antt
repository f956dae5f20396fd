-- The laws of the definitions in `specs/`, a file for each of its files.
pub mod Loop
pub mod Place
pub mod Turns
pub mod Machines
pub mod Width
pub mod Order
pub mod Taken
pub mod Refusal
pub mod Answer
pub mod Numbered
pub mod Amount
