-- The vocabulary that the definitions of every crate share.
pub mod Loop
pub mod Place
pub mod Width
pub mod Refusal
pub mod Answer
pub mod Numbered
pub mod Amount
