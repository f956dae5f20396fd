-- The laws of the definitions in `specs/`, a file for each of its files; of bytes stored to every fourth place; and worked examples.
pub mod Channel
pub mod Counts
pub mod Channels
pub mod Fourth
pub mod Examples
