-- A channel as it is written, read; a row; a header.
pub mod Coded
pub mod Channel
pub mod Weave
pub mod Row
pub mod Header
