-- What a reader has to believe of the channels of a row.
pub mod Channel
pub mod Channels
pub mod Inner
