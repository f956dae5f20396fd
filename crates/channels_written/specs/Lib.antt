-- What a reader has to believe of a channel as it is written.
pub mod Channel
pub mod Inner
