-- What a reader has to believe of a row as it is written.
pub mod Row
pub mod Inner
