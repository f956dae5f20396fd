-- What a reader has to believe of a flat part of a row.
pub mod Flat
pub mod Inner
