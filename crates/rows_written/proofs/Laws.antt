-- The laws of the definitions in `specs/`: a row, the stores, and the worst row.
pub mod Row
pub mod Worst
pub mod Store
