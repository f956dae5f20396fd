-- Rows read (RULES 4): one row of the input into the row store, that row in the middle of bytes, and the cut that the crate reading does not refuse.
pub mod Row
pub mod Middle
pub mod Cut
