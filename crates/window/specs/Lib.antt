-- What a part of a file says of its header and of its rows.
pub mod Row
pub mod Header
