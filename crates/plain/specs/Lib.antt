-- A name as a terminal may be given it.
pub mod Plain
