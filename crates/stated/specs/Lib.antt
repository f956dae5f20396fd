-- What the lines of a header say (RULES 3.9 to 3.13): fractions rounded once, the number of an EXPOSURE line, and all lines together.
pub mod Rounded
pub mod Exposure
pub mod Said
pub mod Inner
