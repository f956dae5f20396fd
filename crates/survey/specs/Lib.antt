-- What is asked of a row's pixels: the totals of many, and how many lie in each power of two.
pub mod Survey
pub mod Stops
