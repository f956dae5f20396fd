-- The answer of any call as eight numbers.
pub mod Numbers
