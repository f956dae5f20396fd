-- The laws that lead to the code: from numbers, units and bit patterns to the scales, the rounding, the limits and the bytes.
pub mod Numbers
pub mod Units
pub mod Patterns
pub mod Samples
pub mod Order
pub mod Scales
pub mod Digits
pub mod Scaling
pub mod Sums
pub mod Nearby
pub mod Rounding
pub mod Limits
pub mod Bytes
pub mod Words
