-- What the inspector is handed: sentences over the definitions that the calls promise.
pub mod Longest
pub mod Least
pub mod Numbered
pub mod Cut
pub mod Back
pub mod Twice
pub mod Alone
pub mod Lent
pub mod Skies
pub mod Shown
pub mod Radiance
pub mod RadianceZero
