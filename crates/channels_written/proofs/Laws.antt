-- The laws of the definitions in `specs/`: a channel, its cut, its places, and the scan.
pub mod Channel
pub mod Cut
pub mod Places
pub mod Gather
pub mod Front
pub mod OneRun
pub mod Part
