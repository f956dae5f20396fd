-- The laws of the definitions in `specs/`; `Kept` and `Alike` hold what the others share, `AloneChannels` and `AloneFlat` what `Behind` rests on; `Bounds`, `Faults`, `Behind` and `Before` what a caller uses, `Cut` what is read where bytes end too early and nothing is refused, `Whole` that there is no other such row.
pub mod Kept
pub mod Row
pub mod Bounds
pub mod Faults
pub mod Cut
pub mod Alike
pub mod AloneChannels
pub mod AloneFlat
pub mod Behind
pub mod Before
pub mod Whole
