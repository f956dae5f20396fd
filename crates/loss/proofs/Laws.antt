-- What is claimed of a pixel: `Values` and `Apart` (reading), `Written`, `Dark` and `Last` (writing), `Kept` and `ByDocument` (loss), `Twice` (saving twice), and `Sharp`, that no bound in these is loose.
pub mod Scales
pub mod Values
pub mod Apart
pub mod Written
pub mod Dark
pub mod Last
pub mod Kept
pub mod ByDocument
pub mod Twice
pub mod Sharp
