-- By the Radiance document every pixel that is not written black, however dark or bright, can be read from its bytes to half a step, whatever its samples are.
use Prim.Native.Nat.{ℕ, ◌^◌, ◌<◌}
use Rattle.steps.specs.declared.Reading.TheVariants.{Document}
use Rattle.pixel.specs.declared.Pixel.{Pixel}
use Rattle.pixel.specs.Rgbe.{doc_units, pixel_of, peak, dark, bytes_of}
use Rattle.loss.specs.Kept.{Lies, near_of, KeptAll}
use Rattle.loss.proofs.Laws.Kept.{kept_at_digits}

pub kept_by_document : (p : Pixel) → dark < peak p → peak p < 2 ^ 276 → (n : ℕ) → Lies p n → KeptAll (near_of Document n) p (pixel_of doc_units (bytes_of p))
kept_by_document p l h n lies = kept_at_digits Document p l h n lies tt
