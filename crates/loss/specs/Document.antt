-- Where the two readings of a sample agree.
use Rattle.std.specs.Prelude.{◌≡◌, ◌⊎◌, ℕ, ◌*◌, ◌≤◌}
use Rattle.steps.specs.declared.Reading.TheVariants.{Document}
use Rattle.pixel.specs.Rgbe.{scale_of}

-- half a step at the exponent byte e, 2^(E-137); 0 where E is 0
abbrev pub half : ℕ → ℕ
half = scale_of Document

-- the lower edge of the step whose middle is the document's value: 2m half steps
abbrev pub edge : ℕ → ℕ → ℕ
edge m e = 2 * m * half e

-- RULES 4.14: the exponent bytes at which the crate's sample is the lower edge, half a step below the document's value: 97 to 159, and 0, where both are 0
abbrev pub Alike : ℕ → Type 0
Alike e = (e ≡ 0) ⊎ ((97 ≤ e) × (e ≤ 159))
