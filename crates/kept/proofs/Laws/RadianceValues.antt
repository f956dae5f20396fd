-- What four bytes are worth: the document reading shows what Ward's reader does, and the crate's sample is half a step below it exactly from 97 to 159; at E = 0 both are 0.
use mathlib.Core.Path.{◌≡◌}
use mathlib.Core.Logic.{⊎_elim}
use Prim.Native.Nat.{ℕ, ◌+◌, ◌<◌}
use native.Mathlib.Nat.{mul-zero}
use native.Mathlib.Omega.{arith}
use borrow.Author.Tests.{eq-eqb, ne_eqb}
use Rattle.steps.proofs.Laws.Order.{lt_or_ge}
use Rattle.pixel.specs.Units.{of_units, mag}
use Rattle.pixel.specs.Rgbe.{scale_of, units_of, crate_units, doc_units}
use Rattle.loss.specs.Document.{half, Alike}
use Rattle.loss.proofs.Laws.Values.{values_agree, values_differ, floats_agree, floats_differ}
use Rattle.kept.specs.Radiance.{middle_units}

-- for a mantissa above 0 the crate's sample is half a step below exactly at these exponent bytes, as whole numbers and as f32s
pub values_exactly : (m e : ℕ) → 0 < m → (Alike e → crate_units m e + half e ≡ doc_units m e) × ((Alike e → ⊥) → crate_units m e + half e ≡ doc_units m e → ⊥)
values_exactly m e h = (values_agree m e, values_differ m e h)

pub floats_exactly : (m e : ℕ) → 0 < m → m < 256 → e < 256
    → (Alike e → mag (of_units (crate_units m e)) + half e ≡ mag (of_units (doc_units m e))) × ((Alike e → ⊥) → mag (of_units (crate_units m e)) + half e ≡ mag (of_units (doc_units m e)) → ⊥)
floats_exactly m e h k l = (floats_agree m e k l, floats_differ m e h k l)

-- ---- Ward's reader

pub middle_is : (m e : ℕ) → doc_units m e ≡ middle_units m e
unfolding middle_units units_of scale_of
middle_is m e =
    ⊎_elim
    (λ h. simp (ne_eqb e 0 (λ z. omega arith)))
    (λ h. simp (eq-eqb e 0 (omega arith), mul-zero))
    (lt_or_ge 0 e)
