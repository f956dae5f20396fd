-- What a mantissa is worth by each reading: where they agree, and in steps of the pixel.
use mathlib.Core.Path.{◌≡◌, sym, ap, ◌∙◌}
use mathlib.Core.Logic.{⊎_elim}
use Prim.Native.Nat.{ℕ, ◌+◌, ◌-◌, ◌*◌, ◌^◌, ◌≤◌, ◌<◌}
use native.Mathlib.Nat.{add-mul, mul_assoc, mul_comm, one-mul}
use native.Mathlib.Omega.{arith}
use lib.Pow.{pow-add}
use Rattle.steps.specs.declared.Reading.TheVariants.{Crate, Document}
use Rattle.steps.proofs.Laws.Order.{lt_or_ge}
use Rattle.pixel.specs.Rgbe.{crate_shift, doc_shift, scale_of, units_of, crate_units, doc_units}
use Rattle.pixel.proofs.Laws.Scales.{crate_high, crate_low, scale_at}
use Rattle.loss.specs.Document.{half, edge}
use Rattle.loss.specs.Kept.{step, half_step}

-- ---- two half steps are a step
pub doubled : (m t : ℕ) → m * (2 * t) ≡ 2 * m * t
doubled m t = sym (mul_assoc m 2 t) ∙ ap (λ (z : ℕ). z * t) (mul_comm m 2)

pub two_halves : (e : ℕ) → 0 < e → 2 * half e ≡ 2 ^ (1 + doc_shift e)
two_halves e h = ap (λ (z : ℕ). 2 * z) (scale_at Document e h) ∙ sym (pow-add 2 1 (doc_shift e))

pub step_halves : (N : ℕ) → 9 ≤ N → step N ≡ 2 * half_step N
step_halves N h =
    let one : N - 8 ≡ 1 + (N - 9) = omega arith in
    ap (λ (k : ℕ). 2 ^ k) one ∙ pow-add 2 1 (N - 9)

-- ---- a step of the crate is two half steps of the document from 97 to 159
shifts_meet : (e : ℕ) → 97 ≤ e → e ≤ 159 → crate_shift e ≡ 1 + doc_shift e
shifts_meet e h k = ⊎_elim (λ l. omega (arith, crate_high e l)) (λ l. omega (arith, crate_low e l)) (lt_or_ge 128 e)

pub scales_meet : (e : ℕ) → 97 ≤ e → e ≤ 159 → scale_of Crate e ≡ 2 * half e
scales_meet e h k =
    scale_at Crate e (omega arith) ∙ ap (λ (j : ℕ). 2 ^ j) (shifts_meet e h k) ∙ sym (two_halves e (omega arith))

-- ---- the lower edge is half a step below the document's value
pub halves : (m t : ℕ) → (2 * m + 1) * t ≡ 2 * m * t + t
halves m t = add-mul (2 * m) 1 t ∙ ap (λ (z : ℕ). 2 * m * t + z) (one-mul t)

pub edge_below : (m e : ℕ) → edge m e + half e ≡ doc_units m e
unfolding units_of
edge_below m e = sym (halves m (half e))

-- ---- at N binary digits of the largest, where the exponent byte is N - 21

pub crate_worth : (m N : ℕ) → 118 ≤ N → N ≤ 180 → crate_units m (N - 21) ≡ m * step N
unfolding units_of
crate_worth m N l h =
    let is : crate_shift (N - 21) ≡ N - 8 = omega (arith, shifts_meet (N - 21) (omega arith) (omega arith)) in
    ap (λ (z : ℕ). m * z) (scale_at Crate (N - 21) (omega arith) ∙ ap (λ (j : ℕ). 2 ^ j) is)

pub doc_worth : (m N : ℕ) → 22 ≤ N → doc_units m (N - 21) ≡ (2 * m + 1) * half_step N
unfolding units_of
doc_worth m N l =
    let is : doc_shift (N - 21) ≡ N - 9 = omega arith in
    ap (λ (z : ℕ). (2 * m + 1) * z) (scale_at Document (N - 21) (omega arith) ∙ ap (λ (j : ℕ). 2 ^ j) is)
