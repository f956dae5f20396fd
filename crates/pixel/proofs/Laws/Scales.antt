-- What a step or half a step is worth, by cases, and how many a sample is.
use mathlib.Core.Path.{◌≡◌, sym, subst}
use mathlib.Core.Logic.{⊎_elim}
use Prim.Native.Nat.{ℕ, ◌+◌, ◌-◌, ◌*◌, ◌%◌, ◌^◌, ◌≤◌, ◌<◌}
use native.Mathlib.Omega.{arith}
use borrow.Author.Tests.{eq-eqb, ne_eqb, lt-ltb, le-ltb}
use Rattle.steps.specs.declared.Reading.{Reading}
use Rattle.steps.specs.declared.Reading.TheVariants.{Crate, Document}
use Rattle.steps.proofs.Laws.Order.{lt_or_ge}
use Rattle.pixel.specs.Units.{of_units, Exactly}
use Rattle.pixel.specs.Rgbe.{crate_shift, count_of, shift_of, scale_of}
use Rattle.pixel.proofs.Laws.Units.{power_exact, zero_exact}

-- ---- the crate's power by cases
pub crate_high : (e : ℕ) → 128 < e → crate_shift e ≡ 141 + (e - 128) % 32
unfolding crate_shift
crate_high e h = simp (lt-ltb 128 e h)

pub crate_low : (e : ℕ) → e ≤ 128 → crate_shift e ≡ 141 - (128 - e) % 32
unfolding crate_shift
crate_low e h = simp (le-ltb 128 e h)

pub crate_bounds : (e : ℕ) → (110 ≤ crate_shift e) × (crate_shift e ≤ 172)
crate_bounds e = ⊎_elim (λ h. omega (arith, crate_high e h)) (λ h. omega (arith, crate_low e h)) (lt_or_ge 128 e)

-- ---- the power by the reading
pub crate_shift_is : (reading : Reading) (e j : ℕ) → reading ≡ Crate → j ≡ crate_shift e → j ≡ shift_of reading e
crate_shift_is reading e j r is = rw r is

pub doc_shift_is : (reading : Reading) (e : ℕ) → reading ≡ Document → e + 12 ≡ shift_of reading e
doc_shift_is reading e r = rw r

-- ---- how many, by the reading
pub doc_count_is : (reading : Reading) (m : ℕ) → reading ≡ Document → 2 * m + 1 ≡ count_of reading m
doc_count_is reading m r = rw r

pub count_most : (reading : Reading) (m : ℕ) → m < 256 → count_of reading m < 512
count_most Crate m h = omega arith
count_most Document m h = omega arith

-- ---- by every reading a scale is a power of two, and 0 at the exponent byte 0
pub scale_at : (reading : Reading) (e : ℕ) → 0 < e → scale_of reading e ≡ 2 ^ shift_of reading e
unfolding scale_of
scale_at reading e h = simp (ne_eqb e 0 (λ z. omega arith))

pub scale_none : (reading : Reading) (e : ℕ) → e ≤ 0 → scale_of reading e ≡ 0
unfolding scale_of
scale_none reading e h = simp (eq-eqb e 0 (omega arith))

pub shift_least : (reading : Reading) (e : ℕ) → 12 ≤ shift_of reading e
shift_least Crate e = omega (arith, crate_bounds e)
shift_least Document e = omega arith

pub shift_most : (reading : Reading) (e : ℕ) → e < 256 → shift_of reading e ≤ 267
shift_most Crate e h = omega (arith, crate_bounds e)
shift_most Document e h = omega arith

-- what a mantissa is multiplied by is exact
pub scale_exact : (reading : Reading) (e : ℕ) → e < 256 → Exactly (of_units (scale_of reading e)) (scale_of reading e)
scale_exact reading e k =
    ⊎_elim
    (λ h. subst (λ (n : ℕ). Exactly (of_units n) n) (sym (scale_at reading e h)) (power_exact (shift_of reading e) (omega (arith, shift_most reading e k))))
    (λ h. subst (λ (n : ℕ). Exactly (of_units n) n) (sym (scale_none reading e h)) zero_exact)
    (lt_or_ge 0 e)
