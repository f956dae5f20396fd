-- `pixel::scale` meets its contract: a power of two by the reading, and 0 at the exponent byte 0.
use mathlib.Core.Path.{◌≡◌, refl, sym, ap, ◌∙◌}
use Prim.Native.Nat.{ℕ, ◌<◌, ◌^◌}
use native.Mathlib.Omega.{arith}
use lib.Ieee.{Float, of_bits, round, binary32}
use Rattle.steps.specs.declared.Reading.{Reading}
use Rattle.pixel.specs.Units.{of_units}
use Rattle.pixel.specs.Rgbe.{crate_shift, shift_of, scale_of}
use Rattle.pixel.proofs.Laws.Scales.{crate_bounds, crate_shift_is, doc_shift_is, scale_at, scale_none}
use Rattle.pixel.proofs.scale.Goals as goal

nothing : of_bits binary32 0 ≡ of_units 0
unfolding of_units of_bits round
nothing = refl

none : (reading : Reading) (e : ℕ) → e ≡ 0 → of_bits binary32 0 ≡ of_units (scale_of reading e)
none reading e h = nothing ∙ ap of_units (sym (scale_none reading e (omega arith)))

some : (reading : Reading) (e j : ℕ) (x : Float) → (e ≡ 0 → ⊥) → j ≡ shift_of reading e → x ≡ of_units (2 ^ j) → x ≡ of_units (scale_of reading e)
some reading e j x h is p = p ∙ ap (λ (k : ℕ). of_units (2 ^ k)) is ∙ ap of_units (sym (scale_at reading e (omega arith)))

field : (e j : ℕ) → j ≡ crate_shift e → (22 < j) × (j < 277)
field e j is = let b = crate_bounds e in (omega arith, omega arith)

pub returns-then-e-eq0 : goal.returns-then-e-eq0
returns-then-e-eq0 c = search none

pub power-requires : goal.power-requires
power-requires c = search field

pub returns-in-Crate : goal.returns-in-Crate
returns-in-Crate c = search (some, crate_shift_is)

pub returns-in-Document : goal.returns-in-Document
returns-in-Document c =
    some _ _ _ _ c.if-e-eq0.false (rw c.from.ensures (doc_shift_is _ _ c.in-Document.is)) c.any_power.ensures
