-- `pixel::from_bytes` meets its contract: each product is exact.
use mathlib.Core.Path.{◌≡◌, sym, ap, ◌∙◌, subst}
use Prim.Native.Nat.{ℕ, ◌≤◌, ◌<◌, ◌^◌}
use native.Mathlib.Omega.{arith}
use lib.IntN.{pos}
use lib.Dec.{T, leb, le→leb}
use lib.Ieee.{Float, mul, of_int, in_float, binary32}
use borrow.Author.Rules.{rules}
use Rattle.steps.specs.declared.Reading.{Reading}
use Rattle.pixel.specs.Units.{of_units}
use Rattle.pixel.specs.Rgbe.{count_of, scale_of, units_of}
use Rattle.pixel.proofs.Laws.Units.{scaled}
use Rattle.pixel.proofs.Laws.Scales.{count_most, scale_exact}
use Rattle.pixel.proofs.from_bytes.Goals as goal

few : (reading : Reading) (m : ℕ) → m < 256 → count_of reading m ≤ 2 ^ 24
few reading m h = omega (arith, count_most reading m h)

-- a count is an f32 exactly
whole : (reading : Reading) (m n : ℕ) → m < 256 → n ≡ count_of reading m → T (in_float binary32 (pos n))
unfolding in_float
whole reading m n h en = subst (λ (k : ℕ). T (leb k (2 ^ 24))) (sym en) (le→leb (count_of reading m) (2 ^ 24) (few reading m h))

sample : (reading : Reading) (m e n : ℕ) (s : Float) → m < 256 → e < 256 → n ≡ count_of reading m → s ≡ of_units (scale_of reading e) → mul binary32 (of_int binary32 (pos n)) s ≡ of_units (units_of reading m e)
unfolding units_of
sample reading m e n s h k en es =
    ap (λ (z : ℕ). mul binary32 (of_int binary32 (pos z)) s) en
    ∙ ap (mul binary32 (of_int binary32 (pos (count_of reading m)))) es
    ∙ scaled (count_of reading m) (scale_of reading e) (of_units (scale_of reading e)) (few reading m h) (scale_exact reading e k)

pub int_to_float-result : goal.int_to_float-result
int_to_float-result c = search whole

pub int_to_float-result-2 : goal.int_to_float-result-2
int_to_float-result-2 c = search whole

pub int_to_float-result-3 : goal.int_to_float-result-3
int_to_float-result-3 c = search whole

pub returns : goal.returns
returns c =
    let a = c.args in
    let q = a.q in
    let s = c.scale-worth.ensures in
    λ i. record { r = sample a.reading q.r q.e _ _ (search rules) (search rules) c.count.ensures s i; g = sample a.reading q.g q.e _ _ (search rules) (search rules) c.count-2.ensures s i; b = sample a.reading q.b q.e _ _ (search rules) (search rules) c.count-3.ensures s i }
