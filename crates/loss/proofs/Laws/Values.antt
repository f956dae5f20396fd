-- RULES 4.13 and 4.14: each sample is an f32 exactly. The crate's sample is half a step below the document's value at E from 97 to 159; at E = 0 both are 0; at each other E it is not so for every m above 0.
use mathlib.Core.Path.{◌≡◌, sym, ap, ◌∙◌, subst}
use mathlib.Core.Logic.{⊎_elim, ◌⊎◌, inl, inr}
use Prim.Native.Nat.{ℕ, ◌+◌, ◌*◌, ◌^◌, ◌≤◌, ◌<◌}
use native.Mathlib.Nat.{lt_irrefl, lt_of_lt_of_le, mul-lt-mul_of_pos_left, mul-zero}
use native.Mathlib.Omega.{arith}
use lib.Dec.{lit≤}
use lib.Pow.{pow-lt, pow_mono, shl_lt}
use Rattle.steps.specs.declared.Reading.{Reading}
use Rattle.steps.specs.declared.Reading.TheVariants.{Crate, Document}
use Rattle.steps.proofs.Laws.Order.{lt_or_ge}
use Rattle.pixel.specs.Units.{of_units, Exactly, mag}
use Rattle.pixel.specs.Rgbe.{count_of, shift_of, scale_of, units_of, crate_units, doc_units}
use Rattle.loss.specs.Document.{half, edge, Alike}
use Rattle.pixel.proofs.Laws.Units.{units_exact, zero_exact, mag_is}
use Rattle.pixel.proofs.Laws.Scales.{crate_bounds, count_most, scale_at, scale_none, shift_most}
use Rattle.loss.proofs.Laws.Scales.{doubled, two_halves, scales_meet, edge_below}

-- ---- every sample value is exact in f32
exact_at : (n scale shift : ℕ) → n < 512 → shift ≤ 267 → scale ≡ 2 ^ shift → Exactly (of_units (n * scale)) (n * scale)
exact_at n scale shift h k is =
    subst (λ (z : ℕ). Exactly (of_units (n * z)) (n * z)) (sym is)
    (units_exact n shift (lt_of_lt_of_le h (lit≤ {m = 512} {n = 2 ^ 24} tt)) (lt_of_lt_of_le (shl_lt 9 shift h) (pow_mono {i = 9 + shift} {j = 277} (omega arith))))

none : (n scale : ℕ) → scale ≡ 0 → n * scale ≡ 0
none n scale is = ap (λ (z : ℕ). n * z) is ∙ mul-zero n

pub sample_exact : (reading : Reading) (m e : ℕ) → m < 256 → e < 256 → Exactly (of_units (units_of reading m e)) (units_of reading m e)
unfolding units_of
sample_exact reading m e M E =
    let n = count_of reading m in
    ⊎_elim
    (λ h. exact_at n (scale_of reading e) (shift_of reading e) (count_most reading m M) (shift_most reading e E) (scale_at reading e h))
    (λ h. subst (λ (k : ℕ). Exactly (of_units k) k) (sym (none n (scale_of reading e) (scale_none reading e h))) zero_exact)
    (lt_or_ge 0 e)

-- by either reading the sample at E = 0 is 0
pub black_zero : (reading : Reading) (m : ℕ) → units_of reading m 0 ≡ 0
unfolding units_of
black_zero reading m = none (count_of reading m) (scale_of reading 0) (scale_none reading 0 (lit≤ tt))

-- ---- the crate's sample is the lower edge at 0 and from 97 to 159
edge_agrees : (m e : ℕ) → Alike e → crate_units m e ≡ edge m e
unfolding units_of
edge_agrees m e =
    ⊎_elim
    (λ z. let l : e ≤ 0 = omega arith in none m (scale_of Crate e) (scale_none Crate e l) ∙ sym (none (2 * m) (half e) (scale_none Document e l)))
    (λ h. ap (λ (k : ℕ). m * k) (scales_meet e h.0 h.1) ∙ doubled m (half e))

pub values_agree : (m e : ℕ) → Alike e → crate_units m e + half e ≡ doc_units m e
values_agree m e h = ap (λ (z : ℕ). z + half e) (edge_agrees m e h) ∙ edge_below m e

-- ---- and is not at each other exponent byte, for every mantissa above 0
less : (m a b i j : ℕ) → 0 < m → a ≡ 2 ^ i → b ≡ 2 ^ j → i < j → m * a ≡ m * b → ⊥
less m a b i j M x y h same =
    lt_irrefl (m * 2 ^ j) (subst (λ (z : ℕ). z < m * 2 ^ j) (ap (λ (z : ℕ). m * z) (sym x) ∙ same ∙ ap (λ (z : ℕ). m * z) y) (mul-lt-mul_of_pos_left {k = m} (pow-lt {i = i} {j = j} h) M))

outside : (e : ℕ) → (Alike e → ⊥) → (0 < e) × ((e < 97) ⊎ (159 < e))
outside e apart = (
  ⊎_elim (λ h. h) (λ h. absurd (apart (inl (omega arith)))) (lt_or_ge 0 e),
  ⊎_elim (λ h. inl h) (λ h. ⊎_elim (λ k. inr k) (λ k. absurd (apart (inr (h, k)))) (lt_or_ge 159 e)) (lt_or_ge e 97),
)

edge_differs : (m e : ℕ) → 0 < m → (Alike e → ⊥) → crate_units m e ≡ edge m e → ⊥
unfolding units_of
edge_differs m e M apart is =
    let o = outside e apart in
    let same : m * scale_of Crate e ≡ m * (2 * half e) = is ∙ sym (doubled m (half e)) in
    ⊎_elim
    (λ h. less m (2 * half e) (scale_of Crate e) (1 + shift_of Document e) (shift_of Crate e) M (two_halves e o.0) (scale_at Crate e o.0) (omega (arith, crate_bounds e)) (sym same))
    (λ h. less m (scale_of Crate e) (2 * half e) (shift_of Crate e) (1 + shift_of Document e) M (scale_at Crate e o.0) (two_halves e o.0) (omega (arith, crate_bounds e)) same)
    o.1

cancel : (a b c d : ℕ) → a + c ≡ d → b + c ≡ d → a ≡ b
cancel a b c d e f = omega arith

pub values_differ : (m e : ℕ) → 0 < m → (Alike e → ⊥) → crate_units m e + half e ≡ doc_units m e → ⊥
values_differ m e M apart same = edge_differs m e M apart (cancel (crate_units m e) (edge m e) (half e) (doc_units m e) same (edge_below m e))

-- ---- the same of the f32s
value : (reading : Reading) (m e : ℕ) → m < 256 → e < 256 → mag (of_units (units_of reading m e)) ≡ units_of reading m e
value reading m e M E = mag_is _ _ (sample_exact reading m e M E)

pub floats_agree : (m e : ℕ) → m < 256 → e < 256 → Alike e → mag (of_units (crate_units m e)) + half e ≡ mag (of_units (doc_units m e))
floats_agree m e M E h = ap (λ (z : ℕ). z + half e) (value Crate m e M E) ∙ values_agree m e h ∙ sym (value Document m e M E)

pub floats_differ : (m e : ℕ) → 0 < m → m < 256 → e < 256 → (Alike e → ⊥) → mag (of_units (crate_units m e)) + half e ≡ mag (of_units (doc_units m e)) → ⊥
floats_differ m e some M E apart same =
    values_differ m e some apart (ap (λ (z : ℕ). z + half e) (sym (value Crate m e M E)) ∙ same ∙ value Document m e M E)
