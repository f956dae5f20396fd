-- The values of a header: its exposure as a bit pattern, its orientation as a number, and all of them as they are put.
use Prim.Native.Nat.{ℕ, zero, suc, ◌+◌, ◌-◌, ◌*◌, ◌/◌, ◌%◌, ◌^◌, ◌<◌}
use mathlib.Core.Bool.{Bool, true, false, beq, true≢false}
use mathlib.Core.List.{List}
use mathlib.Core.Path.{◌≡◌, refl, sym, ap, ◌∙◌, subst}
use native.Mathlib.Nat.{lt_irrefl, div-one}
use native.Mathlib.Omega.{arith}
use borrow.Author.Tests.{eq-eqb}
use lib.Dec.{eqb, ltb}
use lib.Ieee.{Float, nan, inf, fin, binary32, up, down, size, eq, is_nan, to_bits}
use Rattle.std.specs.Prelude.{Option, Some, None}
use Rattle.steps.specs.Answer.{done}
use Rattle.steps.specs.declared.Reading.{Reading}
use Rattle.pixel.specs.Units.{Exactly}
use Rattle.pixel.proofs.Laws.Patterns.{bits_of, bits_are}
use Rattle.words.specs.Axes.{orientation}
use Rattle.words.specs.declared.axes.Orientation.{Orientation}
use Rattle.stated.specs.declared.Exposure.{Exposure}
use Rattle.stated.specs.declared.Exposure.TheVariants.{Stated, NotStated}
use Rattle.stated.proofs.Laws.Usable.{Above}
use Rattle.header.specs.declared.Head.{Head}
use Rattle.header.specs.Head.{header_of}
use Rattle.header.proofs.Laws.Head.{header_above}
use Rattle.numbers.specs.Numbers.{pattern_of, exposure_of, axes_number, orientation_of}

same_sign : (s : Bool) → beq s s ≡ true
same_sign true = refl
same_sign false = refl

-- a number equals itself
itself : (x : Float) → is_nan x ≡ false → eq x x ≡ true
unfolding eq is_nan
itself nan h = absurd (true≢false h)
itself (inf s) h = same_sign s
itself (fin s m d) h = simp (eq-eqb (m * up d * down d) (m * up d * down d) refl, same_sign s)

pub pattern_is : (x : Float) → is_nan x ≡ false → to_bits binary32 x ≡ pattern_of x
unfolding pattern_of
pattern_is x h = simp (itself x h)

-- ---- The number of the exposure is 0 exactly where none is stated

exactly_some : (x : Float) (n : ℕ) → Exactly x n → is_nan x ≡ false
unfolding is_nan
exactly_some nan n h = absurd h
exactly_some (inf s) n h = absurd h
exactly_some (fin s m d) n h = refl

above_zero : (n : ℕ) → 0 < n → 0 < bits_of n
above_zero n h = go (size n - 24) refl
  where
    go : (k : ℕ) → size n - 24 ≡ k → 0 < 0 + k * 8388608 + n / 2 ^ k
    go zero e = subst (λ (z : ℕ). 0 < 0 + 0 * 8388608 + z) (sym (div-one n)) (omega arith)
    go (suc k) e = omega arith

pub exposure_zero :
    (reading : Reading) (bytes : List ℕ) (widest highest : ℕ) (head : Head) →
    header_of reading bytes widest highest ≡ done head → exposure_of head.exposure ≡ 0 → head.exposure ≡ NotStated
exposure_zero reading bytes widest highest head e z = go head.exposure (header_above reading bytes widest highest head e) z
  where
    go : (w : Exposure) → Above w → exposure_of w ≡ 0 → w ≡ NotStated
    go NotStated a z = refl
    go (Stated x) a z =
        let n = a.0 in
        let bits : bits_of n ≡ 0 = sym (bits_are x n a.3) ∙ pattern_is x (exactly_some x n a.3) ∙ z in
        absurd (lt_irrefl 0 (subst (λ (b : ℕ). 0 < b) bits (above_zero n a.1)))

-- ---- The number of an orientation is from 1 to 8, and no two have the same

pub orientation_some : (o : Orientation) → (0 < orientation_of o) × (orientation_of o < 9)
unfolding orientation_of
orientation_some o = go o.columns o.upward o.leftward
  where
    go : (c u l : Bool) → (0 < axes_number c u l) × (axes_number c u l < 9)
    go false false false = (omega arith, omega arith)
    go false false true = (omega arith, omega arith)
    go false true true = (omega arith, omega arith)
    go false true false = (omega arith, omega arith)
    go true false false = (omega arith, omega arith)
    go true false true = (omega arith, omega arith)
    go true true true = (omega arith, omega arith)
    go true true false = (omega arith, omega arith)

-- the orientation of a number
abbrev orientation_at : ℕ → Orientation
orientation_at n = orientation (ltb 4 n) (ltb 1 ((n - 1) % 4)) (eqb (n / 2 % 2) 1)

pub orientation_single : (o p : Orientation) → orientation_of o ≡ orientation_of p → o ≡ p
unfolding orientation_of
orientation_single o p e = back o ∙ ap orientation_at e ∙ sym (back p)
  where
    go : (c u l : Bool) → orientation c u l ≡ orientation_at (axes_number c u l)
    go false false false = refl
    go false false true = refl
    go false true true = refl
    go false true false = refl
    go true false false = refl
    go true false true = refl
    go true true true = refl
    go true true false = refl

    back : (o : Orientation) → o ≡ orientation_at (orientation_of o)
    back o = go o.columns o.upward o.leftward
