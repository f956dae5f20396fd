-- The laws of `specs/Rounded.antt`: what is rounded to the nearest f32, over whole numbers, is what the format's own rounding gives.
use mathlib.Core.Path.{◌≡◌, refl, sym, ap, ◌∙◌, subst}
use mathlib.Core.Bool.{Bool, true, false, ◌&&◌}
use mathlib.Core.Logic.{◌⊎◌, inl, inr}
use Prim.Native.Nat.{ℕ, suc, ◌+◌, ◌-◌, ◌*◌, ◌/◌, ◌%◌, ◌^◌, ◌≤◌, ◌<◌, compare, Ordering}
use native.Mathlib.Nat.{mul_assoc, mul_comm, mul-pos, le_trans, le_of_eq, lt_of_lt_of_le, eq-or-lt_of_le, div-lt_iff_lt-mul}
use native.Mathlib.Omega.{arith}
use native.Mathlib.Numerals.{add-one}
use lib.Dec.{T, is_le, compare_is_eq, eqb, ltb, leb→le, eqb→eq, lit<}
use lib.Pow.{pow-add, pow_pos, pow_mono}
use lib.Ieee.{Float, inf, binary32, size, nearest, round, units}
use lib.Ieee.Digits.{size-lt}
use lib.Ieee.Fits.{nearest-le, round_is, round-fits}
use lib.Ieee.Nearest.{closest, closest_same, div_same, nearest-ge}
use lib.Ieee.Scale.{grid, round_val}
use borrow.Author.Tests.{lt-ltb, le-ltb, le-leb, eq-eqb, ne_eqb, ltb-true}
use Rattle.steps.specs.Loop.{pick}
use Rattle.steps.proofs.Laws.Order.{lt_or_ge}
use Rattle.steps.proofs.Laws.Turns.{and_left}
use Rattle.pixel.specs.Units.{of_units, Exactly, mag}
use Rattle.pixel.specs.Inner.{bright}
use Rattle.pixel.proofs.Laws.Units.{units_exact, units_fits, exact_bright, mag_is}
use Rattle.pixel.proofs.Laws.Numbers.{pow_pow}
use Rattle.pixel.proofs.Laws.Patterns.{value_unique}
use Rattle.stated.specs.Rounded.{nearest_whole, dropped, nearest_units, usable}

-- ---- a fraction rounded to a whole number

-- by how the rest, doubled, compares with the divisor
by_order : (w t b : ℕ) (o : Ordering) → compare t b ≡ o → pick (ltb t b) w (pick (eqb t b) (w + w % 2) (w + 1)) ≡ nearest w o
by_order w t b Ordering.lt e = rw (lt-ltb t b (less (eq-or-lt_of_le (leb→le t b (subst (λ (o : Ordering). T (is_le o)) (sym e) tt)))))
  where
    less : (t ≡ b) ⊎ (t < b) → t < b
    less (inl h) = absurd (subst T (sym (eq-eqb t b h) ∙ ap compare_is_eq e) tt)
    less (inr h) = h
by_order w t b Ordering.eq e =
    let is : t ≡ b = eqb→eq t b (subst (λ (o : Ordering). T (compare_is_eq o)) (sym e) tt) in
    rw (le-ltb t b (le_of_eq (sym is)), eq-eqb t b is)
by_order w t b Ordering.gt e = simp (le-ltb t b (over (lt_or_ge b t)), ap compare_is_eq e) (add-one w)
  where
    over : (b < t) ⊎ (t ≤ b) → b ≤ t
    over (inl h) = omega arith
    over (inr h) = absurd (subst T (sym (le-leb t b h) ∙ ap is_le e) tt)

pub whole_closest : (a b : ℕ) → nearest_whole a b ≡ closest a b
unfolding nearest_whole
whole_closest a b = by_order (a / b) (a % b * 2) b (compare (a % b * 2) b) refl

pub whole_same : (a b c d : ℕ) → 0 < b → 0 < d → a * d ≡ c * b → nearest_whole a b ≡ nearest_whole c d
whole_same a b c d B D e = whole_closest a b ∙ closest_same a b c d B D e ∙ sym (whole_closest c d)

pub whole_most : (a b : ℕ) → nearest_whole a b ≤ suc (a / b)
whole_most a b = subst (λ (z : ℕ). z ≤ suc (a / b)) (sym (whole_closest a b)) (nearest-le (a / b) (compare (a % b * 2) b))

pub whole_least : (a b : ℕ) → a / b ≤ nearest_whole a b
whole_least a b = subst (λ (z : ℕ). a / b ≤ z) (sym (whole_closest a b)) (nearest-ge (a / b) (compare (a % b * 2) b))

module _ (a b : ℕ) where
  pub whole_down : a % b * 2 < b → a / b ≡ nearest_whole a b
  unfolding nearest_whole
  whole_down h = rw (lt-ltb (a % b * 2) b h)

  pub whole_tie : b ≤ a % b * 2 → a % b * 2 ≡ b → a / b + a / b % 2 ≡ nearest_whole a b
  unfolding nearest_whole
  whole_tie h e = simp (le-ltb (a % b * 2) b h, eq-eqb (a % b * 2) b e)

  pub whole_up : b ≤ a % b * 2 → (a % b * 2 ≡ b → ⊥) → a / b + 1 ≡ nearest_whole a b
  unfolding nearest_whole
  whole_up h e = simp (le-ltb (a % b * 2) b h, ne_eqb (a % b * 2) b e)

-- ---- a fraction of 2^-149 rounded to an f32

pub nearest_same : (a b c d : ℕ) → 0 < b → 0 < d → a * d ≡ c * b → nearest_units a b ≡ nearest_units c d
unfolding nearest_units
nearest_same a b c d B D e =
    let j = dropped (c / d) in
    ap (λ (z : ℕ). nearest_whole a (b * 2 ^ dropped z) * 2 ^ dropped z) (div_same a b c d B D e)
    ∙ ap (λ (z : ℕ). z * 2 ^ j)
    (whole_same a (b * 2 ^ j) c (d * 2 ^ j) (mul-pos B (pow_pos j)) (mul-pos D (pow_pos j)) (sym (mul_assoc a d (2 ^ j)) ∙ ap (λ (z : ℕ). z * 2 ^ j) e ∙ mul_assoc c b (2 ^ j)))

-- it is the format's own rounding of a / c
pub nearest_grid : (a c : ℕ) → nearest_units (a * 2 ^ 149) c ≡ grid binary32 a c
unfolding nearest_units
nearest_grid a c = let n = a * 2 ^ 149 in let k = dropped (n / c) in ap (λ (z : ℕ). z * 2 ^ k) (whole_closest n (c * 2 ^ k))

-- the 24 digits that are kept, or 2^24
enough : (n : ℕ) → n ≤ 24 + (n - 24)
enough n = omega arith

pub kept_most : (a b : ℕ) → 0 < b → nearest_whole a (b * 2 ^ dropped (a / b)) ≤ 2 ^ 24
kept_most a b B =
    let k = dropped (a / b) in
    let below : a < 2 ^ (24 + k) * b = (div-lt_iff_lt-mul B).0 (lt_of_lt_of_le (size-lt (a / b)) (pow_mono (enough (size (a / b))))) in
    let part : a / (b * 2 ^ k) < 2 ^ 24 = (div-lt_iff_lt-mul (mul-pos B (pow_pos k))).1 (subst (λ (z : ℕ). a < z) (ap (λ (z : ℕ). z * b) (pow-add 2 24 k) ∙ mul_assoc (2 ^ 24) (2 ^ k) b ∙ ap (λ (z : ℕ). 2 ^ 24 * z) (mul_comm (2 ^ k) b)) below) in
    le_trans (whole_most a (b * 2 ^ k)) part

-- so many times a power of two is an f32
pub short_exact : (q k : ℕ) → q ≤ 2 ^ 24 → q * 2 ^ k < 2 ^ 277 → Exactly (of_units (q * 2 ^ k)) (q * 2 ^ k)
short_exact q k h l = go (eq-or-lt_of_le h)
  where
    carried : q ≡ 2 ^ 24 → 2 ^ 23 * 2 ^ (k + 1) ≡ q * 2 ^ k
    carried e = pow_pow 23 (k + 1) (24 + k) (omega arith) ∙ pow-add 2 24 k ∙ ap (λ (z : ℕ). z * 2 ^ k) (sym e)

    go : (q ≡ 2 ^ 24) ⊎ (q < 2 ^ 24) → Exactly (of_units (q * 2 ^ k)) (q * 2 ^ k)
    go (inr m) = units_exact q k m l
    go (inl e) = subst (λ (z : ℕ). Exactly (of_units z) z) (carried e) (units_exact (2 ^ 23) (k + 1) (lit< tt) (subst (λ (z : ℕ). z < 2 ^ 277) (sym (carried e)) l))

pub nearest_exact : (a b : ℕ) → 0 < b → nearest_units a b < 2 ^ 277 → Exactly (of_units (nearest_units a b)) (nearest_units a b)
unfolding nearest_units
nearest_exact a b B h = let k = dropped (a / b) in short_exact (nearest_whole a (b * 2 ^ k)) k (kept_most a b B) h

-- ---- usable: neither zero nor infinite

pub usable_from : (n : ℕ) → 0 < n → n < 2 ^ 277 → usable n ≡ true
unfolding usable
usable_from n h k = simp (lt-ltb 0 n h, lt-ltb n (2 ^ 277) k)

usable_not : (n : ℕ) → 2 ^ 277 ≤ n → usable n ≡ false
unfolding usable
usable_not n h = rw (le-ltb n (2 ^ 277) h) (none (ltb 0 n))
  where
    none : (t : Bool) → (t && false) ≡ false
    none true = refl
    none false = refl

pub usable_least : (n : ℕ) → usable n ≡ true → 0 < n
unfolding usable
usable_least n e = ltb-true 0 n (and_left (ltb 0 n) (ltb n (2 ^ 277)) e)

pub usable_most : (n : ℕ) → usable n ≡ true → n < 2 ^ 277
usable_most n e = go (lt_or_ge n (2 ^ 277))
  where
    go : (n < 2 ^ 277) ⊎ (2 ^ 277 ≤ n) → n < 2 ^ 277
    go (inl h) = h
    go (inr h) = absurd (subst T (sym e ∙ usable_not n h) tt)

-- ---- what `round` gives: that f32, or plus infinity

units_infinite : (q k : ℕ) → 2 ^ 277 ≤ q * 2 ^ k → units binary32 false q k ≡ inf false
unfolding units
units_infinite q k h = rw (le-ltb (q * 2 ^ k) (2 ^ 277) h)

infinite_mag : mag (inf false) ≡ 2 ^ 277
unfolding mag
infinite_mag = refl

module _ (a c : ℕ) (C : 0 < c) where
  value : nearest_units (a * 2 ^ 149) c < 2 ^ 277 → Exactly (round binary32 false a c) (nearest_units (a * 2 ^ 149) c)
  value h = subst (Exactly (round binary32 false a c)) (sym (nearest_grid a c)) (round_val binary32 a c (subst (λ (z : ℕ). z < 2 ^ 277) (nearest_grid a c) h))

  infinite : 2 ^ 277 ≤ nearest_units (a * 2 ^ 149) c → round binary32 false a c ≡ inf false
  infinite h =
      let n = a * 2 ^ 149 in
      let k = dropped (n / c) in
      round_is binary32 false a c ∙ units_infinite (closest n (c * 2 ^ k)) k (subst (λ (z : ℕ). 2 ^ 277 ≤ z) (nearest_grid a c) h)

  pub round_bright : T (bright (round binary32 false a c))
  round_bright = go (lt_or_ge (nearest_units (a * 2 ^ 149) c) (2 ^ 277))
    where
      go : (nearest_units (a * 2 ^ 149) c < 2 ^ 277) ⊎ (2 ^ 277 ≤ nearest_units (a * 2 ^ 149) c) → T (bright (round binary32 false a c))
      go (inl h) = exact_bright (round binary32 false a c) (nearest_units (a * 2 ^ 149) c) (value h)
      go (inr h) = subst (λ (z : Float). T (bright z)) (sym (infinite h)) tt

  pub round_usable : usable (mag (round binary32 false a c)) ≡ usable (nearest_units (a * 2 ^ 149) c)
  round_usable = go (lt_or_ge (nearest_units (a * 2 ^ 149) c) (2 ^ 277))
    where
      go : (nearest_units (a * 2 ^ 149) c < 2 ^ 277) ⊎ (2 ^ 277 ≤ nearest_units (a * 2 ^ 149) c) → usable (mag (round binary32 false a c)) ≡ usable (nearest_units (a * 2 ^ 149) c)
      go (inl h) = ap usable (mag_is (round binary32 false a c) (nearest_units (a * 2 ^ 149) c) (value h))
      go (inr h) = ap (λ (z : Float). usable (mag z)) (infinite h) ∙ usable_not (mag (inf false)) (le_of_eq (sym infinite_mag)) ∙ sym (usable_not (nearest_units (a * 2 ^ 149) c) h)

  pub round_units : usable (nearest_units (a * 2 ^ 149) c) ≡ true → round binary32 false a c ≡ of_units (nearest_units (a * 2 ^ 149) c)
  round_units e =
      let n = nearest_units (a * 2 ^ 149) c in
      let h : n < 2 ^ 277 = usable_most n e in
      value_unique (round binary32 false a c) (of_units n) n (round-fits binary32 false a c) (units_fits n) (value h) (nearest_exact (a * 2 ^ 149) c C h)
