-- The laws of `specs/Light.antt`.
use Prim.Native.Nat.{ℕ, ◌+◌, ◌-◌, ◌*◌, ◌%◌, ◌^◌, ◌<◌, ◌≤◌, min, max}
use mathlib.Core.Bool.{Bool, true, false}
use mathlib.Core.Logic.{⊎_elim}
use mathlib.Core.Path.{◌≡◌, refl, sym, ap, ◌∙◌}
use native.Mathlib.Nat.{zero-mul, mul-le-mul_left, mul-le-mul_right, mul-lt-mul_of_pos_right, lt_of_mul-lt-mul_right}
use native.Mathlib.Omega.{arith}
use borrow.Author.Tests.{eq-eqb, ne_eqb, lt-ltb, le-ltb}
use lib.Dec.{ltb, eqb}
use lib.Pow.{pow_pos, pow_mono, shl_exact}
use Rattle.steps.proofs.Laws.Order.{lt_or_ge}
use Rattle.steps.specs.declared.Reading.{Reading}
use Rattle.steps.specs.declared.Reading.TheVariants.{Crate, Document}
use Rattle.pixel.specs.declared.Rgbe.{Rgbe}
use Rattle.pixel.specs.Rgbe.{count_of, shift_of, units_of}
use Rattle.pixel.proofs.Laws.Numbers.{same_test, mul_pow_pow}
use Rattle.pixel.proofs.Laws.Scales.{count_most, scale_at, scale_none}
use Rattle.light.specs.Light.{light_of, top_of, is_black, is_masked, darker, brighter}

-- ---- The largest sample is that of the largest mantissa

max_scale : (a b c : ℕ) → max a b * c ≡ max (a * c) (b * c)
max_scale a b c = ⊎_elim less not_less (lt_or_ge a b)
  where
    less : a < b → max a b * c ≡ max (a * c) (b * c)
    less h =
        let m : max a b ≡ b = omega arith in
        let l : a ≤ b = omega arith in
        let k = mul-le-mul_right c l in
        rw m (omega arith)

    not_less : b ≤ a → max a b * c ≡ max (a * c) (b * c)
    not_less h =
        let m : max a b ≡ a = omega arith in
        let k = mul-le-mul_right c h in
        rw m (omega arith)

-- the larger mantissa counts more
count_max : (reading : Reading) (a b : ℕ) → count_of reading (max a b) ≡ max (count_of reading a) (count_of reading b)
count_max Crate a b = refl
count_max Document a b = omega arith

pub count_few : (reading : Reading) (m n : ℕ) → m < 256 → n ≡ count_of reading m → n < 512
count_few reading m n h en = rw en (count_most reading m h)

module _ (reading : Reading) (q : Rgbe) where
  pub top_none : q.e ≡ 0 → 0 ≡ top_of reading q
  unfolding top_of
  top_none h = simp (eq-eqb q.e 0 h)

  pub top_some : (a m n : ℕ) → (q.e ≡ 0 → ⊥) → a ≡ max q.r q.g → m ≡ max a q.b → n ≡ count_of reading m → n ≡ top_of reading q
  unfolding top_of
  top_some a m n h ea em en = simp (ne_eqb q.e 0 h) (rw (en, em, ea))

  pub light_is : top_of reading q * 2 ^ shift_of reading q.e ≡ light_of reading q
  unfolding light_of units_of
  light_is = ⊎_elim some none (lt_or_ge 0 q.e)
    where
      some : 0 < q.e → top_of reading q * 2 ^ shift_of reading q.e ≡ light_of reading q
      some h = rw (← top_some (max q.r q.g) _ _ (λ z. omega arith) refl refl refl, ← scale_at reading q.e h) (simp (count_max reading, max_scale))

      none : q.e ≤ 0 → top_of reading q * 2 ^ shift_of reading q.e ≡ light_of reading q
      none h = rw (← top_none (omega arith)) (simp (scale_none reading q.e h) (omega arith))

-- ---- Light compared by counts and powers: powers from 2^9 on decide alike

cap_right : (m n d : ℕ) → m < 512 → ltb m (n * 2 ^ min d 9) ≡ ltb m (n * 2 ^ d)
cap_right m n d h = same_test m (n * 2 ^ min d 9) m (n * 2 ^ d) forth back
  where
    forth : m < n * 2 ^ min d 9 → m < n * 2 ^ d
    forth l =
        let k : min d 9 ≤ d = omega arith in
        omega (arith, mul-le-mul_left n (pow_mono {i = min d 9} {j = d} k))

    some : m < n * 2 ^ d → 1 ≤ n
    some l = ⊎_elim (λ (k : 0 < n). k) (λ k. let z : n ≡ 0 = omega arith in absurd (none (rw z at l))) (lt_or_ge 0 n)
      where
        none : m < 0 * 2 ^ d → ⊥
        none k = omega arith

    back : m < n * 2 ^ d → m < n * 2 ^ min d 9
    back l = ⊎_elim over within (lt_or_ge 9 d)
      where
        over : 9 < d → m < n * 2 ^ min d 9
        over k =
            let e : min d 9 ≡ 9 = omega arith in
            let s = some l in
            rw e (omega (arith, mul-le-mul_right (2 ^ 9) s))

        within : d ≤ 9 → m < n * 2 ^ min d 9
        within k = let e : min d 9 ≡ d = omega arith in rw e l

cap_left : (m n d : ℕ) → n < 512 → ltb (m * 2 ^ min d 9) n ≡ ltb (m * 2 ^ d) n
cap_left m n d h = same_test (m * 2 ^ min d 9) n (m * 2 ^ d) n forth back
  where
    back : m * 2 ^ d < n → m * 2 ^ min d 9 < n
    back l =
        let k : min d 9 ≤ d = omega arith in
        omega (arith, mul-le-mul_left m (pow_mono {i = min d 9} {j = d} k))

    forth : m * 2 ^ min d 9 < n → m * 2 ^ d < n
    forth l = ⊎_elim over within (lt_or_ge 9 d)
      where
        nothing : m * 2 ^ 9 < n → m * 2 ^ d < n
        nothing k =
            let z : m ≡ 0 = omega arith in
            rw z (omega arith)

        over : 9 < d → m * 2 ^ d < n
        over k = let e : min d 9 ≡ 9 = omega arith in nothing (rw e at l)

        within : d ≤ 9 → m * 2 ^ d < n
        within k = let e : min d 9 ≡ d = omega arith in rw e at l

-- both sides times one power
scaled_test : (a b s : ℕ) → ltb a b ≡ ltb (a * 2 ^ s) (b * 2 ^ s)
scaled_test a b s = same_test a b (a * 2 ^ s) (b * 2 ^ s) (λ h. mul-lt-mul_of_pos_right h (pow_pos s)) (λ h. lt_of_mul-lt-mul_right (2 ^ s) h)

pub below_by_shift : (m s n t : ℕ) → m < 512 → n < 512 → ltb (m * 2 ^ min (s - t) 9) (n * 2 ^ min (t - s) 9) ≡ ltb (m * 2 ^ s) (n * 2 ^ t)
below_by_shift m s n t hm hn = ⊎_elim high low (lt_or_ge t s)
  where
    high : t < s → ltb (m * 2 ^ min (s - t) 9) (n * 2 ^ min (t - s) 9) ≡ ltb (m * 2 ^ s) (n * 2 ^ t)
    high h =
        let z : min (t - s) 9 ≡ 0 = omega arith in
        let one : n * 2 ^ 0 ≡ n = omega arith in
        let back : s - t + t ≡ s = omega arith in
        rw (z, one) (cap_left m n (s - t) hn ∙ scaled_test (m * 2 ^ (s - t)) n t ∙ ap (λ (x : ℕ). ltb x (n * 2 ^ t)) (mul_pow_pow m (s - t) t s back))

    low : s ≤ t → ltb (m * 2 ^ min (s - t) 9) (n * 2 ^ min (t - s) 9) ≡ ltb (m * 2 ^ s) (n * 2 ^ t)
    low h =
        let z : min (s - t) 9 ≡ 0 = omega arith in
        let one : m * 2 ^ 0 ≡ m = omega arith in
        let back : t - s + s ≡ t = omega arith in
        rw (z, one) (cap_right m n (t - s) hm ∙ scaled_test m (n * 2 ^ (t - s)) s ∙ ap (λ (x : ℕ). ltb (m * 2 ^ s) x) (mul_pow_pow n (t - s) s t back))

-- the same of what the code has in hand
pub below_shifted : (m s n t a b : ℕ) → m < 512 → n < 512 → a ≡ min (s - t) 9 → b ≡ min (t - s) 9 → ltb ((m * 2 ^ a) % 2 ^ 64) ((n * 2 ^ b) % 2 ^ 64) ≡ ltb (m * 2 ^ s) (n * 2 ^ t)
below_shifted m s n t a b hm hn ea eb =
    let ka : 9 + a ≤ 64 = omega arith in
    let kb : 9 + b ≤ 64 = omega arith in
    rw (shl_exact {a = m} 9 a 64 hm ka, shl_exact {a = n} 9 b 64 hn kb) (rw (ea, eb) (below_by_shift m s n t hm hn))

pub darker_test : (reading : Reading) (p q : Rgbe) (m s n t : ℕ) (b : Bool) → m ≡ top_of reading p → n ≡ top_of reading q → s ≡ shift_of reading p.e → t ≡ shift_of reading q.e
    → b ≡ ltb (m * 2 ^ s) (n * 2 ^ t) → b ≡ ltb (light_of reading p) (light_of reading q)
darker_test reading p q m s n t b em en es et eb = rw (← light_is reading p, ← light_is reading q, ← em, ← en, ← es, ← et) eb

-- ---- Black

pub black_test : (reading : Reading) (q : Rgbe) (m : ℕ) → m ≡ top_of reading q → eqb m 0 ≡ is_black reading q
unfolding is_black
black_test reading q m e = rw (← light_is reading q, ← e) (⊎_elim some none (lt_or_ge 0 m))
  where
    none : m ≤ 0 → eqb m 0 ≡ eqb (m * 2 ^ shift_of reading q.e) 0
    none h = let z : m ≡ 0 = omega arith in rw z (rw zero-mul)

    some : 0 < m → eqb m 0 ≡ eqb (m * 2 ^ shift_of reading q.e) 0
    some h =
        let k = mul-le-mul_right (2 ^ shift_of reading q.e) h in
        let p = pow_pos (shift_of reading q.e) in
        ne_eqb m 0 (λ z. omega arith) ∙ sym (ne_eqb (m * 2 ^ shift_of reading q.e) 0 (λ z. omega arith))

module _ (reading : Reading) (q : Rgbe) (b : Bool) (eb : b ≡ is_black reading q) where
  pub masked_black : b ≡ true → false ≡ is_masked reading q
  unfolding is_masked
  masked_black t = simp (sym eb ∙ t)

  pub masked_low : b ≡ false → q.e < 97 → true ≡ is_masked reading q
  unfolding is_masked
  masked_low t h = simp (sym eb ∙ t, lt-ltb q.e 97 h)

  pub masked_high : b ≡ false → 97 ≤ q.e → ltb 159 q.e ≡ is_masked reading q
  unfolding is_masked
  masked_high t h = simp (sym eb ∙ t, le-ltb q.e 97 h)

  -- ---- The darker and the brighter

  module _ (p : Rgbe) where
    pub darker_black : b ≡ true → p ≡ darker reading p q
    unfolding darker
    darker_black t = simp (sym eb ∙ t)

    module _ (t : b ≡ false) (a : Bool) (ea : a ≡ is_black reading p) where
      pub darker_first : a ≡ true → q ≡ darker reading p q
      unfolding darker
      darker_first u = simp (sym eb ∙ t, sym ea ∙ u)

      module _ (d : Bool) (ed : d ≡ ltb (light_of reading q) (light_of reading p)) (u : a ≡ false) where
        pub darker_is : d ≡ true → q ≡ darker reading p q
        unfolding darker
        darker_is v = simp (sym eb ∙ t, sym ea ∙ u, sym ed ∙ v)

        pub darker_not : d ≡ false → p ≡ darker reading p q
        unfolding darker
        darker_not v = simp (sym eb ∙ t, sym ea ∙ u, sym ed ∙ v)

module _ (reading : Reading) (p q : Rgbe) (d : Bool) (ed : d ≡ ltb (light_of reading p) (light_of reading q)) where
  pub brighter_is : d ≡ true → q ≡ brighter reading p q
  unfolding brighter
  brighter_is v = simp (sym ed ∙ v)

  pub brighter_not : d ≡ false → p ≡ brighter reading p q
  unfolding brighter
  brighter_not v = simp (sym ed ∙ v)
