-- The laws that proofs use of `specs/Samples.antt`, and what refusal 12 names.
use Prim.Native.Nat.{ℕ, zero, suc, ◌+◌, ◌-◌, ◌*◌, ◌<◌, ◌≤◌}
use mathlib.Core.Logic.{⊎_elim}
use mathlib.Core.Bool.{Bool, true, false}
use Rattle.std.specs.Prelude.{Some}
use mathlib.Core.List.{List, [], ◌∷◌, ◌++◌}
use mathlib.Core.Path.{◌≡◌, refl, sym, ap, ◌∙◌}
use native.Mathlib.Nat.{not-suc-le-zero, mul-suc, mul-zero, mul-le-mul_left}
use native.Mathlib.Numerals.{add-one}
use native.Mathlib.Omega.{arith}
use lib.ListN.{length, set}
use lib.Ieee.{Float}
use Rattle.steps.proofs.Laws.Order.{lt_or_ge}
use Rattle.steps.specs.Loop.{pick}
use Rattle.steps.specs.Place.{spread}
use Rattle.steps.proofs.Laws.Place.{spread_then}
use Rattle.pixel.specs.declared.Pixel.{Pixel}
use Rattle.pixel.specs.declared.Rgbe.{Rgbe}
use Rattle.pixel.specs.Rgbe.{bytes_of, too_bright}
use Rattle.frames_written.specs.Samples.{pixel_at, four, packed, first_bright, FirstOf, FirstBright}

-- ---- Places

-- row k ends within h rows
pub row_within : (w h k : ℕ) → k < h → w * k + w ≤ w * h
row_within w h k l = omega (arith, mul-suc w k, mul-le-mul_left {m = suc k} {n = h} w l)

-- the rows up to row k, and row k
pub row_more : (w k : ℕ) → w * (k + 1) ≡ w * k + w
row_more w k = omega (arith, ap (λ (n : ℕ). w * n) (add-one k), mul-suc w k)

-- ---- The bytes of pixels

pub put_four : (s : List ℕ) (o a b c d : ℕ) → set (set (set (set s o a) (o + 1) b) (o + 2) c) (o + 3) d ≡ spread 1 s o (a ∷ b ∷ c ∷ d ∷ [])
unfolding spread
put_four s o a b c d =
    let j : o + 2 ≡ o + 1 + 1 = omega arith in
    let k : o + 3 ≡ o + 1 + 1 + 1 = omega arith in
    rw (j, k)

pub length_packed : (samples : List Float) (i n : ℕ) → length (packed samples i n) ≡ 4 * n
unfolding packed
length_packed samples i zero = refl
length_packed samples i (suc n) = omega (arith, length_packed samples (i + 3) n)

-- some pixels, and those after them
pub packed_append : (samples : List Float) (i m n : ℕ) → packed samples i (m + n) ≡ packed samples i m ++ packed samples (i + 3 * m) n
unfolding packed
packed_append samples i zero n =
    let none : zero + n ≡ n = omega arith in
    let here : i ≡ i + 3 * 0 = omega arith in
    ap (packed samples i) none ∙ ap (λ (j : ℕ). packed samples j n) here
packed_append samples i (suc m) n =
    let more : suc m + n ≡ suc (m + n) = omega arith in
    let next : i + 3 + 3 * m ≡ i + 3 * suc m = omega arith in
    ap (packed samples i) more
    ∙ ap (four (bytes_of (pixel_at samples i))) (packed_append samples (i + 3) m n ∙ ap (λ (j : ℕ). packed samples (i + 3) m ++ packed samples j n) next)

-- a loop that stores pixels from the front: one pixel's bytes more
pub packed_start : (s : List ℕ) (i : ℕ) (samples : List Float) (j : ℕ) → s ≡ spread 1 s i (packed samples j 0)
unfolding spread packed
packed_start s i samples j = refl

pub packed_next : (s out out' : List ℕ) (to i k o : ℕ) (samples : List Float) (p : Pixel) (q : Rgbe) → out ≡ spread 1 s to (packed samples i k)
    → o ≡ to + 4 * k → p ≡ pixel_at samples (i + 3 * k) → q ≡ bytes_of p → out' ≡ spread 1 out o (four q []) → out' ≡ spread 1 s to (packed samples i (k + 1))
unfolding packed
packed_next s out out' to i k o samples p q e eo ep eq es =
    let place : o ≡ to + length (packed samples i k) = omega (arith, length_packed samples i k) in
    es
    ∙ ap (λ (r : Rgbe). spread 1 out o (four r [])) (eq ∙ ap bytes_of ep)
    ∙ sym (spread_then s out to o (packed samples i k) (packed samples (i + 3 * k) 1) e place)
    ∙ ap (spread 1 s to) (sym (packed_append samples i k 1))

-- ---- The first pixel that is too bright

module _ (samples : List Float) where
  pub by_test : (i n : ℕ) (t : Bool) → too_bright (pixel_at samples i) ≡ t → first_bright samples i (suc n) ≡ pick t zero (suc (first_bright samples (i + 3) n))
  unfolding first_bright
  by_test i n true e = rw (e, first_bright)
  by_test i n false e = rw (e, first_bright)

  pub bright_most : (i n : ℕ) → first_bright samples i n ≤ n
  unfolding first_bright
  bright_most i zero = omega arith
  bright_most i (suc n) = go (too_bright (pixel_at samples i)) refl (bright_most (i + 3) n)
    where
      go : (t : Bool) → too_bright (pixel_at samples i) ≡ t → first_bright samples (i + 3) n ≤ n → first_bright samples i (suc n) ≤ suc n
      go true e rec = omega (arith, by_test i n true e)
      go false e rec = omega (arith, by_test i n false e)

  -- it is too bright
  named : (i n : ℕ) → first_bright samples i n < n → too_bright (pixel_at samples (i + 3 * first_bright samples i n)) ≡ true
  named i zero h = absurd (not-suc-le-zero h)
  named i (suc n) h = go (too_bright (pixel_at samples i)) refl (λ l. named (i + 3) n l)
    where
      go : (t : Bool) → too_bright (pixel_at samples i) ≡ t
          → (first_bright samples (i + 3) n < n → too_bright (pixel_at samples (i + 3 + 3 * first_bright samples (i + 3) n)) ≡ true)
          → too_bright (pixel_at samples (i + 3 * first_bright samples i (suc n))) ≡ true
      go true e rec =
          let here : i + 3 * first_bright samples i (suc n) ≡ i = omega (arith, by_test i n true e) in
          rw here e
      go false e rec =
          let next : i + 3 * first_bright samples i (suc n) ≡ i + 3 + 3 * first_bright samples (i + 3) n = omega (arith, by_test i n false e) in
          rw next (rec (omega (arith, by_test i n false e)))

  -- none before it is
  before : (i n k : ℕ) → k < first_bright samples i n → too_bright (pixel_at samples (i + 3 * k)) ≡ false
  unfolding first_bright
  before i zero k h = absurd (not-suc-le-zero h)
  before i (suc n) k h = go (too_bright (pixel_at samples i)) refl k h (λ j l. before (i + 3) n j l)
    where
      go : (t : Bool) → too_bright (pixel_at samples i) ≡ t → (k : ℕ) → k < first_bright samples i (suc n)
          → ((j : ℕ) → j < first_bright samples (i + 3) n → too_bright (pixel_at samples (i + 3 + 3 * j)) ≡ false) → too_bright (pixel_at samples (i + 3 * k)) ≡ false
      go true e k h rec = absurd (omega (arith, by_test i n true e))
      go false e zero h rec =
          let here : i + 3 * 0 ≡ i = omega arith in
          rw here e
      go false e (suc k) h rec =
          let next : i + 3 * suc k ≡ i + 3 + 3 * k = omega arith in
          rw next (rec k (omega (arith, by_test i n false e)))

  -- ---- every one of n pixels can be written

  pub none_each : (i n : ℕ) → first_bright samples i n ≡ n → (k : ℕ) → k < n → too_bright (pixel_at samples (i + 3 * k)) ≡ false
  none_each i n none k l = before i n k (omega arith)

  pub each_none : (i n : ℕ) → ((k : ℕ) → k < n → too_bright (pixel_at samples (i + 3 * k)) ≡ false) → first_bright samples i n ≡ n
  unfolding first_bright
  each_none i zero each = refl
  each_none i (suc n) each =
      let here : i + 3 * 0 ≡ i = omega arith in
      let rest = each_none (i + 3) n (λ k l. let next : i + 3 * suc k ≡ i + 3 + 3 * k = omega arith in rw next at (each (suc k) (omega arith))) in
      omega (arith, by_test i n false (rw here at (each 0 (omega arith))), rest)

  -- some of them, from pixel m on
  pub none_part : (i n m j : ℕ) → first_bright samples i n ≡ n → m + j ≤ n → first_bright samples (i + 3 * m) j ≡ j
  none_part i n m j none l =
      each_none (i + 3 * m) j (λ k h. let place : i + 3 * (m + k) ≡ i + 3 * m + 3 * k = omega arith in rw place at (none_each i n none (m + k) (omega arith)))

  module _ (i n : ℕ) (none : first_bright samples i n ≡ n) (some : 0 < n) where
    pub none_here : too_bright (pixel_at samples i) ≡ false
    none_here =
        let here : i + 3 * 0 ≡ i = omega arith in
        rw here at (none_each i n none 0 some)

  pub none_start : (i : ℕ) → first_bright samples i 0 ≡ 0
  none_start i = omega (arith, bright_most i 0)

  -- ---- a search: the first m can be written, and then n come

  pub bright_append : (i m n : ℕ) → first_bright samples i m ≡ m → first_bright samples i (m + n) ≡ m + first_bright samples (i + 3 * m) n
  bright_append i zero n none =
      let here : i + 3 * 0 ≡ i = omega arith in
      let some : zero + n ≡ n = omega arith in
      omega (arith, ap (first_bright samples i) some, ap (λ (j : ℕ). first_bright samples j n) here)
  bright_append i (suc m) n none =
      let more : suc m + n ≡ suc (m + n) = omega arith in
      let next : i + 3 + 3 * m ≡ i + 3 * suc m = omega arith in
      let rest = bright_append (i + 3) m n (none_part' i m none) in
      omega (arith, ap (first_bright samples i) more, by_test i (m + n) false (none_here i (suc m) none (omega arith)), rest, ap (λ (j : ℕ). first_bright samples j n) next)
    where
      none_part' : (i m : ℕ) → first_bright samples i (suc m) ≡ suc m → first_bright samples (i + 3) m ≡ m
      none_part' i m none =
          let next : i + 3 * 1 ≡ i + 3 = omega arith in
          rw next at (none_part i (suc m) 1 m none (omega arith))

  -- what is found does not move where more pixels follow
  pub bright_more : (i n m : ℕ) → first_bright samples i n < n → first_bright samples i (n + m) ≡ first_bright samples i n
  bright_more i zero m l = absurd (not-suc-le-zero l)
  bright_more i (suc n) m l = go (too_bright (pixel_at samples i)) refl (λ h. bright_more (i + 3) n m h)
    where
      more : suc n + m ≡ suc (n + m)
      more = omega arith

      go : (t : Bool) → too_bright (pixel_at samples i) ≡ t → (first_bright samples (i + 3) n < n → first_bright samples (i + 3) (n + m) ≡ first_bright samples (i + 3) n)
          → first_bright samples i (suc n + m) ≡ first_bright samples i (suc n)
      go true e rec = ap (first_bright samples i) more ∙ by_test i (n + m) true e ∙ sym (by_test i n true e)
      go false e rec = omega (arith, ap (first_bright samples i) more, by_test i (n + m) false e, by_test i n false e, rec (omega (arith, by_test i n false e)))

  -- the next of n pixels can be written
  pub bright_next : (i k : ℕ) (p : Pixel) (t : Bool) → first_bright samples i k ≡ k → p ≡ pixel_at samples (i + 3 * k) → t ≡ too_bright p → t ≡ false → first_bright samples i (k + 1) ≡ k + 1
  bright_next i k p t none ep et is =
      omega (arith, bright_append i k 1 none, by_test (i + 3 * k) 0 false (ap too_bright (sym ep) ∙ sym et ∙ is), bright_most (i + 3 * k + 3) 0)

  -- or it cannot
  pub bright_found : (i k n : ℕ) (p : Pixel) (t : Bool) → k < n → first_bright samples i k ≡ k → p ≡ pixel_at samples (i + 3 * k) → t ≡ too_bright p → t ≡ true
      → FirstOf samples i n (Some k)
  bright_found i k n p t l none ep et is =
      let rest : ℕ = n - (k + 1) in
      let more : n ≡ k + suc rest = omega arith in
      (l, omega (arith, ap (first_bright samples i) more, bright_append i k (suc rest) none, by_test (i + 3 * k) rest true (ap too_bright (sym ep) ∙ sym et ∙ is)))

  pub rows_start : (w : ℕ) → first_bright samples 0 (w * 0) ≡ w * 0
  rows_start w = let none : w * 0 ≡ 0 = omega (arith, mul-zero w) in rw none (none_start 0)

  -- the next of h rows can be written
  pub rows_next : (w k : ℕ) → first_bright samples 0 (w * k) ≡ w * k → first_bright samples (3 * (w * k)) w ≡ w → first_bright samples 0 (w * (k + 1)) ≡ w * (k + 1)
  rows_next w k none next =
      let here : 0 + 3 * (w * k) ≡ 3 * (w * k) = omega arith in
      omega (arith, ap (first_bright samples 0) (row_more w k), bright_append 0 (w * k) w none, ap (λ (i : ℕ). first_bright samples i w) here, row_more w k)

  -- or one of its pixels cannot
  pub rows_found : (w h k c : ℕ) → k < h → first_bright samples 0 (w * k) ≡ w * k → FirstOf samples (3 * (w * k)) w (Some c) → FirstOf samples 0 (w * h) (Some (w * k + c))
  rows_found w h k c l none f =
      let here : 0 + 3 * (w * k) ≡ 3 * (w * k) = omega arith in
      let within = row_within w h k l in
      let rest : ℕ = w * h - (w * k + w) in
      let more : w * h ≡ w * k + (w + rest) = omega arith in (
        omega (arith, f.0),
        omega (arith, ap (first_bright samples 0) more, bright_append 0 (w * k) (w + rest) none, ap (λ (i : ℕ). first_bright samples i (w + rest)) here, bright_more (3 * (w * k)) w rest (omega (arith, f.0, f.1)), f.1),
      )

  -- ---- what is named

  here : (j : ℕ) → 0 + 3 * j ≡ 3 * j
  here j = omega arith

  pub differ : {t : Bool} → t ≡ true → t ≡ false → ⊥
  differ p q = let z : ◌≡◌ {A = ℕ} 0 1 = cc in omega arith

  -- the pixel that is named is the first that is too bright
  pub first_named : (n k : ℕ) → k ≡ first_bright samples 0 n → k < n → FirstBright samples n k
  first_named n k e h =
      record {
        within = h;
        bright = rw e (rw (here (first_bright samples 0 n)) at (named 0 n (omega arith)));
        first = λ j l. rw (here j) at (before 0 n j (omega arith));
      }

  -- and no other is
  pub first_only : (n k : ℕ) → FirstBright samples n k → first_bright samples 0 n ≡ k
  first_only n k f =
      let first : ℕ = first_bright samples 0 n in
      ⊎_elim
      (λ l. absurd (differ (rw (here first) at (named 0 n (omega (arith, f.within)))) (f.first first l)))
      (λ l. ⊎_elim (λ g. absurd (differ f.bright (rw (here k) at (before 0 n k g)))) (λ g. omega arith) (lt_or_ge k first))
      (lt_or_ge first k)

  -- where some pixel is too bright, there is a first
  pub first_exists : (n j : ℕ) → j < n → too_bright (pixel_at samples (3 * j)) ≡ true → FirstBright samples n (first_bright samples 0 n)
  first_exists n j h e =
      first_named n (first_bright samples 0 n) refl
      (⊎_elim (λ l. l) (λ g. absurd (differ e (rw (here j) at (before 0 n j (omega arith))))) (lt_or_ge (first_bright samples 0 n) n))
