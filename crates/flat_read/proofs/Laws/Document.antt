-- The laws of the document reading of `specs/Flat.antt`: of n times 256^k, and of copies.
use Prim.Native.Nat.{ℕ, zero, suc, ◌+◌, ◌-◌, ◌*◌, ◌^◌, min, ◌<◌, ◌≤◌}
use native.Mathlib.Nat.{mul-le-mul_right, one-mul, zero-mul, one-le-pow}
use native.Mathlib.Numerals.{add-one}
use native.Mathlib.Omega.{arith}
use mathlib.Core.List.{List, [], ◌∷◌, ◌++◌, append_assoc, append-nil}
use mathlib.Core.Path.{◌≡◌, refl, sym, ap, ◌∙◌}
use lib.ListN.{length, get_or, set, length-append}
use lib.Pow.{pow-add}
use Rattle.steps.specs.Place.{bytes_from, spread}
use Rattle.steps.proofs.Laws.Place.{spread_append}
use Rattle.steps.specs.Answer.{Taken}
use Rattle.steps.specs.declared.Reading.{Reading}
use Rattle.steps.specs.declared.Reading.TheVariants.{Crate, Document}
use Rattle.flat_read.specs.Flat.{copies, copies_to, crate_flat, document_flat, flat_rule, flat_of}

-- ---- n times 256^k, up to 65,536

pub times_none : (n k : ℕ) → n ≡ 0 → 0 ≡ min (n * 256 ^ k) 65536
times_none n k e = rw (e, zero-mul)

pub times_once : (n k : ℕ) → n < 256 → k ≡ 0 → n ≡ min (n * 256 ^ k) 65536
times_once n k h e = rw e (omega arith)

pub times_256 : (n k : ℕ) → n < 256 → k ≡ 1 → n * 256 ≡ min (n * 256 ^ k) 65536
times_256 n k h e = rw e (omega arith)

pub times_most : (n k : ℕ) → (n ≡ 0 → ⊥) → (k ≡ 0 → ⊥) → (k ≡ 1 → ⊥) → 65536 ≡ min (n * 256 ^ k) 65536
times_most n k h k0 k1 =
    let two : k ≡ 2 + (k - 2) = omega arith in
    let power : 256 ^ k ≡ 65536 * 256 ^ (k - 2) = ap (λ (i : ℕ). 256 ^ i) two ∙ pow-add 256 2 (k - 2) in
    let most : 1 * 256 ^ k ≤ n * 256 ^ k = mul-le-mul_right (256 ^ k) (omega arith) in
    omega (arith, one-mul (256 ^ k), one-le-pow (k - 2) 256 (omega arith))

-- where fewer are wanted, it does not matter what is above
module _ (t n wanted : ℕ) (en : n ≡ min t 65536) (w : wanted ≤ 65535) where
  pub past : wanted < n → wanted < t
  past h = omega arith

  pub exact : n ≤ wanted → n ≡ t
  exact h = omega arith

-- ---- Copies

length_copies : (n : ℕ) (q : List ℕ) → length q ≡ 4 → length (copies n q) ≡ 4 * n
length_copies zero q h = refl
length_copies (suc n) q h = length-append q (copies n q) ∙ omega (arith, length_copies n q h, h)

copies_snoc : (n : ℕ) (q : List ℕ) → copies n q ++ q ≡ copies (suc n) q
copies_snoc zero q = sym (append-nil q)
copies_snoc (suc n) q = append_assoc q (copies n q) q ∙ ap (λ (l : List ℕ). q ++ l) (copies_snoc n q)

module _ (r g b e : ℕ) where
  abbrev pub four : List ℕ
  four = r ∷ g ∷ b ∷ e ∷ []

  -- four stores one after another
  pub put_four : (s : List ℕ) (i : ℕ) → set (set (set (set s i r) (i + 1) g) (i + 2) b) (i + 3) e ≡ spread 1 s i four
  unfolding spread
  put_four s i =
      let i2 : i + 2 ≡ i + 1 + 1 = omega arith in
      let i3 : i + 3 ≡ i + 1 + 1 + 1 = omega arith in
      rw (i2, i3)

  -- one copy more
  pub copy_next : (s s' s'' : List ℕ) (i k j : ℕ) → s' ≡ spread 1 s i (copies k four) → j ≡ i + 4 * k → s'' ≡ spread 1 s' j four → s'' ≡ spread 1 s i (copies (k + 1) four)
  copy_next s s' s'' i k j e ej e' =
      let place : j ≡ i + 1 * length (copies k four) = omega (arith, length_copies k four refl) in
      rw (e', e, place, add-one k) (sym (spread_append 1 s i (copies k four) four) ∙ ap (spread 1 s i) (copies_snoc k four))

  -- the four bytes before a place
  pub copies_all : (s s' : List ℕ) (place n k : ℕ) → s' ≡ spread 1 s place (copies k four) → k ≤ n → n ≤ k → 4 ≤ place → r ≡ get_or s (place - 4) 0 → g ≡ get_or s (place - 3) 0 → b ≡ get_or s (place - 2) 0 → e ≡ get_or s (place - 1) 0
      → s' ≡ copies_to s place n
  unfolding copies_to bytes_from
  copies_all s s' place n k es most least h er eg eb ee =
      let all : k ≡ n = omega arith in
      let p1 : place - 4 + 1 ≡ place - 3 = omega arith in
      let p2 : place - 3 + 1 ≡ place - 2 = omega arith in
      let p3 : place - 2 + 1 ≡ place - 1 = omega arith in
      es ∙ rw (all, p1, p2, p3, ← er, ← eg, ← eb, ← ee)

-- ---- By the reading that the code has in hand

module _ (reading : Reading) (src : List ℕ) (at : ℕ) (store : List ℕ) (start wanted : ℕ) (a : Taken × List ℕ) where
  pub by_crate : reading ≡ Crate → a ≡ flat_of crate_flat src at store start wanted → a ≡ flat_of (flat_rule reading) src at store start wanted
  by_crate r e = rw r e

  pub by_document : reading ≡ Document → a ≡ flat_of document_flat src at store start wanted → a ≡ flat_of (flat_rule reading) src at store start wanted
  by_document r e = rw r e
