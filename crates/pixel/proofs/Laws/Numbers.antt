-- Small laws of natural numbers, and of powers of two, that the others lean on.
use mathlib.Core.Path.{◌≡◌, refl, sym, ap, ◌∙◌}
use mathlib.Core.Bool.{Bool, true, false}
use mathlib.Core.Logic.{⊎_elim}
use Prim.Native.Nat.{ℕ, ◌+◌, ◌*◌, ◌^◌, ◌≤◌, ◌<◌}
use native.Mathlib.Nat.{mul_assoc, mul_right_comm}
use native.Mathlib.Omega.{arith}
use lib.Dec.{ltb}
use lib.Pow.{pow-add}
use Rattle.steps.proofs.Laws.Order.{lt_or_ge}
use borrow.Author.Tests.{lt-ltb, le-ltb, ltb-true, ltb-false}

-- two tests that hold together are one
pub same_test : (a b c d : ℕ) → (a < b → c < d) → (c < d → a < b) → ltb a b ≡ ltb c d
same_test a b c d f g = go (ltb a b) refl
  where
    go : (t : Bool) → ltb a b ≡ t → ltb a b ≡ ltb c d
    go true e = e ∙ sym (lt-ltb c d (f (ltb-true a b e)))
    go false e = e ∙ sym (⊎_elim (λ l. absurd (never (ltb-false a b e) (g l))) (λ l. le-ltb c d l) (lt_or_ge c d))
      where
        never : b ≤ a → a < b → ⊥
        never p q = omega arith

-- a product of powers
pub pow_pow : (a b c : ℕ) → a + b ≡ c → 2 ^ a * 2 ^ b ≡ 2 ^ c
pow_pow a b c h = sym (pow-add 2 a b) ∙ ap (λ (z : ℕ). 2 ^ z) h

pub mul_pow_pow : (m a b c : ℕ) → a + b ≡ c → m * 2 ^ a * 2 ^ b ≡ m * 2 ^ c
mul_pow_pow m a b c h = mul_assoc m (2 ^ a) (2 ^ b) ∙ ap (λ (z : ℕ). m * z) (pow_pow a b c h)

-- two fractions x / d and y / e, which are a / l and b / l, over the common denominator d * e
module _ (x d y e l a b : ℕ) (h : x * l ≡ a * d) (k : y * l ≡ b * e) where
  pub over_left : x * e * l ≡ a * (d * e)
  over_left = mul_right_comm x e l ∙ ap (λ (z : ℕ). z * e) h ∙ mul_assoc a d e

  pub over_right : y * d * l ≡ b * (d * e)
  over_right = mul_right_comm y d l ∙ ap (λ (z : ℕ). z * d) k ∙ mul_right_comm b e d ∙ mul_assoc b d e
