-- The laws that proofs use of `specs/Amount.antt`.
use Prim.Native.Nat.{ℕ, ◌^◌, ◌<◌, ◌≤◌}
use mathlib.Core.Path.{◌≡◌, ap, ◌∙◌}
use native.Mathlib.Omega.{arith}
use borrow.Author.Tests.{lt-ltb, le-ltb}
use lib.Dec.{ltb}
use Rattle.std.specs.Prelude.{Option, Some, None}
use Rattle.std.specs.Option.{SomeIff}
use Rattle.steps.specs.Amount.{amount_of}
use Rattle.steps.proofs.Laws.Order.{by_order}

pub amount_fits : (n : ℕ) → n < 2 ^ 64 → Some n ≡ amount_of n
unfolding amount_of
amount_fits n h = simp (lt-ltb n (2 ^ 64) h)

pub amount_none : (n : ℕ) → 2 ^ 64 ≤ n → None ≡ amount_of n
unfolding amount_of
amount_none n h = simp (le-ltb n (2 ^ 64) h)

-- what a checked operation answers
pub amount_by : (n : ℕ) (a : Option ℕ) → SomeIff a (n < 2 ^ 64) n → a ≡ amount_of n
amount_by n None h = by_order n (2 ^ 64) (λ l. absurd (h l)) (amount_none n)
amount_by n (Some x) h = ap Some h.1 ∙ amount_fits n h.0

-- where there is none, there is none of more
pub amount_passes : (n more : ℕ) → (n < 2 ^ 64 → ⊥) → n ≤ more → None ≡ amount_of more
amount_passes n more h l = by_order n (2 ^ 64) (λ k. absurd (h k)) (λ k. amount_none more (omega arith))
