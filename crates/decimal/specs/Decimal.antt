-- A whole number over a power of two, in decimal.
use Rattle.std.specs.Prelude.{ℕ, zero, suc, ◌+◌, ◌*◌, ◌/◌, ◌%◌, ◌^◌, ◌≤◌, List, [], ◌∷◌, ◌⊎◌, ◌≡◌}

-- m / 2^j is n / 2^k, and no lesser k will do
pub record Reduced (m j n k : ℕ) : Type 0 where
  pub same : n * 2 ^ j ≡ m * 2 ^ k
  pub within : k ≤ j
  pub least : (k ≡ 0) ⊎ (n % 2 ≡ 1)

-- the first d decimals of rest / unit, which is below 1: ten times the rest over the unit is the next digit, and what remains goes on
unfoldable pub decimals_of : ℕ → ℕ → ℕ → List ℕ
decimals_of rest unit zero = []
decimals_of rest unit (suc d) = (48 + 10 * rest / unit) ∷ decimals_of (10 * rest % unit) unit d
