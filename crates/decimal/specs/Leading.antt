-- The first nine digits of a whole number.
use Rattle.std.specs.Prelude.{ℕ, ◌/◌, ◌^◌, ◌≤◌, ◌<◌, ◌⊎◌, ◌≡◌}

-- n has at most 112 digits
unfoldable pub Short : ℕ → Type 0
Short n = n < 10 ^ 112

-- n is `lead` and `more` digits after it, which are cut off; lead has nine digits, or all that there are
pub record Leads (n lead more : ℕ) : Type 0 where
  pub is : lead ≡ n / 10 ^ more
  pub few : lead < 1000000000
  pub enough : (more ≡ 0) ⊎ (100000000 ≤ lead)
