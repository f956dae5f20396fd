-- How much a row and a power of two can be.
use Rattle.std.proofs.Common.{◌≡◌, ℕ, ◌+◌, ◌*◌, ◌%◌, ◌^◌, ◌<◌, ◌≤◌, ◌&&◌, leb, List, length, refl, ◌∙◌, mod-lt, arith, pow_pos, pow_mono, shl_exact, leb-true}
use Rattle.steps.proofs.Laws.Turns.{by_test, and_right}
use Rattle.rows_written.specs.Row.{written_row, worst_row}
use Rattle.steps.specs.Width.{is_coded}
use Rattle.rows_written.proofs.Laws.Worst.{row_worst}

-- ---- A row as it is written

worst_small : (w : ℕ) → w ≤ 65535 → worst_row w ≤ 262144
unfolding worst_row is_coded
worst_small w h =
    by_test (λ (n : ℕ). n ≤ 262144) (leb 8 w && leb w 32767)
    (λ t. let l = leb-true w 32767 (and_right (leb 8 w) (leb w 32767) t) in omega arith)
    (λ t. omega arith)

module _ (px : List ℕ) (at w : ℕ) (h : w ≤ 65535) where
  pub row_small : (n : ℕ) → n ≡ length (written_row px at w) → n ≤ 262144
  row_small n e = omega (arith, row_worst px at w, worst_small w h)

  pub row_half : length (written_row px at w) ≤ 262144
  row_half = row_small (length (written_row px at w)) refl

-- ---- A power of two

power_small : (j : ℕ) → j ≤ 40 → 2 ^ j ≤ 2000000000000
power_small j h = omega (arith, pow_mono {i = j} {j = 40} h)

pub power_is : (j : ℕ) → j ≤ 40 → (1 * 2 ^ j) % 2 ^ 64 ≡ 2 ^ j
power_is j h =
    let k : 1 + j ≤ 64 = omega arith in
    let one : 1 * 2 ^ j ≡ 2 ^ j = omega arith in
    shl_exact {a = 1} 1 j 64 (omega arith) k ∙ one

pub power_bounds : (j : ℕ) → j ≤ 40 → (0 < (1 * 2 ^ j) % 2 ^ 64) × ((1 * 2 ^ j) % 2 ^ 64 ≤ 2000000000000)
power_bounds j h = rw (power_is j h) (pow_pos j, power_small j h)

pub rest_less : (n unit : ℕ) → 0 < unit → n % unit < unit
rest_less n unit h = mod-lt n h
