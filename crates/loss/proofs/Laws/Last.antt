-- The last byte of a written pixel by its largest sample: below 2^-32, from there to below 2^31, and from 2^31 on.
use mathlib.Core.Path.{◌≡◌}
use Prim.Native.Nat.{ℕ, ◌+◌, ◌-◌, ◌^◌, ◌≤◌, ◌<◌}
use native.Mathlib.Nat.{lt_of_lt_of_le}
use native.Mathlib.Omega.{arith}
use lib.Dec.{lit<}
use lib.Ieee.{size}
use lib.Ieee.Digits.{size-le}
use Rattle.pixel.specs.declared.Pixel.{Pixel}
use Rattle.pixel.specs.Rgbe.{peak, dark, bytes_of}
use Rattle.pixel.proofs.Laws.Digits.{size_gt, size_low}
use Rattle.loss.proofs.Laws.Written.{last_byte}

between : (e n low high : ℕ) → e ≡ n - 21 → low + 21 ≤ n → n ≤ high + 21 → (low ≤ e) × (e ≤ high)
between e n low high is l h = omega arith

pub darker_last : (p : Pixel) → dark < peak p → peak p < 2 ^ 117 → (22 ≤ (bytes_of p).e) × ((bytes_of p).e ≤ 96)
darker_last p l h =
    between (bytes_of p).e (size (peak p)) 22 96 (last_byte p l) (size_low (peak p) l) (size-le (peak p) 117 h)

pub range_last : (p : Pixel) → 2 ^ 117 ≤ peak p → peak p < 2 ^ 180 → (97 ≤ (bytes_of p).e) × ((bytes_of p).e ≤ 159)
range_last p l h =
    between (bytes_of p).e (size (peak p)) 97 159
    (last_byte p (lt_of_lt_of_le (lit< {m = dark} {n = 2 ^ 117} tt) l))
    (size_gt (peak p) 117 l) (size-le (peak p) 180 h)

pub brighter_last : (p : Pixel) → 2 ^ 180 ≤ peak p → peak p < 2 ^ 276 → (160 ≤ (bytes_of p).e) × ((bytes_of p).e ≤ 255)
brighter_last p l h =
    between (bytes_of p).e (size (peak p)) 160 255
    (last_byte p (lt_of_lt_of_le (lit< {m = dark} {n = 2 ^ 180} tt) l)) (size_gt (peak p) 180 l) (size-le (peak p) 276 h)
