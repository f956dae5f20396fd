-- Four bytes as one word, and the word taken apart again.
use mathlib.Core.Path.{◌≡◌}
use Prim.Native.Nat.{ℕ, ◌+◌, ◌*◌, ◌/◌, ◌%◌, ◌<◌}
use native.Mathlib.Omega.{arith}
use Rattle.pixel.specs.declared.Rgbe.{Rgbe}

-- a word is taken apart into its four bytes
module _ (a b c d w : ℕ) (ha : a < 256) (hb : b < 256) (hc : c < 256) (hd : d < 256) (e : w ≡ a + b * 256 + c * 65536 + d * 16777216) where
  first : w % 256 ≡ a
  first = omega arith

  second : w / 256 % 256 ≡ b
  second = omega arith

  third : w / 65536 % 256 ≡ c
  third = omega arith

  fourth : w / 16777216 % 256 ≡ d
  fourth = omega arith

  pub word_parts : ◌≡◌ {A = Rgbe} (record { r = w % 256; g = w / 256 % 256; b = w / 65536 % 256; e = w / 16777216 % 256 }) (record { r = a; g = b; b = c; e = d })
  word_parts = λ i. record { r = first i; g = second i; b = third i; e = fourth i }
