-- A sum and a difference of two values that are not negative, each rounded once.
use mathlib.Core.Path.{◌≡◌, sym, ap, ◌∙◌, subst}
use mathlib.Core.Bool.{Bool, true, false, not, cond}
use Prim.Native.Nat.{ℕ, ◌+◌, ◌-◌, ◌*◌, ◌^◌, ◌≤◌, ◌<◌}
use native.Mathlib.Nat.{mul-pos, mul_comm, add-mul, mul-sub, mul-le-mul_right, le_of_mul-le-mul_right}
use lib.Pow.{pow_pos}
use lib.Ieee.{Float, nan, inf, fin, binary32, up, down, round, sum, add, sub, neg}
use lib.Ieee.Fits.{down_pos}
use lib.Ieee.Scale.{round_same}
use borrow.Author.Tests.{le-ltb}
use Rattle.pixel.specs.Units.{of_units, Exactly}
use Rattle.pixel.proofs.Laws.Numbers.{over_left, over_right}

sub_mul : (a b l : ℕ) → (a - b) * l ≡ a * l - b * l
sub_mul a b l = mul_comm (a - b) l ∙ mul-sub l a b ∙ ap (λ (z : ℕ). z - l * b) (mul_comm l a) ∙ ap (λ (z : ℕ). a * l - z) (mul_comm l b)

-- the sum and the difference of x / d and y / e, which are a / l and b / l, over d * e
module _ (x d y e l a b : ℕ) (h : x * l ≡ a * d) (k : y * l ≡ b * e) where
  over_sum : (x * e + y * d) * l ≡ (a + b) * (d * e)
  over_sum = add-mul (x * e) (y * d) l ∙ ap (λ (z : ℕ). z + y * d * l) (over_left x d y e l a b h k) ∙ ap (λ (z : ℕ). a * (d * e) + z) (over_right x d y e l a b h k) ∙ sym (add-mul a b (d * e))

  over_order : 0 < l → b ≤ a → y * d ≤ x * e
  over_order L o =
      le_of_mul-le-mul_right
      (subst (λ (z : ℕ). z ≤ x * e * l) (sym (over_right x d y e l a b h k)) (subst (λ (z : ℕ). b * (d * e) ≤ z) (sym (over_left x d y e l a b h k)) (mul-le-mul_right (d * e) o)))
      L

  over_difference : (x * e - y * d) * l ≡ (a - b) * (d * e)
  over_difference = sub_mul (x * e) (y * d) l ∙ ap (λ (z : ℕ). z - y * d * l) (over_left x d y e l a b h k) ∙ ap (λ (z : ℕ). a * (d * e) - z) (over_right x d y e l a b h k) ∙ sym (sub_mul a b (d * e))

pub add_units : (x y : Float) (a b : ℕ) → Exactly x a → Exactly y b → add binary32 x y ≡ of_units (a + b)
unfolding add sum of_units
add_units nan y a b h k = absurd h
add_units (inf s) y a b h k = absurd h
add_units (fin s m e) nan a b h k = absurd k
add_units (fin s m e) (inf t) a b h k = absurd k
add_units (fin s m e) (fin t n d) a b h k =
    ap (λ (z : Bool). sum binary32 z (m * up e * down d) t (n * up d * down e) (down e * down d)) h.0
    ∙ ap (λ (z : Bool). sum binary32 false (m * up e * down d) z (n * up d * down e) (down e * down d)) k.0
    ∙ round_same binary32 false (m * up e * down d + n * up d * down e) (down e * down d) (a + b) (2 ^ 149) (mul-pos (down_pos e) (down_pos d)) (pow_pos 149)
    (over_sum (m * up e) (down e) (n * up d) (down d) (2 ^ 149) a b h.1 k.1)

pub sub_units : (x y : Float) (a b : ℕ) → b ≤ a → Exactly x a → Exactly y b → sub binary32 x y ≡ of_units (a - b)
unfolding sub neg add sum of_units
sub_units nan y a b l h k = absurd h
sub_units (inf s) y a b l h k = absurd h
sub_units (fin s m e) nan a b l h k = absurd k
sub_units (fin s m e) (inf t) a b l h k = absurd k
sub_units (fin s m e) (fin t n d) a b l h k =
    let x = m * up e * down d in
    let y = n * up d * down e in
    let c = down e * down d in
    let order = over_order (m * up e) (down e) (n * up d) (down d) (2 ^ 149) a b h.1 k.1 (pow_pos 149) l in
    ap (λ (z : Bool). sum binary32 z x (not t) y c) h.0
    ∙ ap (λ (z : Bool). sum binary32 false x (not z) y c) k.0
    ∙ ap (λ (z : Bool). cond z (round binary32 true (y - x) c) (round binary32 false (x - y) c)) (le-ltb x y order)
    ∙ round_same binary32 false (x - y) c (a - b) (2 ^ 149) (mul-pos (down_pos e) (down_pos d)) (pow_pos 149)
    (over_difference (m * up e) (down e) (n * up d) (down d) (2 ^ 149) a b h.1 k.1)
