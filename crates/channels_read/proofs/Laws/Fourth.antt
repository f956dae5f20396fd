-- The bytes that are there and then zeros are the literals, where a missing byte is read as 0.
use Prim.Native.Nat.{ℕ, zero, suc, ◌+◌, ◌-◌, ◌*◌, min, ◌<◌, ◌≤◌}
use native.Mathlib.Omega.{arith}
use mathlib.Core.List.{List}
use mathlib.Core.Path.{◌≡◌, refl, ◌∙◌}
use lib.ListN.{length, get_or, set, replicate, get_or-eq_default}
use Rattle.steps.specs.Place.{bytes_from, spread}

-- past the end every byte is 0
zeros : (src : List ℕ) (r p : ℕ) → (0 < r → length src ≤ p) → bytes_from src p r ≡ replicate r 0
unfolding bytes_from
zeros src zero p h = refl
zeros src (suc r) p h =
    let l = h (omega arith) in
    rw (get_or-eq_default src 0 l, zeros src r (p + 1) (λ k. omega arith))

-- k bytes, and r that are missing
known_zeros : (src : List ℕ) (k r : ℕ) (s : List ℕ) (i p : ℕ) → (0 < r → length src ≤ p + k)
    → spread 4 (spread 4 s i (bytes_from src p k)) (i + 4 * k) (replicate r 0) ≡ spread 4 s i (bytes_from src p (k + r))
unfolding bytes_from spread
known_zeros src zero r s i p h =
    let e : i + 4 * 0 ≡ i = omega arith in
    let n : 0 + r ≡ r = omega arith in
    rw (e, n, zeros src r p (λ k. omega (arith, h k)))
known_zeros src (suc k) r s i p h =
    let e : i + 4 * suc k ≡ i + 4 + 4 * k = omega arith in
    let n : suc k + r ≡ suc (k + r) = omega arith in
    rw (e, n) (known_zeros src k r (set s i (get_or src p 0)) (i + 4) (p + 1) (λ l. omega (arith, h l)))

pub literals_put : (src s s₁ s₂ : List ℕ) (i p n k : ℕ) → k ≡ min n (length src - p) → p ≤ length src → s₁ ≡ spread 4 s i (bytes_from src p k)
    → s₂ ≡ spread 4 s₁ (i + 4 * k) (replicate (n - k) 0) → s₂ ≡ spread 4 s i (bytes_from src p n)
literals_put src s s₁ s₂ i p n k ek h e₁ e₂ =
    let n' : k + (n - k) ≡ n = omega arith in
    e₂ ∙ rw e₁ (known_zeros src k (n - k) s i p (λ l. omega arith) ∙ rw n')
