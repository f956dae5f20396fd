-- A channel's bytes by their places.
use mathlib.Core.Path.{◌≡◌, refl, sym, ap, ◌∙◌}
use mathlib.Core.List.{List, ◌∷◌}
use Prim.Native.Nat.{ℕ, zero, suc, ◌+◌, ◌-◌, ◌*◌, ◌≤◌, ◌<◌}
use native.Mathlib.Omega.{arith}
use native.Mathlib.Nat.{zero-sub}
use lib.ListN.{length, get_or, take, drop}
use Rattle.channels_written.specs.Channel.{channel}

pub length_channel : (px : List ℕ) (at n : ℕ) → length (channel px at n) ≡ n
length_channel px at zero = refl
length_channel px at (suc n) = ap suc (length_channel px (at + 4) n)

channel_eq : (px : List ℕ) {a b m n : ℕ} → a ≡ b → m ≡ n → channel px a m ≡ channel px b n
channel_eq px p q = rw (p, q)

pub drop_channel : (px : List ℕ) (at k n : ℕ) → drop k (channel px at n) ≡ channel px (at + 4 * k) (n - k)
drop_channel px at zero n = channel_eq px {a = at} {b = at + 4 * 0} {m = n} {n = n - 0} (omega arith) (omega arith)
drop_channel px at (suc k) zero = ap (channel px (at + 4 * suc k)) (sym (zero-sub (suc k)))
drop_channel px at (suc k) (suc n) =
    drop_channel px (at + 4) k n ∙ channel_eq px {a = at + 4 + 4 * k} {b = at + 4 * suc k} {m = n - k} {n = suc n - suc k} (omega arith) (omega arith)

pub take_channel : (px : List ℕ) (at k n : ℕ) → k ≤ n → take k (channel px at n) ≡ channel px at k
take_channel px at zero n h = refl
take_channel px at (suc k) zero h = absurd (omega arith)
take_channel px at (suc k) (suc n) h = ap (λ (l : List ℕ). get_or px at 0 ∷ l) (take_channel px (at + 4) k n (omega arith))

pub get_or_channel : (px : List ℕ) (at i n : ℕ) → i < n → get_or (channel px at n) i 0 ≡ get_or px (at + 4 * i) 0
get_or_channel px at i zero h = absurd (omega arith)
get_or_channel px at zero (suc n) h = ap (λ (a : ℕ). get_or px a 0) (omega arith)
get_or_channel px at (suc i) (suc n) h = get_or_channel px (at + 4) i n (omega arith) ∙ ap (λ (a : ℕ). get_or px a 0) (omega arith)
