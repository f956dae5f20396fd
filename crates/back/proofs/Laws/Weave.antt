-- Four channels, each stored in every fourth place, are the pixels stored one after another.
use mathlib.Core.Path.{◌≡◌, refl, sym, ap, ◌∙◌}
use mathlib.Core.List.{List, [], ◌∷◌, ◌++◌}
use Prim.Native.Nat.{ℕ, zero, suc, ◌+◌, ◌*◌, ◌<◌, ◌≤◌}
use native.Mathlib.Omega.{arith}
use lib.ListN.{get_or, set}
use lib.Seq.{set_comm}
use Rattle.steps.specs.Place.{bytes_from, spread}
use Rattle.channels_written.specs.Channel.{channel}
use Rattle.steps.proofs.Laws.Place.{spread_append}

-- a store before all the places of a spread may come first
set_spread : (s : List ℕ) (i j : ℕ) (vs : List ℕ) (v : ℕ) → j < i → set (spread 4 s i vs) j v ≡ spread 4 (set s j v) i vs
unfolding spread
set_spread s i j [] v h = refl
set_spread s i j (x ∷ vs) v h =
    let apart : i ≡ j → ⊥ = λ e. omega arith in
    set_spread (set s i x) (i + 4) j vs v (omega arith) ∙ ap (λ (l : List ℕ). spread 4 l (i + 4) vs) (set_comm s i j x v apart)

-- one pixel, and then the others
pub bytes_four : (px : List ℕ) (at n : ℕ) → bytes_from px at (4 * suc n) ≡ bytes_from px at 4 ++ bytes_from px (at + 4) (4 * n)
unfolding bytes_from
bytes_four px at n =
    let size : 4 * suc n ≡ suc (suc (suc (suc (4 * n)))) = omega arith in
    let next : at + 4 ≡ at + 1 + 1 + 1 + 1 = omega arith in
    rw (size, next)

abbrev four : List ℕ → List ℕ → ℕ → ℕ → List ℕ
four px s i at =
    set (set (set (set s i (get_or px at 0)) (i + 1) (get_or px (at + 1) 0)) (i + 2) (get_or px (at + 2) 0)) (i + 3) (get_or px (at + 3) 0)

spread_four : (px s : List ℕ) (i at n : ℕ) → spread 1 s i (bytes_from px at (4 * suc n)) ≡ spread 1 (four px s i at) (i + 4) (bytes_from px (at + 4) (4 * n))
unfolding spread bytes_from
spread_four px s i at n =
    let i2 : i + 2 ≡ i + 1 + 1 = omega arith in
    let i3 : i + 3 ≡ i + 1 + 1 + 1 = omega arith in
    let a2 : at + 2 ≡ at + 1 + 1 = omega arith in
    let a3 : at + 3 ≡ at + 1 + 1 + 1 = omega arith in
    rw (i2, i3, a2, a3) (ap (spread 1 s i) (bytes_four px at n) ∙ spread_append 1 s i (bytes_from px at 4) (bytes_from px (at + 4) (4 * n)))

-- the first byte of each channel is stored, and then the others
weave_turn : (s p q r t : List ℕ) (i a b c d : ℕ)
    → spread 4 (spread 4 (spread 4 (spread 4 s i (a ∷ p)) (i + 1) (b ∷ q)) (i + 2) (c ∷ r)) (i + 3) (d ∷ t)
    ≡ spread 4 (spread 4 (spread 4 (spread 4 (set (set (set (set s i a) (i + 1) b) (i + 2) c) (i + 3) d) (i + 4) p) (i + 1 + 4) q) (i + 2 + 4) r) (i + 3 + 4) t
unfolding spread
weave_turn s p q r t i a b c d =
    let s1 : List ℕ = set s i a in
    let s2 : List ℕ = set s1 (i + 1) b in
    let s3 : List ℕ = set s2 (i + 2) c in
    ap (λ (l : List ℕ). spread 4 (set (spread 4 (set (spread 4 l (i + 1 + 4) q) (i + 2) c) (i + 2 + 4) r) (i + 3) d) (i + 3 + 4) t) (set_spread s1 (i + 4) (i + 1) p b (omega arith))
    ∙ ap (λ (l : List ℕ). spread 4 (set (spread 4 l (i + 2 + 4) r) (i + 3) d) (i + 3 + 4) t)
    (set_spread (spread 4 s2 (i + 4) p) (i + 1 + 4) (i + 2) q c (omega arith) ∙ ap (λ (l : List ℕ). spread 4 l (i + 1 + 4) q) (set_spread s2 (i + 4) (i + 2) p c (omega arith)))
    ∙ ap (λ (l : List ℕ). spread 4 l (i + 3 + 4) t)
    (set_spread (spread 4 (spread 4 s3 (i + 4) p) (i + 1 + 4) q) (i + 2 + 4) (i + 3) r d (omega arith)
    ∙ ap (λ (l : List ℕ). spread 4 l (i + 2 + 4) r)
    (set_spread (spread 4 s3 (i + 4) p) (i + 1 + 4) (i + 3) q d (omega arith) ∙ ap (λ (l : List ℕ). spread 4 l (i + 1 + 4) q) (set_spread s3 (i + 4) (i + 3) p d (omega arith))))

pub weave : (px s : List ℕ) (i at n : ℕ)
    → spread 4 (spread 4 (spread 4 (spread 4 s i (channel px at n)) (i + 1) (channel px (at + 1) n)) (i + 2) (channel px (at + 2) n)) (i + 3) (channel px (at + 3) n)
    ≡ spread 1 s i (bytes_from px at (4 * n))
unfolding spread bytes_from
weave px s i at zero = refl
weave px s i at (suc n) =
    let others : ℕ → List ℕ = λ k. channel px k n in
    let i1 : i + 1 + 4 ≡ i + 4 + 1 = omega arith in
    let i2 : i + 2 + 4 ≡ i + 4 + 2 = omega arith in
    let i3 : i + 3 + 4 ≡ i + 4 + 3 = omega arith in
    let a1 : at + 1 + 4 ≡ at + 4 + 1 = omega arith in
    let a2 : at + 2 + 4 ≡ at + 4 + 2 = omega arith in
    let a3 : at + 3 + 4 ≡ at + 4 + 3 = omega arith in
    weave_turn s (others (at + 4)) (others (at + 1 + 4)) (others (at + 2 + 4)) (others (at + 3 + 4)) i (get_or px at 0) (get_or px (at + 1) 0) (get_or px (at + 2) 0) (get_or px (at + 3) 0)
    ∙ rw (i1, i2, i3, a1, a2, a3) (weave px (four px s i at) (i + 4) (at + 4) n)
    ∙ sym (spread_four px s i at n)

-- what stood in places 1 and 2 is covered by the first pixel
covered : (s : List ℕ) (x y a b c : ℕ) → set (set (set (set (set s 1 x) 2 y) 0 a) 1 b) 2 c ≡ set (set (set s 0 a) 1 b) 2 c
covered [] x y a b c = refl
covered (p ∷ []) x y a b c = refl
covered (p ∷ q ∷ []) x y a b c = refl
covered (p ∷ q ∷ r ∷ s) x y a b c = refl

mark_covered : (px s : List ℕ) (x y at w : ℕ) → 0 < w → spread 1 (set (set s 1 x) 2 y) 0 (bytes_from px at (4 * w)) ≡ spread 1 s 0 (bytes_from px at (4 * w))
mark_covered px s x y at zero h = absurd (omega arith)
mark_covered px s x y at (suc n) h =
    spread_four px (set (set s 1 x) 2 y) 0 at n
    ∙ ap (λ (l : List ℕ). spread 1 (set l 3 (get_or px (at + 3) 0)) 4 (bytes_from px (at + 4) (4 * n))) (covered s x y (get_or px at 0) (get_or px (at + 1) 0) (get_or px (at + 2) 0))
    ∙ sym (spread_four px s 0 at n)

-- and so are the first of them, wherever they come from
one_covered : (s : List ℕ) (x a b c : ℕ) → set (set (set (set s 1 x) 0 a) 1 b) 2 c ≡ set (set (set s 0 a) 1 b) 2 c
one_covered [] x a b c = refl
one_covered (p ∷ []) x a b c = refl
one_covered (p ∷ q ∷ s) x a b c = refl

pub early_covered : (src px s : List ℕ) (m p at w : ℕ) → m ≤ 2 → 0 < w → spread 1 (spread 1 s 1 (bytes_from src p m)) 0 (bytes_from px at (4 * w)) ≡ spread 1 s 0 (bytes_from px at (4 * w))
unfolding spread bytes_from
early_covered src px s zero p at w l h = refl
early_covered src px s (suc zero) p at zero l h = absurd (omega arith)
early_covered src px s (suc zero) p at (suc n) l h =
    spread_four px (set s 1 (get_or src p 0)) 0 at n
    ∙ ap (λ (t : List ℕ). spread 1 (set t 3 (get_or px (at + 3) 0)) 4 (bytes_from px (at + 4) (4 * n))) (one_covered s (get_or src p 0) (get_or px at 0) (get_or px (at + 1) 0) (get_or px (at + 2) 0))
    ∙ sym (spread_four px s 0 at n)
early_covered src px s (suc (suc zero)) p at w l h = mark_covered px s (get_or src p 0) (get_or src (p + 1) 0) at w h
early_covered src px s (suc (suc (suc m))) p at w l h = absurd (omega arith)
