-- The laws that proofs use of `specs/Place.antt`. No contract cites this file. Assumes nothing.
use Prim.Native.Nat.{ℕ, zero, suc, ◌+◌, ◌*◌, ◌<◌, ◌≤◌}
use mathlib.Core.List.{List, [], ◌∷◌, ◌++◌}
use mathlib.Core.Path.{◌≡◌, refl, sym, ap, ◌∙◌}
use native.Mathlib.Nat.{not-suc-le-zero, add-zero}
use native.Mathlib.Numerals.{add-one}
use native.Mathlib.Omega.{arith}
use lib.ListN.{length, get_or, drop, set, replicate, length-set, length-drop, length-replicate}
use lib.Seq.{get_or-drop, drop-drop, drop-append_seam, sets, sets-eq}
use Rattle.steps.specs.Place.{bytes_from, spread}

pub length_spread : {A : Type 0} (d : ℕ) (s : List A) (i : ℕ) (vs : List A) → length (spread d s i vs) ≡ length s
unfolding spread
length_spread d s i [] = refl
length_spread d s i (v ∷ vs) = length_spread d (set s i v) (i + d) vs ∙ length-set s i v

pub length_bytes : (xs : List ℕ) (p n : ℕ) → length (bytes_from xs p n) ≡ n
unfolding bytes_from
length_bytes xs p zero = refl
length_bytes xs p (suc n) = ap suc (length_bytes xs (p + 1) n)

-- what is stored in two goes
pub spread_append : {A : Type 0} (d : ℕ) (s : List A) (i : ℕ) (us vs : List A) → spread d s i (us ++ vs) ≡ spread d (spread d s i us) (i + d * length us) vs
unfolding spread
spread_append d s i [] vs = ap (λ (k : ℕ). spread d s k vs) (omega arith)
spread_append d s i (u ∷ us) vs = spread_append d (set s i u) (i + d) us vs ∙ ap (λ (k : ℕ). spread d (spread d (set s i u) (i + d) us) k vs) (omega arith)

pub spread_then : {A : Type 0} (s s' : List A) (i j : ℕ) (us vs : List A) → s' ≡ spread 1 s i us → j ≡ i + length us → spread 1 s i (us ++ vs) ≡ spread 1 s' j vs
spread_then s s' i j us vs e k =
    let place : j ≡ i + 1 * length us = omega arith in
    spread_append 1 s i us vs ∙ sym (rw (e, place))

-- one value more
pub spread_snoc : {A : Type 0} (d : ℕ) (s : List A) (i : ℕ) (us : List A) (v : A) → set (spread d s i us) (i + d * length us) v ≡ spread d s i (us ++ v ∷ [])
unfolding spread
spread_snoc d s i us v = sym (spread_append d s i us (v ∷ []))

pub bytes_snoc : (xs : List ℕ) (p n : ℕ) → bytes_from xs p n ++ get_or xs (p + n) 0 ∷ [] ≡ bytes_from xs p (suc n)
unfolding bytes_from
bytes_snoc xs p zero = ap (λ (k : ℕ). get_or xs k 0 ∷ []) (add-zero p)
bytes_snoc xs p (suc n) =
    let next : p + suc n ≡ p + 1 + n = omega arith in
    rw next (ap (λ (l : List ℕ). get_or xs p 0 ∷ l) (bytes_snoc xs (p + 1) n))

pub replicate_snoc : {A : Type 0} (n : ℕ) (v : A) → replicate n v ++ v ∷ [] ≡ replicate (suc n) v
replicate_snoc zero v = refl
replicate_snoc {A = A} (suc n) v = ap (λ (l : List A). v ∷ l) (replicate_snoc n v)

-- ---- a loop that stores from the front, in every d-th place: what is stored is the first k of what is wanted

pub literal_start : (d : ℕ) (s : List ℕ) (i : ℕ) (xs : List ℕ) (p : ℕ) → s ≡ spread d s i (bytes_from xs p 0)
unfolding spread bytes_from
literal_start d s i xs p = refl

pub run_start : {A : Type 0} (d : ℕ) (s : List A) (i : ℕ) → s ≡ spread d s i []
unfolding spread
run_start d s i = refl

pub literal_next : (d : ℕ) (s s' : List ℕ) (i k : ℕ) (xs : List ℕ) (p j b : ℕ) → s' ≡ spread d s i (bytes_from xs p k) → j ≡ i + d * k → b ≡ get_or xs (p + k) 0
    → set s' j b ≡ spread d s i (bytes_from xs p (k + 1))
literal_next d s s' i k xs p j b e ej eb =
    let place : j ≡ i + d * length (bytes_from xs p k) = rw (length_bytes xs p k) ej in
    rw (e, place, eb, add-one k) (spread_snoc d s i (bytes_from xs p k) (get_or xs (p + k) 0) ∙ ap (spread d s i) (bytes_snoc xs p k))

pub run_next : {A : Type 0} (d : ℕ) (s s' : List A) (i k : ℕ) (v : A) (j : ℕ) → s' ≡ spread d s i (replicate k v) → j ≡ i + d * k
    → set s' j v ≡ spread d s i (replicate (k + 1) v)
run_next d s s' i k v j e ej =
    let place : j ≡ i + d * length (replicate k v) = rw (length-replicate k v) ej in
    rw (e, place, add-one k) (spread_snoc d s i (replicate k v) v ∙ ap (spread d s i) (replicate_snoc k v))

-- three stores one after another
pub put_three : {A : Type 0} (s : List A) (o : ℕ) (a b c : A) → set (set (set s o a) (o + 1) b) (o + 2) c ≡ spread 1 s o (a ∷ b ∷ c ∷ [])
unfolding spread
put_three s o a b c =
    let j : o + 2 ≡ o + 1 + 1 = omega arith in
    rw j

-- ---- What stands at a place of a list

-- the byte x stands at a place, and l after it
pub drop_next : (src : List ℕ) (at x : ℕ) (l : List ℕ) → drop at src ≡ x ∷ l → (at < length src) × (get_or src at 0 ≡ x) × (drop (at + 1) src ≡ l)
drop_next src at x l e = (
  omega (arith, ap length e, length-drop at src),
  ap (λ (i : ℕ). get_or src i 0) (sym (add-zero at)) ∙ sym (get_or-drop at src 0 0) ∙ ap (λ (m : List ℕ). get_or m 0 0) e,
  sym (drop-drop 1 at src) ∙ ap (drop 1) e,
)

-- the bytes p stand at a place, and rest after them
pub drop_past : (src : List ℕ) (at : ℕ) (p rest : List ℕ) → drop at src ≡ p ++ rest → drop (at + length p) src ≡ rest
drop_past src at p rest e = sym (drop-drop (length p) at src) ∙ ap (drop (length p)) e ∙ drop-append_seam p rest

pub bytes_there : (src : List ℕ) (at : ℕ) (p rest : List ℕ) → drop at src ≡ p ++ rest → bytes_from src at (length p) ≡ p
unfolding bytes_from
bytes_there src at [] rest e = refl
bytes_there src at (x ∷ p) rest e =
    let next = drop_next src at x (p ++ rest) e in
    rw next.1 (ap (λ (l : List ℕ). x ∷ l) (bytes_there src (at + 1) p rest next.2))

-- ---- A list that is stored from the start of another

spread_sets : {A : Type 0} (s : List A) (i : ℕ) (vs : List A) → spread 1 s i vs ≡ sets s i vs
unfolding spread
spread_sets s i [] = refl
spread_sets s i (v ∷ vs) = spread_sets (set s i v) (i + 1) vs ∙ ap (λ (k : ℕ). sets (set s i v) k vs) (add-one i)

-- it is the front, and the rest is as it was
pub spread_front : {A : Type 0} (s vs : List A) → length vs ≤ length s → spread 1 s 0 vs ≡ vs ++ drop (length vs) s
spread_front s vs h =
    let none : 0 + length vs ≡ length vs = omega arith in
    spread_sets s 0 vs ∙ sets-eq vs s 0 (omega arith) ∙ ap (λ (k : ℕ). vs ++ drop k s) none

-- each of n bytes from a place on
pub get_or_bytes : (xs : List ℕ) (p n i : ℕ) → i < n → get_or (bytes_from xs p n) i 0 ≡ get_or xs (p + i) 0
unfolding bytes_from
get_or_bytes xs p zero i h = absurd (not-suc-le-zero h)
get_or_bytes xs p (suc n) zero h = ap (λ (k : ℕ). get_or xs k 0) (sym (add-zero p))
get_or_bytes xs p (suc n) (suc i) h =
    let next : p + 1 + i ≡ p + suc i = omega arith in
    get_or_bytes xs (p + 1) n i (omega arith) ∙ ap (λ (k : ℕ). get_or xs k 0) next
