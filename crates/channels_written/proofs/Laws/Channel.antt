-- The laws of `specs/Channel.antt`: what one more byte does to the cut, what one more run does to the gathering.
use mathlib.Core.Path.{◌≡◌, refl, sym, ap, ◌∙◌}
use mathlib.Core.Logic.{◌⊎◌, inl, inr, ⊎_elim}
use mathlib.Core.Bool.{Bool, true, false, ◌&&◌, false≢true}
use mathlib.Core.List.{List, [], ◌∷◌, ◌++◌, append_assoc, append-nil}
use Prim.Native.Nat.{ℕ, zero, suc, ◌+◌, ◌-◌, ◌/◌, ◌≤◌, ◌<◌}
use native.Mathlib.Omega.{arith}
use lib.ListN.{length, take, drop, replicate}
use lib.Dec.{eqb, ltb, leb}
use borrow.Author.Tests.{lt-ltb, le-ltb, eq-eqb, ne_eqb, eqb-true, eqb-false, ltb-true, ltb-false, leb-true, leb-false, le-leb, lt-leb}
use Rattle.channels_written.specs.Channel.{Run, run, grow, cut, bytes, literals, packet, stretch, gather}

-- ---- the cut

pub and_both : (a b : Bool) → a && b ≡ true → (a ≡ true) × (b ≡ true)
and_both true b e = (refl, e)
and_both false b e = absurd (false≢true e)

pub and_no : (b : Bool) → b && false ≡ false
and_no true = refl
and_no false = refl

pub grow_same : (v x n : ℕ) (xs : List ℕ) → x ≡ v → n < 127 → grow v n (x ∷ xs) ≡ grow v (suc n) xs
unfolding grow
grow_same v x n xs e l = rw (eq-eqb x v e, lt-ltb n 127 l, grow)

pub grow_other : (v x n : ℕ) (xs : List ℕ) → (x ≡ v → ⊥) → grow v n (x ∷ xs) ≡ run v n ∷ grow x 1 xs
unfolding grow
grow_other v x n xs e = rw (ne_eqb x v e, grow)

pub grow_full : (v x n : ℕ) (xs : List ℕ) → 127 ≤ n → grow v n (x ∷ xs) ≡ run v n ∷ grow x 1 xs
unfolding grow
grow_full v x n xs l = rw (le-ltb n 127 l, and_no (eqb x v), grow)

-- the next byte, whatever follows it, lengthens the run in hand or ends it
abbrev pub Lengthens : ℕ → ℕ → ℕ → Type 0
Lengthens v n x = (x ≡ v) × ((xs : List ℕ) → grow v n (x ∷ xs) ≡ grow v (suc n) xs)

abbrev pub Ends : ℕ → ℕ → ℕ → Type 0
Ends v n x = (xs : List ℕ) → grow v n (x ∷ xs) ≡ run v n ∷ grow x 1 xs

pub grow_step : (v n x : ℕ) → Lengthens v n x ⊎ Ends v n x
grow_step v n x = go (eqb x v) (ltb n 127) refl refl
  where
    go : (a b : Bool) → eqb x v ≡ a → ltb n 127 ≡ b → Lengthens v n x ⊎ Ends v n x
    go true true e l = inl (eqb-true x v e, λ xs. grow_same v x n xs (eqb-true x v e) (ltb-true n 127 l))
    go true false e l = inr (λ xs. grow_full v x n xs (ltb-false n 127 l))
    go false b e l = inr (λ xs. grow_other v x n xs (eqb-false x v e))

replicate_snoc : (n v : ℕ) (xs : List ℕ) → replicate (suc n) v ++ xs ≡ replicate n v ++ v ∷ xs
replicate_snoc zero v xs = refl
replicate_snoc (suc n) v xs = ap (λ (l : List ℕ). v ∷ l) (replicate_snoc n v xs)

bytes_grow : (v n : ℕ) (xs : List ℕ) → bytes (grow v n xs) ≡ replicate n v ++ xs
unfolding grow
bytes_grow v n [] = refl
bytes_grow v n (x ∷ xs) =
    ⊎_elim
    (λ p. ap bytes (p.1 xs) ∙ bytes_grow v (suc n) xs ∙ replicate_snoc n v xs ∙ ap (λ (y : ℕ). replicate n v ++ y ∷ xs) (sym p.0))
    (λ e. ap bytes (e xs) ∙ ap (λ (l : List ℕ). replicate n v ++ l) (bytes_grow x 1 xs))
    (grow_step v n x)

-- nothing is lost by the cut
pub bytes_cut : (xs : List ℕ) → bytes (cut xs) ≡ xs
unfolding cut
bytes_cut [] = refl
bytes_cut (x ∷ xs) = bytes_grow x 1 xs

pub bytes_append : (g h : List Run) → bytes (g ++ h) ≡ bytes g ++ bytes h
bytes_append [] h = refl
bytes_append (run v n ∷ g) h = ap (λ (l : List ℕ). replicate n v ++ l) (bytes_append g h) ∙ sym (append_assoc (replicate n v) (bytes g) (bytes h))

-- ---- the literals

-- a count for each packet that is started
pub length_literals : (k : ℕ) (xs : List ℕ) → k ≤ 127 → length (literals k xs) ≡ length xs + (length xs + (127 - k)) / 128
length_literals k [] h = omega arith
length_literals zero (x ∷ xs) h = omega (arith, length_literals 127 xs (omega arith))
length_literals (suc k) (x ∷ xs) h = omega (arith, length_literals k xs (omega arith))

-- the packet in hand, and then the next
pub literals_packet : (k : ℕ) (xs : List ℕ) → literals k xs ≡ take k xs ++ literals 0 (drop k xs)
literals_packet zero xs = refl
literals_packet (suc k) [] = refl
literals_packet (suc k) (x ∷ xs) = ap (λ (l : List ℕ). x ∷ l) (literals_packet k xs)

-- ---- the gathering

pub gather_long : (g : List Run) (v n : ℕ) (rs : List Run) → 4 ≤ n → gather g (run v n ∷ rs) ≡ stretch g ++ (packet v n ++ gather [] rs)
unfolding gather
gather_long g v n rs h = rw (le-leb 4 n h, gather)

pub gather_short : (g : List Run) (v n : ℕ) (rs : List Run) → n < 4 → gather g (run v n ∷ rs) ≡ gather (g ++ run v n ∷ []) rs
unfolding gather
gather_short g v n rs h = rw (lt-leb 4 n h, gather)

-- a run is long or short
abbrev pub Closes : List Run → ℕ → ℕ → List Run → Type 0
Closes g v n rs = (4 ≤ n) × (gather g (run v n ∷ rs) ≡ stretch g ++ (packet v n ++ gather [] rs))

abbrev pub Joins : List Run → ℕ → ℕ → List Run → Type 0
Joins g v n rs = gather g (run v n ∷ rs) ≡ gather (g ++ run v n ∷ []) rs

pub gather_step : (g : List Run) (v n : ℕ) (rs : List Run) → Closes g v n rs ⊎ Joins g v n rs
gather_step g v n rs = go (leb 4 n) refl
  where
    go : (b : Bool) → leb 4 n ≡ b → Closes g v n rs ⊎ Joins g v n rs
    go true e = inl (leb-true 4 n e, gather_long g v n rs (leb-true 4 n e))
    go false e = inr (gather_short g v n rs (leb-false 4 n e))

-- a stretch is a run of 2 bytes or more, or literals
abbrev pub AsRun : List Run → Type 0
AsRun g = (v : ℕ) × (n : ℕ) × (2 ≤ n) × (bytes g ≡ replicate n v) × (stretch g ≡ packet v n)

abbrev pub AsLiterals : List Run → Type 0
AsLiterals g = stretch g ≡ literals 0 (bytes g)

pub stretch_step : (g : List Run) → AsRun g ⊎ AsLiterals g
unfolding stretch
stretch_step [] = inr refl
stretch_step (run v n ∷ []) = go (leb 2 n) refl
  where
    go : (b : Bool) → leb 2 n ≡ b → AsRun (run v n ∷ []) ⊎ AsLiterals (run v n ∷ [])
    go true e = inl (v, n, leb-true 2 n e, append-nil (replicate n v), rw (e, stretch))
    go false e = inr (rw (e, stretch))
stretch_step (r ∷ s ∷ g) = inr refl
