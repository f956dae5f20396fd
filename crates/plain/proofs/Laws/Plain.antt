-- The laws of `specs/Plain.antt`.
use Prim.Native.Nat.{ℕ, zero, suc, ◌+◌, ◌-◌, ◌<◌, ◌≤◌}
use mathlib.Core.Bool.{Bool, true, false, ◌&&◌, ◌||◌}
use mathlib.Core.List.{List}
use mathlib.Core.Path.{◌≡◌, refl}
use native.Mathlib.Nat.{not-suc-le-zero}
use native.Mathlib.Omega.{arith}
use borrow.Author.Tests.{ltb-false}
use lib.Dec.{ltb, eqb, lit≤}
use lib.ListN.{get_or, set}
use Rattle.steps.specs.Place.{spread}
use Rattle.steps.proofs.Laws.Turns.{by_test}
use Rattle.plain.specs.Plain.{acts, shown, plain_from}

-- one byte more
pub plain_next : (name out w : List ℕ) (before i n x y : ℕ) → spread 1 out i (plain_from name before i (n - i)) ≡ w → i < n → x ≡ get_or name i 0 → y ≡ shown before x
    → spread 1 (set out i y) (i + 1) (plain_from name x (i + 1) (n - (i + 1))) ≡ w
unfolding spread plain_from
plain_next name out w before i n x y e h ex ey = let k : n - i ≡ suc (n - (i + 1)) = omega arith in rw (ey, ex) (rw k at e)

-- all are stored
pub plain_end : (name out w : List ℕ) (before i n : ℕ) → spread 1 out i (plain_from name before i (n - i)) ≡ w → n ≤ i → out ≡ w
unfolding spread plain_from
plain_end name out w before i n e h = let k : n - i ≡ 0 = omega arith in rw k at e

-- ---- No control character is shown

or_left : (a b : Bool) → (a || b) ≡ false → a ≡ false
or_left true b e = e
or_left false b e = refl

shown_clean : (before x : ℕ) → 32 ≤ shown before x
unfolding shown acts
shown_clean before x =
    by_test (λ (y : ℕ). 32 ≤ y) (ltb x 32 || (eqb x 127 || (eqb before 194 && ltb x 160)))
    (λ t. lit≤ {m = 32} {n = 63} tt)
    (λ t. ltb-false x 32 (or_left (ltb x 32) (eqb x 127 || (eqb before 194 && ltb x 160)) t))

-- neither a line's end nor a tab stands in a name as it is shown
pub plain_clean : (name : List ℕ) (before i n k : ℕ) → k < n → 32 ≤ get_or (plain_from name before i n) k 0
unfolding plain_from
plain_clean name before i zero k h = absurd (not-suc-le-zero h)
plain_clean name before i (suc n) zero h = shown_clean before (get_or name i 0)
plain_clean name before i (suc n) (suc k) h = plain_clean name (get_or name i 0) (i + 1) n k (omega arith)
