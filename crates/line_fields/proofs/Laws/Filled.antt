-- A list's front, and a list that is filled from the front.
use mathlib.Core.Path.{◌≡◌, sym, subst}
use mathlib.Core.List.{List}
use Prim.Native.Nat.{ℕ, ◌+◌, ◌<◌, ◌≤◌}
use native.Mathlib.Omega.{arith}
use borrow.Author.Count.{below_more}
use lib.ListN.{length, get_or, set, take}
use lib.Seq.{get_or-set_same, get_or-set_other, length-take-le}

pub front : {A : Type 0} (n : ℕ) (xs : List A) → n ≤ length xs → n ≡ length (take n xs)
front n xs h = sym (length-take-le n xs h)

-- what holds of each place below k, and of the value stored at k, holds below k + 1
pub filled_more : {A : Type 0} (P : ℕ → A → Type 0) (xs : List A) (k : ℕ) (v d : A) → k < length xs → ((i : ℕ) → i < k → P i (get_or xs i d)) → P k v
    → (i : ℕ) → i < k + 1 → P i (get_or (set xs k v) i d)
filled_more {A} P xs k v d h below here =
    below_more (λ (i : ℕ). P i (get_or (set xs k v) i d)) k
    (λ i l. subst (λ (x : A). P i x) (sym (get_or-set_other xs k i v d (λ e. omega (arith, e)))) (below i l))
    (subst (λ (x : A). P k x) (sym (get_or-set_same xs k v d h)) here)
