-- Two lists of bytes, of which the first n are the same, and what an answer rests on.
use Prim.Native.Nat.{ℕ, zero, suc, ◌+◌, ◌<◌, ◌≤◌}
use mathlib.Core.List.{List, ◌++◌}
use mathlib.Core.Path.{◌≡◌, refl, sym, ap, ◌∙◌}
use native.Mathlib.Omega.{arith}
use lib.ListN.{length, get_or, length-append}
use lib.Seq.{get_or-take, take-append_seam, take-length}
use Rattle.steps.proofs.Laws.Order.{by_order}
use Rattle.steps.specs.Place.{bytes_from}
use Rattle.steps.specs.Answer.{Taken}
use Rattle.std.specs.Prelude.{Ok, Err}
use Rattle.rows_read.specs.Row.{RowRule}
use Rattle.rows_read.specs.Middle.{Alike, Rests}

module _ (src other : List ℕ) (n : ℕ) (alike : Alike n src other) where
  pub byte_same : (p : ℕ) → p < n → get_or other p 0 ≡ get_or src p 0
  byte_same p h = sym (get_or-take n other p 0 h) ∙ ap (λ (l : List ℕ). get_or l p 0) alike.2 ∙ get_or-take n src p 0 h

  pub bytes_same : (p k : ℕ) → p + k ≤ n → bytes_from other p k ≡ bytes_from src p k
  unfolding bytes_from
  bytes_same p zero h = refl
  bytes_same p (suc k) h = rw (byte_same p (omega arith), bytes_same (p + 1) k (omega arith))

-- bytes that are all there, and more behind them
pub front_alike : (src rest : List ℕ) → Alike (length src) src (src ++ rest)
front_alike src rest = (omega arith, omega (arith, length-append src rest), take-append_seam src rest ∙ sym (take-length src))

-- a place at which such an answer can be reached
abbrev pub Near : ℕ → ℕ → ℕ → ℕ → Type 0
Near gap long n p = (p ≤ n) × (p + gap ≤ long)

pub near_or : {X : Type 0} (gap long n p : ℕ) → (Near gap long n p → X) → ((Near gap long n p → ⊥) → X) → X
near_or gap long n p f g =
    by_order n p (λ h. g (λ near. omega arith)) (λ h. by_order long (p + gap) (λ k. g (λ near. omega arith)) (λ k. f (h, k)))

abbrev pub Firm : ℕ → ℕ → ℕ → Taken × List ℕ → Type 0
Firm gap long n a = Rests gap long n a.0

-- past such places there is no such answer
abbrev pub NonePast : ℕ → RowRule → Type 0
NonePast gap rule =
    (src : List ℕ) (n at : ℕ) (store : List ℕ) (width : ℕ) → (Near gap (length src) n at → ⊥) → Rests gap (length src) n (rule src at store width).0 → ⊥

-- an answer that rests on the first n of `long` bytes, where p of them were taken for it
pub taken_near : (gap long n p : ℕ) (t : Taken) → p ≤ long → ((next : ℕ) → t ≡ Ok next → p ≤ next) → Rests gap long n t → p ≤ n
taken_near gap long n p (Ok next) h on firm = omega (arith, on next refl, firm.0)
taken_near gap long n p (Err reason) h on firm = omega (arith, firm.1)
