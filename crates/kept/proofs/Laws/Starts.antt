-- Where the rows of a file start, by any rule for rows: within the bytes; and the same in other bytes, as far as a row rests on what both begin with.
use Prim.Native.Nat.{ℕ, zero, suc, ◌<◌, ◌≤◌}
use mathlib.Core.List.{List}
use mathlib.Core.Path.{◌≡◌, refl, ap, ◌∙◌}
use native.Mathlib.Omega.{arith}
use lib.ListN.{length}
use Rattle.steps.specs.Answer.{Taken}
use Rattle.std.specs.Prelude.{Ok, Err}
use Rattle.rows_read.specs.Row.{RowRule}
use Rattle.rows_read.specs.Middle.{Alike, Alone, Rests}
use Rattle.rows_read.proofs.Laws.Bounds.{SoundRow}
use Rattle.kept.specs.Lent.{onward, before, row_at}

module _ (row_rule : RowRule) (sound : SoundRow row_rule) (bytes : List ℕ) (long at : ℕ) (store : List ℕ) (inside : at ≤ length bytes) where
  pub start_within : (k : ℕ) → (at ≤ (before row_rule bytes long at store k).0) × ((before row_rule bytes long at store k).0 ≤ length bytes)
  unfolding before
  start_within zero = (omega arith, inside)
  start_within (suc k) = by (start_within k) (row_rule bytes x.0 x.1 long).0 (sound bytes x.0 x.1 long).onward
    where
      x : ℕ × List ℕ
      x = before row_rule bytes long at store k

      by : (at ≤ x.0) × (x.0 ≤ length bytes) → (t : Taken) → ((next : ℕ) → t ≡ Ok next → x.0 ≤ length bytes → (x.0 ≤ next) × (next ≤ length bytes)) → (at ≤ onward t x.0) × (onward t x.0 ≤ length bytes)
      by here (Ok next) on = (omega (arith, on next refl here.1), omega (arith, on next refl here.1))
      by here (Err reason) on = here

-- rows that are done in some bytes, with all that they took among the first n, are those of any other bytes that begin so
module _ (row_rule : RowRule) (alone : Alone 0 row_rule) (bytes other : List ℕ) (n : ℕ) (alike : Alike n bytes other) (long at : ℕ) (store : List ℕ) where
  abbrev start : List ℕ → ℕ → ℕ × List ℕ
  start b = before row_rule b long at store

  abbrev row : List ℕ → ℕ → Taken × List ℕ
  row b = row_at row_rule b long at store

  row_same : (k : ℕ) → start other k ≡ start bytes k → Rests 0 (length bytes) n (row bytes k).0 → row other k ≡ row bytes k
  row_same k e rests =
      ap (λ (z : ℕ × List ℕ). row_rule other z.0 z.1 long) e ∙ alone bytes other n (start bytes k).0 (start bytes k).1 long alike rests

  pub starts_same : (k : ℕ) → ((j : ℕ) → j < k → Rests 0 (length bytes) n (row bytes j).0) → start other k ≡ start bytes k
  unfolding before
  starts_same zero rests = refl
  starts_same (suc k) rests =
      let here = starts_same k (λ j h. rests j (omega arith)) in
      ap (λ (z : (Taken × List ℕ) × (ℕ × List ℕ)). (onward z.0.0 z.1.0, z.0.1)) (λ i. (row_same k here (rests k (omega arith)) i, here i))

  pub rows_same : (k : ℕ) → ((j : ℕ) → j < k → Rests 0 (length bytes) n (row bytes j).0) → (j : ℕ) → j < k → row other j ≡ row bytes j
  rows_same k rests j h = row_same j (starts_same j (λ i l. rests i (omega arith))) (rests j h)
