-- The laws that proofs use of `specs/Fields.antt`.
use Prim.Native.Nat.{ℕ, ◌+◌, ◌-◌, ◌≤◌}
use mathlib.Core.Bool.{Bool, true, false, cond}
use mathlib.Core.List.{List, [], ◌∷◌}
use mathlib.Core.Path.{◌≡◌, refl, sym, ap, ◌∙◌}
use native.Mathlib.Nat.{le_of_eq}
use native.Mathlib.Omega.{arith}
use borrow.Author.Tests.{le-leb, ltb-false}
use lib.ListN.{length, take, drop, length-drop}
use lib.Seq.{take_all}
use lib.Dec.{eqb, ltb}
use Rattle.std.proofs.Common.{Option, Some, None}
use Rattle.std.specs.Option.{unwrap_or}
use Rattle.std.specs.List.{position, position_or_len}
use Rattle.std.proofs.lemmas.List.Recursion.{is_position_or_len}
use Rattle.steps.specs.Loop.{pick}
use Rattle.line_fields.specs.Fields.{field, field_end, number_of, step_of, number_at}

-- ---- A field's end

pub field_short : (xs : List ℕ) → length (field xs) ≤ length xs
unfolding field
field_short [] = omega arith
field_short (x ∷ xs) = by (eqb x 32) (field_short xs)
  where
    by : (t : Bool) → length (field xs) ≤ length xs → length (pick t [] (x ∷ field xs)) ≤ length (x ∷ xs)
    by true h = omega arith
    by false h = omega arith

-- it is the first space
first_space : (xs : List ℕ) → length (field xs) ≡ position_or_len (λ b. eqb b 32) xs
unfolding field
first_space = is_position_or_len (λ xs. length (field xs)) (λ b. eqb b 32) refl more
  where
    more : (x : ℕ) (xs : List ℕ) → length (field (x ∷ xs)) ≡ cond (eqb x 32) 0 (1 + length (field xs))
    more x xs = elim (eqb x 32) as (λ t. length (pick t [] (x ∷ field xs)) ≡ cond t 0 (1 + length (field xs))) [ true ↦ refl | false ↦ omega arith ]

place_is : (xs : List ℕ) → unwrap_or (position (λ b. eqb b 32) xs) (length xs) ≡ length (field xs)
place_is xs = rw (← first_space xs) (by (ltb (length (field xs)) (length xs)) refl)
  where
    by : (t : Bool) → ltb (length (field xs)) (length xs) ≡ t → unwrap_or (cond t (Some (length (field xs))) None) (length xs) ≡ length (field xs)
    by true e = refl
    by false e = omega (arith, ltb-false (length (field xs)) (length xs) e, field_short xs)

-- and the code looks for it in the rest of the line
pub end_is : (line : List ℕ) (at : ℕ) (o : Option ℕ) (w : ℕ) → o ≡ position (λ b. eqb b 32) (take (length line - at) (drop at line)) → w ≡ unwrap_or o (length (take (length line - at) (drop at line))) → at + w ≡ field_end line at
end_is line at o w eo ew =
    let rest : take (length line - at) (drop at line) ≡ drop at line = take_all (length line - at) (drop at line) (le_of_eq (length-drop at line)) in
    ap (λ (n : ℕ). at + n) (ew ∙ rw (eo, rest) (place_is (drop at line)))

-- ---- The number in a field

take_field : (s : List ℕ) → take (length (field s)) s ≡ field s
unfolding field
take_field [] = refl
take_field (b ∷ bs) = by (eqb b 32) (take_field bs)
  where
    by : (t : Bool) → take (length (field bs)) bs ≡ field bs → take (length (pick t [] (b ∷ field bs))) (b ∷ bs) ≡ pick t [] (b ∷ field bs)
    by true e = refl
    by false e = ap (λ (s : List ℕ). b ∷ s) e

module _ (line : List ℕ) (at end : ℕ) (h : at ≤ length line) (e : end ≡ field_end line at) (s : Option ℕ) (es : s ≡ number_of (take (end - at) (drop at line))) where
  part_is : take (end - at) (drop at line) ≡ field (drop at line)
  part_is =
      let n : end - at ≡ length (field (drop at line)) = omega (arith, e) in
      rw n (take_field (drop at line))

  whole : number_at line at ≡ step_of s (end + 1)
  unfolding number_at
  whole = simp (le-leb at (length line) h) (rw (← e, ← part_is, ← es))

  pub number_some : (n : ℕ) → s ≡ Some n → Some (record { n = n; next = end + 1 }) ≡ number_at line at
  number_some n en = sym (whole ∙ ap (λ (z : Option ℕ). step_of z (end + 1)) en)

  pub number_none : s ≡ None → None ≡ number_at line at
  number_none en = sym (whole ∙ ap (λ (z : Option ℕ). step_of z (end + 1)) en)
