-- The laws that proofs use of `specs/Fields.antt`.
use Prim.Native.Nat.{ℕ, suc, ◌-◌, ◌<◌, ◌≤◌}
use mathlib.Core.Bool.{Bool, true, false, ◌||◌}
use mathlib.Core.List.{List, [], ◌∷◌, ◌++◌, reverse-append, reverse-cons, reverse-reverse}
use mathlib.Core.Path.{◌≡◌, refl, sym, ap, ◌∙◌}
use native.Mathlib.Omega.{arith}
use borrow.Author.Tests.{ne_eqb, le-leb}
use lib.ListN.{length, get_or, take, drop, length-drop}
use lib.Seq.{take-length, drop-cons, take-suc, take_all}
use lib.Dec.{leb}
use Rattle.steps.specs.Loop.{pick}
use Rattle.words.specs.Fields.{is_blank, trim_start, trim_end}

-- ---- White space

pub blank_space : (x : ℕ) → x ≡ 32 → true ≡ is_blank x
unfolding is_blank
blank_space x h = rw h

pub blank_by : (x : ℕ) → 9 ≤ x → (x ≡ 32 → ⊥) → leb x 13 ≡ is_blank x
unfolding is_blank
blank_by x h k = simp (le-leb 9 x h, ne_eqb x 32 k) (sym (or_false (leb x 13)))
  where
    or_false : (t : Bool) → (t || false) ≡ t
    or_false true = refl
    or_false false = refl

-- ---- At the start, and what is left there

pub start_none : (left : List ℕ) → length left < 1 → trim_start left ≡ left
unfolding trim_start
start_none [] h = refl
start_none (x ∷ xs) h = absurd (omega arith)

module _ (left : List ℕ) (h : 1 ≤ length left) (t : Bool) (e : t ≡ is_blank (get_or left 0 0)) where
  front : trim_start left ≡ pick t (trim_start (drop 1 left)) left
  unfolding trim_start
  front = rw (e, drop-cons left 0 0 h)

  pub start_on : t ≡ true → trim_start (take (length left - 1) (drop 1 left)) ≡ trim_start left
  start_on k = rw (take_all (length left - 1) (drop 1 left) (omega (arith, length-drop 1 left))) (sym (front ∙ rw k))

  pub start_stop : t ≡ false → trim_start left ≡ left
  start_stop k = front ∙ rw k

-- ---- At the end, and what is left there

pub end_by : (ys : List ℕ) (x : ℕ) (t : Bool) → t ≡ is_blank x → trim_end (ys ++ x ∷ []) ≡ pick t (trim_end ys) (ys ++ x ∷ [])
unfolding trim_end trim_start
end_by ys x true e = rw (reverse-append ys (x ∷ [])) (simp (sym e))
end_by ys x false e = rw (reverse-append ys (x ∷ [])) (simp (sym e, reverse-cons, reverse-reverse))

pub end_none : (left : List ℕ) → length left < 1 → trim_end left ≡ left
unfolding trim_end trim_start
end_none [] h = refl
end_none (x ∷ xs) h = absurd (omega arith)

module _ (left : List ℕ) (h : 1 ≤ length left) (t : Bool) (e : t ≡ is_blank (get_or left (length left - 1) 0)) where
  last : trim_end left ≡ pick t (trim_end (take (length left - 1) left)) left
  last =
      let one : length left ≡ suc (length left - 1) = omega arith in
      let split : left ≡ take (length left - 1) left ++ (get_or left (length left - 1) 0 ∷ []) = sym (take-length left) ∙ ap (λ (n : ℕ). take n left) one ∙ take-suc left (length left - 1) 0 (omega arith) in
      ap trim_end split ∙ end_by (take (length left - 1) left) (get_or left (length left - 1) 0) t e ∙ ap (pick t (trim_end (take (length left - 1) left))) (sym split)

  pub end_on : t ≡ true → trim_end (take (length left - 1) left) ≡ trim_end left
  end_on k = sym (last ∙ rw k)

  pub end_stop : t ≡ false → trim_end left ≡ left
  end_stop k = last ∙ rw k
