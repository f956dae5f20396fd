-- The laws that proofs use of `specs/Sizes.antt`.
use Prim.Native.Nat.pow
use Prim.Native.Nat.{ℕ, suc, ◌+◌, ◌-◌, ◌*◌, ◌^◌, ◌<◌, ◌≤◌}
use mathlib.Core.Bool.{Bool, true, false, ◌&&◌}
use mathlib.Core.List.{List, [], ◌∷◌, ◌++◌}
use mathlib.Core.Path.{◌≡◌, refl, sym, ap, ◌∙◌, subst}
use native.Mathlib.Nat.{le_trans, lt_of_lt_of_le, mul-le-mul_right, mul_assoc, mul_comm}
use native.Mathlib.Omega.{arith}
use native.Mathlib.Numerals.{add-one}
use borrow.Author.Tests.{eq-eqb, ne_eqb, le-leb, lt-leb, lt-ltb, le-ltb, ltb-true, ltb-false, leb-true}
use lib.ListN.{length, get_or, take, drop, drop_of_length-le}
use lib.Seq.{drop-cons, take_all}
use lib.Dec.{ltb, leb}
use Rattle.std.specs.Prelude.{Option, Some, None, SomeIff}
use Rattle.std.specs.Char.{is_ascii_digit}
use Rattle.steps.specs.Loop.{pick}
use Rattle.steps.proofs.Laws.Turns.{and_left, and_right}
use Rattle.words.specs.Sizes.{unsigned, is_digit, all_digits, value_from, is_number, is_some, is_size, size_of, number_from}
use Rattle.words.specs.Inner.{size_answer}

-- ---- The leading plus

pub unsigned_plain : (xs : List ℕ) → (1 ≤ length xs → get_or xs 0 0 ≡ 43 → ⊥) → xs ≡ unsigned xs
unfolding unsigned
unsigned_plain [] h = refl
unsigned_plain (x ∷ xs) h = simp (ne_eqb x 43 (h (omega arith)))

pub unsigned_plus : (xs : List ℕ) → 1 ≤ length xs → get_or xs 0 0 ≡ 43 → take (length xs - 1) (drop 1 xs) ≡ unsigned xs
unfolding unsigned
unsigned_plus [] h k = absurd (omega arith)
unsigned_plus (x ∷ xs) h k = take_all (suc (length xs) - 1) xs (omega arith) ∙ simp (eq-eqb x 43 k)

-- ---- One digit more

grows : (n : ℕ) (xs : List ℕ) → n ≤ value_from n xs
unfolding value_from
grows n [] = omega arith
grows n (x ∷ xs) = let h = grows (n * 10 + (x - 48)) xs in omega arith

-- a first byte that is a digit or not
by_digit : (n x : ℕ) (xs : List ℕ) (t : Bool) → is_digit x ≡ t → number_from n (x ∷ xs) ≡ pick t (number_from (n * 10 + (x - 48)) xs) None
unfolding number_from is_number all_digits value_from
by_digit n x xs true e = simp e
by_digit n x xs false e = simp e

too_large : (n : ℕ) (xs : List ℕ) → 2 ^ 64 ≤ n → number_from n xs ≡ None
unfolding number_from is_number
too_large n xs h =
    let large : ltb (value_from n xs) (2 ^ 64) ≡ false = le-ltb (value_from n xs) (2 ^ 64) (le_trans h (grows n xs)) in
    simp large (none (all_digits xs))
  where
    none : (t : Bool) → pick (t && false) (Some (value_from n xs)) None ≡ None
    none true = refl
    none false = refl

number_all : (n : ℕ) → n < 2 ^ 64 → Some n ≡ number_from n []
unfolding number_from is_number all_digits value_from
number_all n h = simp (lt-ltb n (2 ^ 64) h)

-- ---- What a byte does to a number: it is no digit, the number grows too large, or it is one digit longer

low : (x : ℕ) → x < 48 → is_digit x ≡ false
unfolding is_digit
low x h = simp (lt-leb 48 x h)

high : (x : ℕ) → 57 < x → is_digit x ≡ false
unfolding is_digit
high x h = let k : 48 ≤ x = omega arith in simp (le-leb 48 x k, lt-leb x 57 h)

pub digit : (x : ℕ) → 48 ≤ x → x ≤ 57 → is_digit x ≡ true
unfolding is_digit
digit x h k = simp (le-leb 48 x h, le-leb x 57 k)

pub digit_not : (n x : ℕ) → is_ascii_digit x ≡ false → None ≡ number_from n (x ∷ [])
unfolding is_digit
digit_not n x e = sym (by_digit n x [] false e)

module _ (n x : ℕ) (e : is_ascii_digit x ≡ true) where
  pub digit_over : (n * 10 < 2 ^ 64 → ⊥) → None ≡ number_from n (x ∷ [])
  unfolding is_digit
  digit_over h = sym (by_digit n x [] true e ∙ too_large (n * 10 + (x - 48)) [] (omega (arith, h)))

  pub digit_fits : (m d : ℕ) (r : Option ℕ) → m ≡ n * 10 → d ≡ x - 48 → SomeIff r (m + d < 2 ^ 64) (m + d) → r ≡ number_from n (x ∷ [])
  unfolding is_digit
  digit_fits m d None em ed s = sym (by_digit n x [] true e ∙ too_large (n * 10 + (x - 48)) [] (omega (arith, s)))
  digit_fits m d (Some k) em ed s =
      let is : k ≡ n * 10 + (x - 48) = omega arith in
      rw is (number_all (n * 10 + (x - 48)) (omega arith) ∙ sym (by_digit n x [] true e))

-- ---- Digit after digit

pub no_number : (k : ℕ) → Some k ≡ None → ⊥
no_number k e = let z : ◌≡◌ {A = ℕ} 0 1 = cc in omega arith

module _ (n x : ℕ) (xs : List ℕ) where
  large : ltb (n * 10 + (x - 48)) (2 ^ 64) ≡ false → 2 ^ 64 ≤ n * 10 + (x - 48)
  large e = ltb-false (n * 10 + (x - 48)) (2 ^ 64) e

  first_more : (k : ℕ) (t u : Bool) → is_digit x ≡ t → ltb (n * 10 + (x - 48)) (2 ^ 64) ≡ u → Some k ≡ number_from n (x ∷ []) → number_from n (x ∷ xs) ≡ number_from k xs
  first_more k false u et eu e = absurd (no_number k (e ∙ by_digit n x [] false et))
  first_more k true false et eu e = absurd (no_number k (e ∙ by_digit n x [] true et ∙ too_large (n * 10 + (x - 48)) [] (large eu)))
  first_more k true true et eu e =
      let is : Some k ≡ Some (n * 10 + (x - 48)) = e ∙ by_digit n x [] true et ∙ sym (number_all (n * 10 + (x - 48)) (ltb-true (n * 10 + (x - 48)) (2 ^ 64) eu)) in
      let k-is : k ≡ n * 10 + (x - 48) = cc in
      by_digit n x xs true et ∙ rw k-is

  first_none : (t u : Bool) → is_digit x ≡ t → ltb (n * 10 + (x - 48)) (2 ^ 64) ≡ u → None ≡ number_from n (x ∷ []) → number_from n (x ∷ xs) ≡ None
  first_none false u et eu e = by_digit n x xs false et
  first_none true false et eu e = by_digit n x xs true et ∙ too_large (n * 10 + (x - 48)) xs (large eu)
  first_none true true et eu e =
      absurd (no_number (n * 10 + (x - 48)) (number_all (n * 10 + (x - 48)) (ltb-true (n * 10 + (x - 48)) (2 ^ 64) eu) ∙ sym (by_digit n x [] true et) ∙ sym e))

-- ---- Digits in two parts

no_digits : (n : ℕ) (t : Bool) → ltb n (2 ^ 64) ≡ t → number_from n [] ≡ pick t (Some n) None
unfolding number_from is_number all_digits value_from
no_digits n t e = rw e

pub append_number : (n : ℕ) (xs ys : List ℕ) (k : ℕ) → number_from n xs ≡ Some k → number_from n (xs ++ ys) ≡ number_from k ys
append_number n [] ys k e = go (ltb n (2 ^ 64)) refl
  where
    go : (t : Bool) → ltb n (2 ^ 64) ≡ t → number_from n ys ≡ number_from k ys
    go true h = let is : Some n ≡ Some k = sym (no_digits n true h) ∙ e in let n-is : n ≡ k = cc in rw n-is
    go false h = absurd (no_number k (sym e ∙ no_digits n false h))
append_number n (x ∷ xs) ys k e = go (is_digit x) refl (append_number (n * 10 + (x - 48)) xs ys k)
  where
    go : (t : Bool) → is_digit x ≡ t → (number_from (n * 10 + (x - 48)) xs ≡ Some k → number_from (n * 10 + (x - 48)) (xs ++ ys) ≡ number_from k ys) → number_from n (x ∷ (xs ++ ys)) ≡ number_from k ys
    go true h f = by_digit n x (xs ++ ys) true h ∙ f (sym (by_digit n x xs true h) ∙ e)
    go false h f = absurd (no_number k (sym e ∙ by_digit n x xs false h))

pub append_none : (n : ℕ) (xs ys : List ℕ) → number_from n xs ≡ None → number_from n (xs ++ ys) ≡ None
append_none n [] ys e = go (ltb n (2 ^ 64)) refl
  where
    go : (t : Bool) → ltb n (2 ^ 64) ≡ t → number_from n ys ≡ None
    go true h = absurd (no_number n (sym (no_digits n true h) ∙ e))
    go false h = too_large n ys (ltb-false n (2 ^ 64) h)
append_none n (x ∷ xs) ys e = go (is_digit x) refl (append_none (n * 10 + (x - 48)) xs ys)
  where
    go : (t : Bool) → is_digit x ≡ t → (number_from (n * 10 + (x - 48)) xs ≡ None → number_from (n * 10 + (x - 48)) (xs ++ ys) ≡ None) → number_from n (x ∷ (xs ++ ys)) ≡ None
    go true h f = by_digit n x (xs ++ ys) true h ∙ f (sym (by_digit n x xs true h) ∙ e)
    go false h f = by_digit n x (xs ++ ys) false h

-- ---- So many digits stand for less than that power of ten

one_digit : (x : ℕ) → is_digit x ≡ true → x ≤ 57
unfolding is_digit
one_digit x e = leb-true x 57 (and_right (leb 48 x) (leb x 57) e)

first_digit : (x : ℕ) (xs : List ℕ) → all_digits (x ∷ xs) ≡ true → (is_digit x ≡ true) × (all_digits xs ≡ true)
unfolding all_digits
first_digit x xs e = (and_left (is_digit x) (all_digits xs) e, and_right (is_digit x) (all_digits xs) e)

pub digits_below : (n : ℕ) (xs : List ℕ) → all_digits xs ≡ true → value_from n xs < (n + 1) * 10 ^ length xs
unfolding value_from
digits_below n [] e = omega arith
digits_below n (x ∷ xs) e =
    let d = first_digit x xs e in
    lt_of_lt_of_le (digits_below (n * 10 + (x - 48)) xs d.1) (subst (λ (z : ℕ). (n * 10 + (x - 48) + 1) * 10 ^ length xs ≤ z) (shift n (length xs)) (mul-le-mul_right (10 ^ length xs) (digit_most n x (one_digit x d.0))))
  where
    digit_most : (n x : ℕ) → x ≤ 57 → n * 10 + (x - 48) + 1 ≤ (n + 1) * 10
    digit_most n x h = omega arith

    shift : (n l : ℕ) → (n + 1) * 10 * 10 ^ l ≡ (n + 1) * 10 ^ suc l
    shift n l = mul_assoc (n + 1) 10 (10 ^ l) ∙ ap (λ (z : ℕ). (n + 1) * z) (mul_comm 10 (10 ^ l) ∙ sym (pow.suc 10 l))

-- a number that has come to the place i of the digits
module _ (digits : List ℕ) (n i : ℕ) (w : Option ℕ) (is : number_from n (drop i digits) ≡ w) where
  pub number_end : length digits ≤ i → n < 2 ^ 64 → Some n ≡ w
  number_end h l = number_all n l ∙ sym (ap (number_from n) (drop_of_length-le digits h)) ∙ is

  module _ (h : i < length digits) where
    split : number_from n (get_or digits i 0 ∷ drop (suc i) digits) ≡ w
    split = ap (number_from n) (sym (drop-cons digits i 0 h)) ∙ is

    pub number_more : (k : ℕ) → Some k ≡ number_from n (get_or digits i 0 ∷ []) → number_from k (drop (i + 1) digits) ≡ w
    number_more k e = rw add-one (sym (first_more n (get_or digits i 0) (drop (suc i) digits) k _ _ refl refl e) ∙ split)

    pub number_none : None ≡ number_from n (get_or digits i 0 ∷ []) → None ≡ w
    number_none e = sym (first_none n (get_or digits i 0) (drop (suc i) digits) _ _ refl refl e) ∙ split

-- ---- The whole field

pub size_none : (field digits : List ℕ) → digits ≡ unsigned field → length digits ≡ 0 → None ≡ size_answer field
unfolding size_answer is_size
size_none field digits e h = rw (← e) (none digits h)
  where
    none : (xs : List ℕ) → length xs ≡ 0 → None ≡ pick (is_some xs && is_number 0 xs) (Some (size_of field)) None
    none [] h = refl
    none (x ∷ xs) h = absurd (let z : suc (length xs) ≡ 0 = h in omega arith)

pub size_some : (field digits : List ℕ) (s : Option ℕ) → digits ≡ unsigned field → (length digits ≡ 0 → ⊥) → s ≡ number_from 0 digits → s ≡ size_answer field
unfolding size_answer is_size number_from size_of
size_some field digits s e h es = es ∙ rw (← e) (some digits h)
  where
    some : (xs : List ℕ) → (length xs ≡ 0 → ⊥) → pick (is_number 0 xs) (Some (value_from 0 xs)) None ≡ pick (is_some xs && is_number 0 xs) (Some (value_from 0 xs)) None
    some [] h = absurd (h refl)
    some (x ∷ xs) h = refl
