-- The laws that proofs use of `specs/Digits.antt`.
use Prim.Native.Nat.{ℕ, suc, ◌+◌, ◌*◌, ◌^◌, ◌<◌, ◌≤◌}
use mathlib.Core.List.{List, ◌∷◌}
use mathlib.Core.Path.{◌≡◌, sym, ap, ◌∙◌}
use native.Mathlib.Nat.{pow-succ', pow-le-pow_right}
use native.Mathlib.Omega.{arith}
use native.Mathlib.Numerals.{add-one}
use lib.ListN.{length, get_or, drop, drop_of_length-le}
use lib.Seq.{drop-cons}
use Rattle.std.proofs.Common.{Option, Some, None}
use Rattle.std.proofs.lemmas.Bool.Decides.{nat_tests}
use Rattle.hexadecimal.specs.Digits.{worth, numeral_from}

pub worth_small : (b w : ℕ) → worth b ≡ Some w → w < 16
unfolding worth
worth_small b w e = grind (arith, nat_tests)

-- ---- Digit after digit

-- a number that has come to the place i of the digits
module _ (digits : List ℕ) (n i : ℕ) (w : Option ℕ) (is : numeral_from n (drop i digits) ≡ w) where
  pub numeral_end : length digits ≤ i → Some n ≡ w
  unfolding numeral_from
  numeral_end h = sym (ap (numeral_from n) (drop_of_length-le digits h)) ∙ is

  module _ (h : i < length digits) where
    split : numeral_from n (get_or digits i 0 ∷ drop (suc i) digits) ≡ w
    split = ap (numeral_from n) (sym (drop-cons digits i 0 h)) ∙ is

    pub numeral_none : worth (get_or digits i 0) ≡ None → None ≡ w
    unfolding numeral_from
    numeral_none e = rw (e, numeral_from) at split

    pub numeral_more : (d : ℕ) → worth (get_or digits i 0) ≡ Some d → numeral_from (n * 16 + d) (drop (i + 1) digits) ≡ w
    unfolding numeral_from
    numeral_more d e = rw add-one (rw (e, numeral_from) at split)

-- a number of i digits, and one digit more
module _ (n i : ℕ) (h : n < 16 ^ i) where
  pub longer_small : (d : ℕ) → d < 16 → n * 16 + d < 16 ^ (i + 1)
  longer_small d l = rw (add-one, pow-succ') (omega arith)

  module _ (digits : List ℕ) (k : i < length digits) (s : length digits ≤ 8) where
    pub longer_fits : (d : ℕ) → d < 16 → n * 16 + d < 2 ^ 64
    longer_fits d l =
        let few : i + 1 ≤ 8 = omega arith in
        omega (arith, longer_small d l, pow-le-pow_right {n = 16} (omega arith) {i = i + 1} {j = 8} few)

    pub product_fits : n * 16 < 2 ^ 64
    product_fits = omega (arith, longer_fits 0 (omega arith))

-- the steps of such a number
pub ruleset digit_by_digit = (worth_small, numeral_end, numeral_none, numeral_more, longer_small, longer_fits, product_fits)
