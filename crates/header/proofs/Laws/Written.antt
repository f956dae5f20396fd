-- The laws that proofs use of `specs/Written.antt`, and how long the header is.
use Prim.Native.Nat.{ℕ, zero, suc, ◌+◌, ◌/◌, ◌%◌, ◌^◌, ◌<◌, ◌≤◌}
use mathlib.Core.Bool.{Bool, true, false}
use mathlib.Core.List.{List, [], ◌∷◌, ◌++◌}
use mathlib.Core.Path.{◌≡◌, refl, sym, ap, subst, ◌∙◌}
use native.Mathlib.Nat.{not-suc-le-zero, div-lt_iff_lt-mul, pow-suc, lt_of_lt_of_le}
use native.Mathlib.Omega.{arith}
use native.Mathlib.Numerals.{add-one}
use borrow.Author.Tests.{lt-ltb, le-ltb, ltb-true, ltb-false}
use lib.ListN.{length, set, length-append}
use lib.Dec.{ltb, lit<, lit≤}
use Rattle.steps.specs.Loop.{pick}
use Rattle.steps.specs.Place.{spread, bytes_from}
use Rattle.steps.proofs.Laws.Place.{spread_then}
use Rattle.words.specs.Lines.{line_feed, space, radiance_line}
use Rattle.words.specs.Axes.{minus_y, plus_x}
use Rattle.header.specs.Written.{software_line, format_line, empty_line, digits_by, digits, written}

-- ---- Digits: those of n / 10, and the last

by_test : (k n : ℕ) (t : Bool) → ltb n 10 ≡ t → digits_by (suc k) n ≡ pick t ((48 + n) ∷ []) (digits_by k (n / 10) ++ ((48 + n % 10) ∷ []))
unfolding digits_by
by_test k n true e = rw (e, digits_by)
by_test k n false e = rw (e, digits_by)

by_any : (j k n : ℕ) → n < j → n < k → digits_by j n ≡ digits_by k n
by_any zero k n h l = absurd (not-suc-le-zero h)
by_any (suc j) zero n h l = absurd (not-suc-le-zero l)
by_any (suc j) (suc k) n h l = by_case (λ a b. by_any j k (n / 10) a b) (ltb n 10) refl
  where
    by_case : (n / 10 < j → n / 10 < k → digits_by j (n / 10) ≡ digits_by k (n / 10)) → (t : Bool) → ltb n 10 ≡ t → digits_by (suc j) n ≡ digits_by (suc k) n
    by_case rec true e = by_test j n true e ∙ sym (by_test k n true e)
    by_case rec false e =
        let ten : 10 ≤ n = ltb-false n 10 e in
        by_test j n false e ∙ ap (λ (xs : List ℕ). xs ++ ((48 + n % 10) ∷ [])) (rec (omega arith) (omega arith)) ∙ sym (by_test k n false e)

pub digits_one : (n : ℕ) → n < 10 → digits n ≡ (48 + n) ∷ []
unfolding digits
digits_one n h = ap (λ (k : ℕ). digits_by k n) (add-one n) ∙ by_test n n true (lt-ltb n 10 h)

pub digits_more : (n : ℕ) → 10 ≤ n → digits n ≡ digits (n / 10) ++ ((48 + n % 10) ∷ [])
unfolding digits
digits_more n h =
    ap (λ (k : ℕ). digits_by k n) (add-one n) ∙ by_test n n false (le-ltb n 10 h)
    ∙ ap (λ (xs : List ℕ). xs ++ ((48 + n % 10) ∷ [])) (by_any n (n / 10 + 1) (n / 10) (omega arith) (omega arith))

-- a number below 10^k has at most k digits, so one below 2^64 at most 20
within : (k n : ℕ) → n < 10 ^ suc k → length (digits n) ≤ suc k
within zero n h = rw (digits_one n h) (omega arith)
within (suc k) n h = by_case (λ l. within k (n / 10) l) (ltb n 10) refl
  where
    by_case : (n / 10 < 10 ^ suc k → length (digits (n / 10)) ≤ suc k) → (t : Bool) → ltb n 10 ≡ t → length (digits n) ≤ suc (suc k)
    by_case rec true e = rw (digits_one n (ltb-true n 10 e)) (omega arith)
    by_case rec false e =
        let fewer : n / 10 < 10 ^ suc k = (div-lt_iff_lt-mul (lit< {m = 0} {n = 10} tt)).1 (subst (λ (m : ℕ). n < m) (pow-suc 10 (suc k)) h) in
        rw (digits_more n (ltb-false n 10 e), length-append) (omega (arith, rec fewer))

pub digits_few : (n : ℕ) → n < 2 ^ 64 → length (digits n) ≤ 20
digits_few n h = within 19 n (lt_of_lt_of_le h (lit≤ {m = 2 ^ 64} {n = 10 ^ 20} tt))

-- ---- Counted and stored

pub count_one : (n : ℕ) → n < 10 → 1 ≡ length (digits n)
count_one n h = rw (digits_one n h)

pub count_more : (n r : ℕ) → 10 ≤ n → r ≡ length (digits (n / 10)) → r + 1 ≡ length (digits n)
count_more n r h e = rw (digits_more n h, length-append, e)

pub store_one : (s : List ℕ) (at n : ℕ) → n < 10 → set s at (48 + n) ≡ spread 1 s at (digits n)
unfolding spread
store_one s at n h = rw (digits_one n h)

module _ (at n p : ℕ) (h : 10 ≤ n) (ep : p ≡ at + length (digits (n / 10))) where
  pub place_more : p + 1 ≡ at + length (digits n)
  place_more = rw (digits_more n h, length-append) (omega arith)

  pub store_more : (s s' : List ℕ) → s' ≡ spread 1 s at (digits (n / 10)) → set s' p (48 + n % 10) ≡ spread 1 s at (digits n)
  unfolding spread
  store_more s s' e = rw (digits_more n h) (sym (spread_then s s' at p (digits (n / 10)) ((48 + n % 10) ∷ []) e ep))

-- ---- The whole header

-- 61 bytes plus the digits of h and w
pub written_length : (width height : ℕ) → length (written width height) ≡ 61 + length (digits height) + length (digits width)
unfolding written
written_length width height = simp length-append (omega arith)

-- the bytes before the height
abbrev start : List ℕ
start = radiance_line ++ (software_line ++ (format_line ++ (empty_line ++ (minus_y ++ space ∷ []))))

-- those between height and width
abbrev middle : List ℕ
middle = space ∷ (plus_x ++ space ∷ [])

-- five stores, one after another
pub written_stored : (width height p q : ℕ) (s s1 s2 s3 s4 : List ℕ)
    → s1 ≡ spread 1 s 0 (bytes_from start 0 56) → p ≡ 56 + length (digits height) → s2 ≡ spread 1 s1 56 (digits height)
    → s3 ≡ spread 1 s2 p (bytes_from middle 0 4) → q ≡ p + 4 + length (digits width) → s4 ≡ spread 1 s3 (p + 4) (digits width)
    → set s4 q 10 ≡ spread 1 s 0 (written width height)
unfolding written spread bytes_from
written_stored width height p q s s1 s2 s3 s4 e1 ep e2 e3 eq e4 =
    let rest : List ℕ = middle ++ (digits width ++ line_feed ∷ []) in
    sym
    (spread_then s s1 0 56 start (digits height ++ rest) e1 refl
    ∙ spread_then s1 s2 56 p (digits height) rest e2 ep
    ∙ spread_then s2 s3 p (p + 4) middle (digits width ++ line_feed ∷ []) e3 refl
    ∙ spread_then s3 s4 (p + 4) q (digits width) (line_feed ∷ []) e4 eq)
