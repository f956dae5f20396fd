-- The laws that proofs use of `specs/Samples.antt`: samples that are put one after another.
use Prim.Native.Nat.{ℕ, zero, suc, ◌+◌, ◌-◌, ◌*◌, ◌<◌, ◌≤◌}
use mathlib.Core.Bool.{Bool, true, false, not, ◌&&◌}
use mathlib.Core.List.{List, [], ◌++◌}
use mathlib.Core.Path.{◌≡◌, refl, sym, ap, ◌∙◌}
use native.Mathlib.Nat.{zero-mul, one-mul, mul-one, suc-mul}
use native.Mathlib.Numerals.{add-one}
use native.Mathlib.Omega.{arith}
use borrow.Author.Tests.{ltb-true, eqb-true, eq-eqb, ne_eqb}
use lib.Dec.{ltb, eqb}
use lib.Ieee.{Float}
use lib.ListN.{length}
use Rattle.steps.proofs.Laws.Place.{spread_then}
use Rattle.steps.proofs.Laws.Turns.{and_left, and_right}
use Rattle.pixel.specs.declared.Pixel.{Pixel}
use Rattle.pixel.specs.declared.Rgbe.{Rgbe}
use Rattle.steps.specs.Place.{spread}
use Rattle.steps.specs.declared.Reading.{Reading}
use Rattle.pixel.specs.Rgbe.{rgbe_at, units_of, pixel_of}
use Rattle.places.specs.declared.Line.{Line}
use Rattle.places.specs.Inner.{ahead, line_at}
use Rattle.reader.specs.Samples.{SampleRule, three, placed}
use Rattle.reader.specs.Read.{pixel_by}
use Rattle.reader.specs.Inner.{samples_from, Room, is_along}

-- the samples of one pixel more
samples_snoc : (rule : SampleRule) (store : List ℕ) (i n : ℕ) → samples_from rule store i n ++ three (rule (rgbe_at store (i + 4 * n))) [] ≡ samples_from rule store i (suc n)
unfolding samples_from
samples_snoc rule store i zero = let here : i + 4 * 0 ≡ i = omega arith in rw here
samples_snoc rule store i (suc n) =
    let here : i + 4 * suc n ≡ i + 4 + 4 * n = omega arith in
    rw here (ap (three (rule (rgbe_at store i))) (samples_snoc rule store (i + 4) n))

length_samples : (rule : SampleRule) (store : List ℕ) (i n : ℕ) → length (samples_from rule store i n) ≡ 3 * n
unfolding samples_from
length_samples rule store i zero = refl
length_samples rule store i (suc n) = let e : 3 * suc n ≡ suc (suc (suc (3 * n))) = omega arith in rw e (ap (λ (k : ℕ). suc (suc (suc k))) (length_samples rule store (i + 4) n))

-- one pixel more, by a reading: what is stored is the samples of the first k pixels
pub samples_next : (reading : Reading) (store : List ℕ) (out out' out'' : List Float) (from k o : ℕ) (q : Rgbe) (p : Pixel) → out' ≡ spread 1 out from (samples_from (pixel_by reading) store 0 k)
    → o ≡ from + 3 * k → q ≡ rgbe_at store (4 * k) → p ≡ pixel_of (units_of reading) q → out'' ≡ spread 1 out' o (three p []) → out'' ≡ spread 1 out from (samples_from (pixel_by reading) store 0 (k + 1))
unfolding pixel_by
samples_next reading store out out' out'' from k o q p e eo eq ep ee =
    let place : o ≡ from + length (samples_from (pixel_by reading) store 0 k) = rw (length_samples (pixel_by reading) store 0 k) eo in
    let here : 4 * k ≡ 0 + 4 * k = omega arith in
    rw (ee, ep, eq, add-one k, here) (sym (spread_then out out' from o _ _ e place) ∙ ap (spread 1 out from) (samples_snoc (pixel_by reading) store 0 k))

pub samples_start : (rule : SampleRule) (store : List ℕ) (out : List Float) (from : ℕ) → out ≡ spread 1 out from (samples_from rule store 0 0)
unfolding spread samples_from
samples_start rule store out from = refl

-- ---- Pixels that are put one by one, each to its place

-- before the first
first_by : (back : Bool) (first stride : ℕ) → 3 * first ≡ 3 * ahead back first stride 0
first_by false first stride = omega (arith, zero-mul stride)
first_by true first stride = omega (arith, zero-mul stride)

pub first_ahead : (line : Line) → 3 * line.first ≡ 3 * line_at line 0
first_ahead line = first_by line.back line.first line.stride

pub placed_start : (rule : SampleRule) (place : ℕ → ℕ) (store : List ℕ) (out : List Float) → out ≡ placed rule place store 0 0 out
unfolding placed
placed_start rule place store out = refl

-- one pixel more
placed_snoc : (rule : SampleRule) (place : ℕ → ℕ) (store : List ℕ) (i n : ℕ) (out : List Float)
    → spread 1 (placed rule place store i n out) (3 * place (i + n)) (three (rule (rgbe_at store (4 * (i + n)))) []) ≡ placed rule place store i (suc n) out
unfolding placed
placed_snoc rule place store i zero out = let here : i + 0 ≡ i = omega arith in rw here
placed_snoc rule place store i (suc n) out = let here : i + suc n ≡ i + 1 + n = omega arith in rw here (placed_snoc rule place store (i + 1) n _)

-- the same along a line, by a reading
pub line_next : (reading : Reading) (line : Line) (store : List ℕ) (out out' out'' : List Float) (k o : ℕ) (q : Rgbe) (p : Pixel) → out' ≡ placed (pixel_by reading) (line_at line) store 0 k out
    → o ≡ 3 * line_at line k → q ≡ rgbe_at store (4 * k) → p ≡ pixel_of (units_of reading) q → out'' ≡ spread 1 out' o (three p []) → out'' ≡ placed (pixel_by reading) (line_at line) store 0 (k + 1) out
unfolding pixel_by
line_next reading line store out out' out'' k o q p e eo eq ep ee =
    let here : 0 + k ≡ k = omega arith in
    rw (ee, ep, eq, eo, e, add-one k) (rw here at (placed_snoc (pixel_by reading) (line_at line) store 0 k out))

-- the next place along a line, of three samples to a pixel
next_by : (back : Bool) (first stride i o s r : ℕ) → o ≡ 3 * ahead back first stride i → s ≡ 3 * stride → r ≡ ahead back o s 1 → r ≡ 3 * ahead back first stride (i + 1)
next_by false first stride i o s r eo es er = let next : (i + 1) * stride ≡ i * stride + stride = rw (add-one, suc-mul) in omega (arith, eo, es, er, next)
next_by true first stride i o s r eo es er = let next : (i + 1) * stride ≡ i * stride + stride = rw (add-one, suc-mul) in omega (arith, eo, es, er, next)

pub next_ahead : (line : Line) (i o s r : ℕ) → o ≡ 3 * line_at line i → s ≡ 3 * line.stride → r ≡ ahead line.back o s 1 → r ≡ 3 * line_at line (i + 1)
next_ahead line = next_by line.back line.first line.stride

pub onward_back : (back : Bool) (o stride r : ℕ) → back ≡ true → r ≡ o - stride → r ≡ ahead back o stride 1
onward_back back o stride r k e = e ∙ rw k (ap (λ (n : ℕ). o - n) (sym (one-mul stride)))

pub onward_on : (back : Bool) (o stride : ℕ) → back ≡ false → o + stride ≡ ahead back o stride 1
onward_on back o stride k = rw k (ap (λ (n : ℕ). o + n) (sym (one-mul stride)))

-- places that agree
pub placed_same : (rule : SampleRule) (p q : ℕ → ℕ) (store : List ℕ) (i n : ℕ) (out : List Float) → ((c : ℕ) → i ≤ c → c < i + n → p c ≡ q c) → placed rule p store i n out ≡ placed rule q store i n out
unfolding placed
placed_same rule p q store i zero out h = refl
placed_same rule p q store i (suc n) out h =
    ap (λ (m : ℕ). placed rule p store (i + 1) n (spread 1 out (3 * m) (three (rule (rgbe_at store (4 * i))) []))) (h i (omega arith) (omega arith))
    ∙ placed_same rule p q store (i + 1) n _ (λ c l m. h c (omega arith) (omega arith))

-- ---- A row that lies as it is stored: its samples are put in one piece

along_from : (rule : SampleRule) (first : ℕ) (store : List ℕ) (i n : ℕ) (out : List Float)
    → placed rule (λ c. first + c) store i n out ≡ spread 1 out (3 * (first + i)) (samples_from rule store (4 * i) n)
unfolding placed spread samples_from
along_from rule first store i zero out = refl
along_from rule first store i (suc n) out =
    let place : 3 * (first + (i + 1)) ≡ 3 * (first + i) + 1 + 1 + 1 = omega arith in
    let byte : 4 * (i + 1) ≡ 4 * i + 4 = omega arith in
    along_from rule first store (i + 1) n _ ∙ rw (place, byte)

-- a row that lies from a place on
pub placed_on : (rule : SampleRule) (first : ℕ) (store : List ℕ) (out : List Float) (n : ℕ) → placed rule (λ c. first + c) store 0 n out ≡ spread 1 out (3 * first) (samples_from rule store 0 n)
placed_on rule first store out n =
    let start : first + 0 ≡ first = omega arith in
    along_from rule first store 0 n out ∙ ap (λ (p : ℕ). spread 1 out (3 * p) (samples_from rule store 0 n)) start

not_back : (back : Bool) → not back ≡ true → back ≡ false
not_back false e = refl
not_back true e = sym e

-- the test for it
pub along_some : (line : Line) (n : ℕ) → line.back ≡ false → line.stride ≡ 1 → ltb 0 n ≡ is_along line n
along_some line n k l = simp (k, eq-eqb line.stride 1 l)

pub along_far : (line : Line) (n : ℕ) → line.back ≡ false → (line.stride ≡ 1 → ⊥) → eqb line.stride 1 ≡ is_along line n
along_far line n k l = simp (k, ne_eqb line.stride 1 l)

-- what it tells
module _ (line : Line) (n : ℕ) (t : Bool) (is : t ≡ is_along line n) (yes : t ≡ true) where
  whole : is_along line n ≡ true
  whole = sym is ∙ yes

  rest : (eqb line.stride 1 && ltb 0 n) ≡ true
  rest = and_right (not line.back) _ whole

  some : 0 < n
  some = ltb-true 0 n (and_right (eqb line.stride 1) _ rest)

  lies : (c : ℕ) → line_at line c ≡ line.first + c
  lies c =
      let on : line.back ≡ false = not_back line.back (and_left (not line.back) _ whole) in
      let ones : line.stride ≡ 1 = eqb-true line.stride 1 (and_left (eqb line.stride 1) _ rest) in
      rw (on, ones) (ap (λ (m : ℕ). line.first + m) (mul-one c))

  pub along_room : (size : ℕ) → Room line n size → 3 * line.first + 3 * n ≤ size
  along_room size room = let i : n - 1 < n = omega (arith, some) in omega (arith, some, lies (n - 1), (room.2 (n - 1) i).1)

  pub placed_along : (rule : SampleRule) (store : List ℕ) (out out' : List Float) → out' ≡ spread 1 out (3 * line.first) (samples_from rule store 0 n) → out' ≡ placed rule (line_at line) store 0 n out
  placed_along rule store out out' e =
      e ∙ sym (placed_same rule (line_at line) (λ c. line.first + c) store 0 n out (λ c l m. lies c) ∙ placed_on rule line.first store out n)
