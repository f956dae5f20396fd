-- A scanline by 'Radiance File Formats', and what four bytes are worth by 'Real Pixels': written from the documents alone.
use Rattle.std.specs.Prelude.{Bool, false, ◌&&◌, List, [], ◌∷◌, ◌++◌, ◌≡◌, ℕ, zero, suc, ◌+◌, ◌-◌, ◌*◌, ◌/◌, ◌%◌, ◌^◌, length, take, drop, replicate, ltb, leb, eqb}
use Rattle.std.proofs.Math.Option.{Option, none, some}
use Rattle.steps.specs.Loop.{pick}
use Rattle.pixel.specs.declared.Rgbe.{Rgbe}

-- ---- Four bytes

-- a pixel: "three mantissas and a shared exponent"
abbrev pub rgbe : ℕ → ℕ → ℕ → ℕ → Rgbe
rgbe r g b e = record { r = r; g = g; b = b; e = e }

-- "The value of a mantissa m at exponent byte E is (m + 1/2)/256 x 2^(E-128) in Ward's reader", 0 standing for black: the middle of the step,
-- in whole numbers of 2^-149
unfoldable pub middle_units : ℕ → ℕ → ℕ
middle_units m e = pick (eqb e 0) 0 ((2 * m + 1) * 2 ^ (e + 12))

-- ---- What stands at the front of the bytes

-- what was found, and the bytes that follow it; or nothing
abbrev pub Found : Type 0 → Type 0
Found A = Option (A × List ℕ)

-- these first, and then what was found
abbrev pub after : {A : Type 0} → List A → Found (List A) → Found (List A)
after xs none = none
after xs (some z) = some (xs ++ z.0, z.1)

-- one thing, and the next behind it
abbrev pub and_then : {A B : Type 0} → Found A → (A → List ℕ → Found B) → Found B
and_then none next = none
and_then (some z) next = next z.0 z.1

-- ---- "New run-length scanline (lengths 8 to 32,767)"

-- "a count over 128"
unfoldable pub is_over : ℕ → Bool
is_over count = ltb 128 count

-- "In a component a count over 128 repeats the next byte count - 128 times, a count of 1 to 128 is followed by that many bytes": what a count
-- stands for, with the bytes behind it
unfoldable pub span : ℕ → List ℕ → Found (List ℕ)
span count [] = none
span count (b ∷ bytes) =
    pick (is_over count) (some (replicate (count - 128) b, bytes))
    (pick (ltb 0 count && leb count (length (b ∷ bytes))) (some (take count (b ∷ bytes), drop count (b ∷ bytes))) none)

-- "they add up to the scanline's length exactly": n bytes from so many counts at most
unfoldable pub spans : ℕ → ℕ → List ℕ → Found (List ℕ)
spans zero zero bytes = some ([], bytes)
spans zero (suc n) bytes = none
spans (suc counts) zero bytes = some ([], bytes)
spans (suc counts) (suc n) [] = none
spans (suc counts) (suc n) (count ∷ bytes) =
    and_then (span count bytes) (λ xs rest. pick (leb (length xs) (suc n)) (after xs (spans counts (suc n - length xs) rest)) none)

-- a component of n bytes; each count stands for one byte at least, so n counts are enough
abbrev pub component : ℕ → List ℕ → Found (List ℕ)
component n bytes = spans n n bytes

-- the pixels of four components
abbrev pub pixels : List ℕ → List ℕ → List ℕ → List ℕ → List Rgbe
pixels [] gs bs es = []
pixels (r ∷ rs) [] bs es = []
pixels (r ∷ rs) (g ∷ gs) [] es = []
pixels (r ∷ rs) (g ∷ gs) (b ∷ bs) [] = []
pixels (r ∷ rs) (g ∷ gs) (b ∷ bs) (e ∷ es) = rgbe r g b e ∷ pixels rs gs bs es

-- "the four components one after another", of n bytes each
unfoldable pub components : ℕ → List ℕ → Found (List Rgbe)
components n bytes =
    and_then (component n bytes) (λ rs one. and_then (component n one) (λ gs two. and_then (component n two) (λ bs three. and_then (component n three) (λ es four. some (pixels rs gs bs es, four)))))

-- "2, 2, high byte and low byte of the length"
abbrev pub mark : ℕ → List ℕ
mark n = 2 ∷ 2 ∷ (n / 256) ∷ (n % 256) ∷ []

-- just these bytes, in front
unfoldable pub past : List ℕ → List ℕ → Found (Unit {0})
past [] bytes = some (tt, bytes)
past (x ∷ xs) [] = none
past (x ∷ xs) (b ∷ bytes) = pick (eqb b x) (past xs bytes) none

-- the new run-length scanline of n pixels
unfoldable pub coded : ℕ → List ℕ → Found (List Rgbe)
coded n bytes = pick (leb 8 n && leb n 32767) (and_then (past (mark n) bytes) (λ found rest. components n rest)) none

-- ---- "Flat scanline: four bytes to a pixel, one after another.", and old runs in it

-- "a pixel 1,1,1,n"
unfoldable pub is_old_run : Rgbe → Bool
is_old_run p = eqb p.r 1 && (eqb p.g 1 && eqb p.b 1)

-- the pixels that a stored pixel stands for, the pixel that then stands before the next one, and what an n of an old run then counts for
abbrev pub Meaning : Type 0
Meaning = List Rgbe × Rgbe × ℕ

-- "Old run: a pixel 1,1,1,n repeats the pixel before it n times; of several in a row each next one counts for 256 times more."
abbrev pub copies : Option Rgbe → ℕ → ℕ → Option Meaning
copies none weight n = none
copies (some q) weight n = some (replicate (n * weight) q, q, weight * 256)

-- copies of the pixel before, or the pixel itself
unfoldable pub meaning : Option Rgbe → ℕ → Rgbe → Option Meaning
meaning before weight p = pick (is_old_run p) (copies before weight p.e) (some (p ∷ [], p, 1))

-- what a stored pixel stands for, and then the others; there is nothing where it passes the scanline's end
abbrev pub onward : Option Meaning → ℕ → (Option Rgbe → ℕ → ℕ → Found (List Rgbe)) → Found (List Rgbe)
onward none wanted others = none
onward (some z) wanted others = pick (leb (length z.0) wanted) (after z.0 (others (some z.1) z.2 (wanted - length z.0))) none

-- no pixel is to come, or bytes are missing
abbrev pub ended : ℕ → List ℕ → Found (List Rgbe)
ended zero bytes = some ([], bytes)
ended (suc wanted) bytes = none

-- the pixel before, what an n counts for, and how many pixels are to come
unfoldable pub flat_from : List ℕ → Option Rgbe → ℕ → ℕ → Found (List Rgbe)
flat_from [] before weight wanted = ended wanted []
flat_from (r ∷ []) before weight wanted = ended wanted (r ∷ [])
flat_from (r ∷ g ∷ []) before weight wanted = ended wanted (r ∷ g ∷ [])
flat_from (r ∷ g ∷ b ∷ []) before weight wanted = ended wanted (r ∷ g ∷ b ∷ [])
flat_from (r ∷ g ∷ b ∷ e ∷ bytes) before weight zero = some ([], r ∷ g ∷ b ∷ e ∷ bytes)
flat_from (r ∷ g ∷ b ∷ e ∷ bytes) before weight (suc wanted) = onward (meaning before weight (rgbe r g b e)) (suc wanted) (flat_from bytes)

-- the flat scanline of n pixels
abbrev pub flat : ℕ → List ℕ → Found (List Rgbe)
flat n bytes = flat_from bytes none 1 n

-- ---- A scanline, of either form

-- "2, 2, high byte and low byte of the length": four bytes that begin a new run-length scanline. The high byte of 32,767 is 127
unfoldable pub is_new : List ℕ → Bool
is_new [] = false
is_new (first ∷ []) = false
is_new (first ∷ second ∷ []) = false
is_new (first ∷ second ∷ high ∷ []) = false
is_new (first ∷ second ∷ high ∷ low ∷ bytes) = eqb first 2 && (eqb second 2 && ltb high 128)

-- the scanline of n pixels: at "lengths 8 to 32,767" one that begins so is a new run-length scanline, whose length must be n; any other is flat
unfoldable pub scanline : ℕ → List ℕ → Found (List Rgbe)
scanline n bytes = pick ((leb 8 n && leb n 32767) && is_new bytes) (coded n bytes) (flat n bytes)

-- ---- Pixels as bytes

-- "four bytes to a pixel, one after another"
abbrev pub flat_bytes : List Rgbe → List ℕ
flat_bytes [] = []
flat_bytes (q ∷ qs) = q.r ∷ q.g ∷ q.b ∷ q.e ∷ flat_bytes qs

-- none of the pixels is a 1,1,1,n
abbrev pub NoOldRun : List Rgbe → Type 0
NoOldRun [] = Unit {0}
NoOldRun (q ∷ qs) = (is_old_run q ≡ false) × NoOldRun qs
