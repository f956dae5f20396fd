-- What is written is a scanline by the document: its pixels are the row's, and just its bytes are taken.
use mathlib.Core.Bool.{true, false}
use mathlib.Core.List.{List, [], ◌∷◌, ◌++◌, append_assoc, append-nil}
use mathlib.Core.Option.{none, some, none-ne-some}
use mathlib.Core.Path.{◌≡◌, refl, sym, ap, ◌∙◌, subst}
use Prim.Native.Nat.{ℕ, zero, suc, ◌+◌, ◌-◌, ◌*◌, ◌≤◌}
use native.Mathlib.Nat.{zero-add}
use native.Mathlib.Omega.{arith}
use borrow.Author.Tests.{lt-ltb, le-ltb, le-leb, leb-true, eq-eqb}
use lib.Dec.{leb}
use lib.ListN.{length, get_or, take, drop, replicate, length-append, length-replicate}
use lib.Seq.{take-append_seam, drop-append_seam}
use Rattle.steps.specs.Loop.{pick}
use Rattle.steps.specs.Place.{bytes_from}
use Rattle.pixel.specs.declared.Rgbe.{Rgbe}
use Rattle.channels_written.specs.Channel.{packet, code, channel}
use Rattle.flat_read.specs.Flat.{is_repeat}
use Rattle.steps.proofs.Laws.Place.{length_bytes}
use Rattle.rows_written.specs.Row.{coded_row, written_row}
use Rattle.steps.specs.Width.{is_coded}
use Rattle.back.proofs.Laws.Coded.{code_by}
use Rattle.channels_written.proofs.Laws.Places.{length_channel}
use Rattle.rows_written.proofs.Laws.Row.{row_coded, row_flat}
use Rattle.flat_read.proofs.Laws.Flat.{NoRepeat}
use Rattle.back.proofs.Laws.Weave.{bytes_four}
use Rattle.kept.specs.Radiance.{rgbe, Found, after, and_then, is_over, span, spans, component, pixels, components, mark, past, coded, is_old_run, flat, flat_bytes, NoOldRun}
use Rattle.kept.proofs.Laws.RadianceComponent.{found_then, found_after, found_if}
use Rattle.kept.proofs.Laws.RadianceFlat.{flat_found, length_flat}

-- ---- Counts

-- one count more
pub spans_step : (counts n c : ℕ) (bytes : List ℕ) (u r : List ℕ × List ℕ) → span c bytes ≡ some u → length u.0 ≤ suc n → spans counts (suc n - length u.0) u.1 ≡ some r
    → spans (suc counts) (suc n) (c ∷ bytes) ≡ some (u.0 ++ r.0, r.1)
unfolding spans
spans_step counts n c bytes u r e h rest =
    ap (λ (z : Found (List ℕ)). and_then z (λ xs more. pick (leb (length xs) (suc n)) (after xs (spans counts (suc n - length xs) more)) none)) e
    ∙ simp (le-leb (length u.0) (suc n) h) (ap (after u.0) rest)

-- more counts than are needed do no harm
spans_more : (counts n : ℕ) (bytes : List ℕ) (r : List ℕ × List ℕ) → spans counts n bytes ≡ some r → spans (suc counts) n bytes ≡ some r
unfolding spans
spans_more zero zero bytes r e = e
spans_more zero (suc n) bytes r e = absurd (none-ne-some _ e)
spans_more (suc counts) zero bytes r e = e
spans_more (suc counts) (suc n) [] r e = absurd (none-ne-some _ e)
spans_more (suc counts) (suc n) (c ∷ bytes) r e =
    let one = found_then (span c bytes) _ r e in
    let fits = found_if (leb (length one.0.0) _) _ r one.2 in
    let others = found_after one.0.0 (spans counts (suc n - length one.0.0) one.0.1) r fits.1 in
    spans_step (suc counts) n c bytes one.0 others.0 one.1 (leb-true _ _ fits.0) (spans_more counts _ _ others.0 others.1) ∙ ap some others.2

pub spans_add : (more counts n : ℕ) (bytes : List ℕ) (r : List ℕ × List ℕ) → spans counts n bytes ≡ some r → spans (more + counts) n bytes ≡ some r
spans_add zero counts n bytes r e = ap (λ (k : ℕ). spans k n bytes) (zero-add counts) ∙ e
spans_add (suc more) counts n bytes r e =
    let next : suc more + counts ≡ suc (more + counts) = omega arith in
    ap (λ (k : ℕ). spans k n bytes) next ∙ spans_more (more + counts) n bytes r (spans_add more counts n bytes r e)

-- the bytes p stand for xs, whatever follows
abbrev Means : List ℕ → List ℕ → Type 0
Means p xs = (counts n : ℕ) (bytes : List ℕ) (r : List ℕ × List ℕ) → spans counts n bytes ≡ some r → spans (length xs + counts) (length xs + n) (p ++ bytes) ≡ some (xs ++ r.0, r.1)

means_none : Means [] []
means_none counts n bytes r e = rw (zero-add counts, zero-add n) e

means_both : (p q xs ys : List ℕ) → Means p xs → Means q ys → Means (p ++ q) (xs ++ ys)
means_both p q xs ys P Q counts n bytes r e =
    let sizes = length-append xs ys in
    let a : length (xs ++ ys) + counts ≡ length xs + (length ys + counts) = omega arith in
    let b : length (xs ++ ys) + n ≡ length xs + (length ys + n) = omega arith in
    rw (a, b, append_assoc p q bytes, append_assoc xs ys r.0) (P _ _ (q ++ bytes) (ys ++ r.0, r.1) (Q counts n bytes r e))

-- a count with its bytes
means_count : (c : ℕ) (p xs : List ℕ) → 1 ≤ length xs → ((bytes : List ℕ) → span c (p ++ bytes) ≡ some (xs, bytes)) → Means (c ∷ p) xs
means_count c p xs h is counts n bytes r e =
    let j : ℕ = length xs - 1 in
    let a : length xs + counts ≡ suc (j + counts) = omega arith in
    let b : length xs + n ≡ suc (j + n) = omega arith in
    let left : suc (j + n) - length xs ≡ n = omega arith in
    ap (λ (k : ℕ). spans k (length xs + n) (c ∷ p ++ bytes)) a
    ∙ ap (λ (k : ℕ). spans (suc (j + counts)) k (c ∷ p ++ bytes)) b
    ∙ spans_step (j + counts) (j + n) c (p ++ bytes) (xs, bytes) r (is bytes) (omega arith) (rw left (spans_add j counts n bytes r e))

means_run : (v n : ℕ) → 1 ≤ n → Means (packet v n) (replicate n v)
unfolding span is_over
means_run v n h =
    let size = length-replicate n v in
    let back : 128 + n - 128 ≡ n = omega arith in
    means_count (128 + n) (v ∷ []) (replicate n v) (omega arith) (λ bytes. simp (lt-ltb 128 (128 + n) (omega arith), back))

means_literals : (c : ℕ) (p : List ℕ) → c ≡ length p → 1 ≤ c → c ≤ 128 → Means (c ∷ p) p
unfolding span is_over
means_literals c [] e h l = absurd (omega arith)
means_literals c (b ∷ p) e h l =
    means_count c (b ∷ p) (b ∷ p) (omega arith)
    (λ bytes.
    let room : c ≤ length (b ∷ p ++ bytes) = omega (arith, length-append p bytes) in
    let front : take c (b ∷ p ++ bytes) ≡ b ∷ p = ap (λ (k : ℕ). take k (b ∷ p ++ bytes)) e ∙ take-append_seam (b ∷ p) bytes in
    let behind : drop c (b ∷ p ++ bytes) ≡ bytes = ap (λ (k : ℕ). drop k (b ∷ p ++ bytes)) e ∙ drop-append_seam (b ∷ p) bytes in
    simp (le-ltb 128 c l, lt-ltb 0 c h, le-leb c (length (b ∷ p ++ bytes)) room, front, behind))

-- a coded channel is a component
pub code_found : (n : ℕ) (xs rest : List ℕ) → length xs ≡ n → component n (code xs ++ rest) ≡ some (xs, rest)
unfolding spans
code_found n xs rest s =
    let size : n ≡ length xs + 0 = omega arith in
    ap (λ (k : ℕ). spans k k (code xs ++ rest)) size
    ∙ code_by Means means_none means_both means_run means_literals xs 0 0 rest ([], rest) refl
    ∙ ap (λ (l : List ℕ). some (l, rest)) (append-nil xs)

-- ---- The pixels of a row

-- the w pixels of px from place at on
abbrev pub row_pixels : List ℕ → ℕ → ℕ → List Rgbe
row_pixels px at w = pixels (channel px at w) (channel px (at + 1) w) (channel px (at + 2) w) (channel px (at + 3) w)

pub pixels_next : (px : List ℕ) (at n : ℕ) → row_pixels px at (suc n) ≡ rgbe (get_or px at 0) (get_or px (at + 1) 0) (get_or px (at + 2) 0) (get_or px (at + 3) 0) ∷ row_pixels px (at + 4) n
pixels_next px at n =
    let one : at + 1 + 4 ≡ at + 4 + 1 = omega arith in
    let two : at + 2 + 4 ≡ at + 4 + 2 = omega arith in
    let three : at + 3 + 4 ≡ at + 4 + 3 = omega arith in
    rw (one, two, three)

-- their bytes are the row's
pub row_bytes : (px : List ℕ) (at w : ℕ) → flat_bytes (row_pixels px at w) ≡ bytes_from px at (4 * w)
unfolding bytes_from
row_bytes px at zero = refl
row_bytes px at (suc n) =
    let two : at + 2 ≡ at + 1 + 1 = omega arith in
    let three : at + 3 ≡ at + 1 + 1 + 1 = omega arith in
    let four : bytes_from px at 4 ≡ get_or px at 0 ∷ get_or px (at + 1) 0 ∷ get_or px (at + 2) 0 ∷ get_or px (at + 3) 0 ∷ [] = rw (two, three) in
    ap flat_bytes (pixels_next px at n)
    ∙ ap (λ (l : List ℕ). get_or px at 0 ∷ get_or px (at + 1) 0 ∷ get_or px (at + 2) 0 ∷ get_or px (at + 3) 0 ∷ l) (row_bytes px (at + 4) n)
    ∙ ap (λ (l : List ℕ). l ++ bytes_from px (at + 4) (4 * n)) (sym four)
    ∙ sym (bytes_four px at n)

-- ---- A coded row

pub past_found : (xs bytes : List ℕ) → past xs (xs ++ bytes) ≡ some (tt, bytes)
unfolding past
past_found [] bytes = refl
past_found (x ∷ xs) bytes = simp (eq-eqb x x refl) (past_found xs bytes)

-- the bytes c are a component of n bytes, xs, whatever follows
abbrev IsComponent : ℕ → List ℕ → List ℕ → Type 0
IsComponent n c xs = (rest : List ℕ) → component n (c ++ rest) ≡ some (xs, rest)

components_found : (n : ℕ) (rs gs bs es c0 c1 c2 c3 rest : List ℕ) → IsComponent n c0 rs → IsComponent n c1 gs → IsComponent n c2 bs → IsComponent n c3 es
    → components n (c0 ++ (c1 ++ (c2 ++ (c3 ++ rest)))) ≡ some (pixels rs gs bs es, rest)
unfolding components
components_found n rs gs bs es c0 c1 c2 c3 rest f0 f1 f2 f3 = rw (f0 (c1 ++ (c2 ++ (c3 ++ rest))), f1 (c2 ++ (c3 ++ rest)), f2 (c3 ++ rest), f3 rest)

coded_found : (px : List ℕ) (at w : ℕ) (rest : List ℕ) → is_coded w ≡ true → coded w (coded_row px at w ++ rest) ≡ some (row_pixels px at w, rest)
unfolding coded coded_row is_coded
coded_found px at w rest t =
    let c : ℕ → List ℕ = λ i. code (channel px i w) in
    let is : (i : ℕ) → IsComponent w (c i) (channel px i w) = λ i l. code_found w (channel px i w) l (length_channel px i w) in
    let body : List ℕ = c at ++ (c (at + 1) ++ (c (at + 2) ++ (c (at + 3) ++ rest))) in
    let there : coded_row px at w ++ rest ≡ mark w ++ body = simp append_assoc in
    simp t
    (ap (λ (l : List ℕ). and_then (past (mark w) l) (λ found more. components w more)) there
    ∙ ap (λ (z : Found (Unit {0})). and_then z (λ found more. components w more)) (past_found (mark w) body)
    ∙ components_found w (channel px at w) (channel px (at + 1) w) (channel px (at + 2) w) (channel px (at + 3) w) (c at) (c (at + 1)) (c (at + 2)) (c (at + 3)) rest (is at) (is (at + 1)) (is (at + 2)) (is (at + 3)))

-- a row written at widths 8 to 32,767 is the new run-length scanline of its pixels
pub coded_written : (px : List ℕ) (at w : ℕ) (rest : List ℕ) → is_coded w ≡ true → coded w (written_row px at w ++ rest) ≡ some (row_pixels px at w, rest)
coded_written px at w rest t = ap (λ (l : List ℕ). coded w (l ++ rest)) (row_coded px at w t) ∙ coded_found px at w rest t

-- ---- A flat row

pub no_old_run : (px : List ℕ) (at w : ℕ) → NoRepeat px at w → NoOldRun (row_pixels px at w)
unfolding is_repeat is_old_run
no_old_run px at zero plain = tt
no_old_run px at (suc n) plain =
    let first : at + 4 * 0 ≡ at = omega arith in
    let next : (i : ℕ) → at + 4 * suc i ≡ at + 4 + 4 * i = λ i. omega arith in
    subst NoOldRun (sym (pixels_next px at n))
    (ap (is_repeat px) (sym first) ∙ plain 0 (omega arith), no_old_run px (at + 4) n (λ i h. ap (is_repeat px) (sym (next i)) ∙ plain (suc i) (omega arith)))

-- a row written at other widths is the flat scanline of its pixels, if none is a 1,1,1,n
pub flat_written : (px : List ℕ) (at w : ℕ) (rest : List ℕ) → is_coded w ≡ false → NoRepeat px at w → flat w (written_row px at w ++ rest) ≡ some (row_pixels px at w, rest)
flat_written px at w rest t plain =
    let qs : List Rgbe = row_pixels px at w in
    let size : w ≡ length qs = omega (arith, length_flat qs, ap length (row_bytes px at w), length_bytes px at (4 * w)) in
    ap (λ (l : List ℕ). flat w (l ++ rest)) (row_flat px at w t ∙ sym (row_bytes px at w))
    ∙ ap (λ (n : ℕ). flat n (flat_bytes qs ++ rest)) size
    ∙ flat_found qs rest (no_old_run px at w plain)
