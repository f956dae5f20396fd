-- A flat scanline without a 1,1,1,n: the document and the crate read the same pixels, and take the same bytes.
use mathlib.Core.Bool.{true, false}
use mathlib.Core.List.{List, [], ◌∷◌, ◌++◌}
use mathlib.Core.Logic.{◌⊎◌, ⊎_elim}
use mathlib.Core.Option.{Option, some}
use mathlib.Core.Path.{◌≡◌, refl, sym, ap, ◌∙◌}
use Prim.Native.Nat.{ℕ, zero, suc, ◌+◌, ◌-◌, ◌*◌, ◌≤◌, ◌<◌}
use native.Mathlib.Omega.{arith}
use borrow.Author.Tests.{le-ltb, le-leb}
use lib.Dec.{eqb}
use lib.ListN.{length, get_or, drop, set}
use Rattle.steps.specs.Place.{bytes_from, spread}
use Rattle.steps.proofs.Laws.Place.{drop_next}
use Rattle.pixel.specs.declared.Rgbe.{Rgbe}
use Rattle.std.specs.Prelude.{Ok}
use Rattle.flat_read.specs.Flat.{FlatRule, is_repeat, crate_flat, flat_of}
use Rattle.steps.proofs.Laws.Width.{width_narrow, width_wide}
use Rattle.steps.specs.declared.Reading.TheVariants.{Crate}
use Rattle.rows_read.specs.Row.{is_flat_width, is_mark, crate_start, crate_row}
use Rattle.flat_read.proofs.Laws.Flat.{NoRepeat, flat_starts}
use Rattle.rows_read.proofs.Laws.Row.{mark_not, kind_flat, kind_pixel, early_other, early_two, start_flat, start_pixel, row_by_width, row_flat, row_pixel}
use Rattle.channels_written.proofs.Laws.Channel.{and_no}
use Rattle.back.proofs.Laws.Row.{coded_width, flat_there}
use Rattle.kept.specs.Radiance.{after, is_old_run, Meaning, meaning, onward, flat_from, flat, flat_bytes, NoOldRun}
use Rattle.kept.proofs.Laws.RadianceRows.{RowReads, all_bytes, behind}

-- ---- The document

nothing_more : (bytes : List ℕ) (before : Option Rgbe) (weight : ℕ) → flat_from bytes before weight 0 ≡ some ([], bytes)
unfolding flat_from
nothing_more [] before weight = refl
nothing_more (r ∷ []) before weight = refl
nothing_more (r ∷ g ∷ []) before weight = refl
nothing_more (r ∷ g ∷ b ∷ []) before weight = refl
nothing_more (r ∷ g ∷ b ∷ e ∷ bytes) before weight = refl

-- an ordinary pixel stands for itself
pub itself : (p : Rgbe) (before : Option Rgbe) (weight : ℕ) → is_old_run p ≡ false → meaning before weight p ≡ some (p ∷ [], p, 1)
unfolding meaning
itself p before weight h = simp h

pixels_found : (qs : List Rgbe) (rest : List ℕ) (before : Option Rgbe) (weight : ℕ) → NoOldRun qs → flat_from (flat_bytes qs ++ rest) before weight (length qs) ≡ some (qs, rest)
unfolding flat_from
pixels_found [] rest before weight none = nothing_more rest before weight
pixels_found (q ∷ qs) rest before weight none =
    let n : ℕ = length qs in
    let one : suc n - 1 ≡ n = omega arith in
    ap (λ (z : Option Meaning). onward z (suc n) (flat_from (flat_bytes qs ++ rest))) (itself q before weight none.0)
    ∙ simp (le-leb 1 (suc n) (omega arith), one) (ap (after (q ∷ [])) (pixels_found qs rest (some q) 1 none.1))

-- the document's flat scanline
pub flat_found : (qs : List Rgbe) (rest : List ℕ) → NoOldRun qs → flat (length qs) (flat_bytes qs ++ rest) ≡ some (qs, rest)
flat_found qs rest none = pixels_found qs rest _ 1 none

-- ---- The crate

pub length_flat : (qs : List Rgbe) → length (flat_bytes qs) ≡ 4 * length qs
length_flat [] = refl
length_flat (q ∷ qs) = omega (arith, length_flat qs)

repeat_behind : (a b c d : ℕ) (px : List ℕ) (at i : ℕ) → i ≡ at + 4 → is_repeat (a ∷ b ∷ c ∷ d ∷ px) i ≡ is_repeat px at
unfolding is_repeat
repeat_behind a b c d px at i e = rw (behind a b c d px at i e, behind a b c d px (at + 1) (i + 1) (omega arith), behind a b c d px (at + 2) (i + 2) (omega arith))

-- no pixel starts 1, 1, 1 for the crate either
no_repeat : (qs : List Rgbe) → NoOldRun qs → NoRepeat (flat_bytes qs) 0 (length qs)
unfolding is_repeat is_old_run
no_repeat [] none i h = absurd (omega arith)
no_repeat (q ∷ qs) none zero h = none.0
no_repeat (q ∷ qs) none (suc i) h = repeat_behind q.r q.g q.b q.e (flat_bytes qs) (0 + 4 * i) (0 + 4 * suc i) (omega arith) ∙ no_repeat qs none.1 i (omega arith)

-- where such pixels stand, a flat part takes just them, by any rule
part_there : (rule : FlatRule) (src : List ℕ) (at : ℕ) (store : List ℕ) (start : ℕ) (qs : List Rgbe) (rest : List ℕ) → NoOldRun qs → drop at src ≡ flat_bytes qs ++ rest
    → (Ok (at + 4 * length qs), spread 1 store start (flat_bytes qs)) ≡ flat_of rule src at store start (length qs)
part_there rule src at store start qs rest none e =
    let n : ℕ = length qs in
    let all : bytes_from (flat_bytes qs) 0 (4 * n) ≡ flat_bytes qs = all_bytes (flat_bytes qs) (4 * n) (length_flat qs) in
    ap (λ (l : List ℕ). (Ok (at + 4 * n), spread 1 store start l)) (sym all)
    ∙ flat_there rule (flat_bytes qs) src 0 n at start store rest _ (e ∙ ap (λ (l : List ℕ). l ++ rest) (sym all)) (no_repeat qs none) (flat_starts rule src at store start n)

-- both read the pixels qs, and rest follows
abbrev pub BothRead : List ℕ → ℕ → List ℕ → List Rgbe → List ℕ → Type 0
BothRead src at store qs rest = (flat (length qs) (drop at src) ≡ some (qs, rest)) × RowReads crate_row src at store (length qs) qs rest

no_mark : (second third : ℕ) → (second ≡ 2 → ⊥) ⊎ (128 ≤ third) → is_mark second third ≡ false
unfolding is_mark
no_mark second third = ⊎_elim (λ h. sym (mark_not second third h)) (λ h. rw (le-ltb third 128 h) (and_no (eqb second 2)))

-- the order in which the crate stores pixel 0
pixel_stored : (s : List ℕ) (r g b e : ℕ) (l : List ℕ) → spread 1 s 0 (r ∷ g ∷ b ∷ e ∷ l) ≡ spread 1 (set (set (set (set s 1 g) 2 b) 0 r) 3 e) 4 l
unfolding spread
pixel_stored [] r g b e l = refl
pixel_stored (x ∷ []) r g b e l = refl
pixel_stored (x ∷ y ∷ []) r g b e l = refl
pixel_stored (x ∷ y ∷ z ∷ s) r g b e l = refl

-- and its second and third byte
two_stored : (src : List ℕ) (at : ℕ) (store : List ℕ) → set (set store 1 (get_or src (at + 1) 0)) 2 (get_or src (at + 2) 0) ≡ spread 1 store 1 (bytes_from src (at + 1) 2)
unfolding spread bytes_from
two_stored src at store =
    let two : at + 2 ≡ at + 1 + 1 = omega arith in
    rw two

pub flat_width : (w : ℕ) → (w < 8) ⊎ (32767 < w) → true ≡ is_flat_width w
unfolding is_flat_width
flat_width w = ⊎_elim (λ h. simp (width_narrow w h)) (λ h. simp (width_wide w (omega arith) h))

module _ (src : List ℕ) (at : ℕ) (store rest : List ℕ) where
  both : (qs : List Rgbe) → NoOldRun qs → drop at src ≡ flat_bytes qs ++ rest
      → (Ok (at + 4 * length qs), spread 1 store 0 (flat_bytes qs)) ≡ crate_row src at store (length qs) → BothRead src at store qs rest
  both qs none e row = (
    ap (flat (length qs)) e ∙ flat_found qs rest none,
    (flat_bytes qs, e, length_flat qs, sym row ∙ ap (λ (i : ℕ). (Ok (at + i), spread 1 store 0 (flat_bytes qs))) (sym (length_flat qs))),
  )

  -- widths 1 to 7 and over 32,767
  pub flat_by_width : (qs : List Rgbe) → (length qs < 8) ⊎ (32767 < length qs) → NoOldRun qs → drop at src ≡ flat_bytes qs ++ rest → BothRead src at store qs rest
  flat_by_width qs h none e = both qs none e (row_by_width Crate src at store (length qs) true (flat_width (length qs) h) _ refl (part_there crate_flat src at store 0 qs rest none e))

  -- other widths
  module _ (q : Rgbe) (qs : List Rgbe) (wide : 8 ≤ length (q ∷ qs)) (short : length (q ∷ qs) ≤ 32767) (none : NoOldRun (q ∷ qs)) (e : drop at src ≡ flat_bytes (q ∷ qs) ++ rest) where
    -- the first byte is not 2
    pub flat_by_first : (q.r ≡ 2 → ⊥) → BothRead src at store (q ∷ qs) rest
    flat_by_first other =
        let w : ℕ = length (q ∷ qs) in
        let first = drop_next src at q.r _ e in
        let no-two : get_or src at 0 ≡ 2 → ⊥ = λ h. other (sym first.1 ∙ h) in
        let kind = kind_flat src at first.0 no-two in
        both (q ∷ qs) none e
        (row_flat Crate src at store w false (coded_width w wide short) refl _ store kind (start_flat src at _ kind store store refl (early_other src at store no-two)) _ refl
        (part_there crate_flat src at store 0 (q ∷ qs) rest none e))

    -- it is 2, but the four bytes are no mark
    pub flat_by_pixel : q.r ≡ 2 → (q.g ≡ 2 → ⊥) ⊎ (128 ≤ q.b) → BothRead src at store (q ∷ qs) rest
    flat_by_pixel is other =
        let n : ℕ = length qs in
        let w : ℕ = length (q ∷ qs) in
        let m0 = drop_next src at q.r _ e in
        let m1 = drop_next src (at + 1) q.g _ m0.2 in
        let m2 = drop_next src (at + 1 + 1) q.b _ m1.2 in
        let m3 = drop_next src (at + 1 + 1 + 1) q.e _ m2.2 in
        let two : at + 1 + 1 ≡ at + 2 = omega arith in
        let three : at + 1 + 1 + 1 ≡ at + 3 = omega arith in
        let four : at + 1 + 1 + 1 + 1 ≡ at + 4 = omega arith in
        let third : get_or src (at + 2) 0 ≡ q.b = rw two at m2.1 in
        let fourth : get_or src (at + 3) 0 ≡ q.e = rw three at m3.1 in
        let none-there : is_mark (get_or src (at + 1) 0) (get_or src (at + 2) 0) ≡ false = rw (m1.1, third) (no_mark q.g q.b other) in
        let kind = kind_pixel src at (m0.1 ∙ is) (omega (arith, m3.0)) _ refl none-there in
        let left : w - 1 ≡ n = omega arith in
        let first : List ℕ = set (set (set (set store 1 (get_or src (at + 1) 0)) 2 (get_or src (at + 2) 0)) 0 2) 3 (get_or src (at + 3) 0) in
        let start = start_pixel src at _ kind (at + 4) refl store _ (early_two src at store _ 2 (m0.1 ∙ is) (omega (arith, m3.0)) (two_stored src at store)) in
        let place : at + 4 - 4 ≡ at = omega arith in
        let last : at + 4 - 1 ≡ at + 3 = omega arith in
        let starts : first ≡ crate_start src at store = rw (place, last, m0.1 ∙ is) at start in
        let part : (Ok (at + 4 + 4 * n), spread 1 first 4 (flat_bytes qs)) ≡ flat_of crate_flat src (at + 4) first 4 (w - 1) = rw left (part_there crate_flat src (at + 4) first 4 qs rest none.1 (rw four at m3.2)) in
        let row = row_pixel Crate src at store w false (coded_width w wide short) refl _ first kind starts _ (at + 4) refl part in
        let stored : spread 1 store 0 (flat_bytes (q ∷ qs)) ≡ spread 1 first 4 (flat_bytes qs) = rw (m1.1, third, fourth, is) (pixel_stored store 2 q.g q.b q.e (flat_bytes qs)) in
        let ends : at + 4 * w ≡ at + 4 + 4 * n = omega arith in
        both (q ∷ qs) none e (ap (λ (i : ℕ). (Ok i, spread 1 store 0 (flat_bytes (q ∷ qs)))) ends ∙ ap (λ (l : List ℕ). (Ok (at + 4 + 4 * n), l)) stored ∙ row)
