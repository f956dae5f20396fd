-- A row that is done by the crate reading and is not coded is the document's flat scanline: the same pixels, from the same bytes.
use mathlib.Core.Bool.{Bool, true, false, false≢true}
use mathlib.Core.List.{List, ◌∷◌, ◌++◌}
use mathlib.Core.Logic.{◌⊎◌, inl, inr}
use mathlib.Core.Path.{◌≡◌, refl, sym, ap, subst, ◌∙◌}
use Prim.Native.Nat.{ℕ, zero, suc, ◌+◌, ◌-◌, ◌*◌, ◌≤◌, ◌<◌}
use native.Mathlib.Omega.{arith}
use borrow.Author.Tests.{lt-ltb, eq-eqb}
use lib.ListN.{length, get_or, drop, take, take-append-drop, length-take, length-drop}
use Rattle.steps.specs.declared.refusal.Reason.TheVariants.{BytesEnd}
use Rattle.steps.specs.Place.{bytes_from}
use Rattle.steps.proofs.Laws.Order.{by_order}
use Rattle.steps.proofs.Laws.Place.{bytes_there, drop_past, length_bytes}
use Rattle.steps.proofs.Laws.Taken.{fault_done}
use Rattle.steps.specs.Answer.{Taken}
use Rattle.std.specs.Prelude.{Ok}
use Rattle.pixel.specs.declared.Rgbe.{Rgbe}
use Rattle.flat_read.specs.Flat.{is_repeat, crate_flat, flat_of}
use Rattle.flat_read.proofs.Laws.Flat.{NoRepeat, repeat_not_0, crate_plain}
use Rattle.steps.specs.declared.Reading.TheVariants.{Crate}
use Rattle.rows_read.specs.Row.{is_flat_width, is_mark, kind_of, rest_by, row_by, crate_start, parts_of, row_of, crate_row}
use Rattle.rows_read.proofs.Laws.Row.{Marked, kind_cases, not_flat}
use Rattle.back.proofs.Laws.Row.{coded_width}
use Rattle.kept.specs.Radiance.{rgbe, flat_bytes, NoOldRun}
use Rattle.kept.proofs.Laws.RadianceFlat.{BothRead, length_flat, flat_width, flat_by_width, flat_by_first, flat_by_pixel}
use Rattle.kept.proofs.Laws.RadianceWritten.{row_pixels, pixels_next, row_bytes, no_old_run}

module _ (src : List ℕ) (at : ℕ) where
  -- n pixels from there on are all there, and none starts 1, 1, 1
  abbrev Stand : ℕ → Type 0
  Stand n = (at + 4 * n ≤ length src) × NoRepeat src at n

  -- the bytes from there on are those of the pixels, and what follows
  pixels_stand : (n : ℕ) → at + 4 * n ≤ length src → drop at src ≡ flat_bytes (row_pixels src at n) ++ drop (at + 4 * n) src
  pixels_stand n h =
      let p = take (4 * n) (drop at src) in
      let split : drop at src ≡ p ++ drop (4 * n) (drop at src) = sym (take-append-drop (4 * n) (drop at src)) in
      let size : length p ≡ 4 * n = omega (arith, length-take (4 * n) (drop at src), length-drop at src) in
      let front : flat_bytes (row_pixels src at n) ≡ p = row_bytes src at n ∙ ap (bytes_from src at) (sym size) ∙ bytes_there src at p _ split in
      let rest : drop (at + 4 * n) src ≡ drop (4 * n) (drop at src) = ap (λ (k : ℕ). drop (at + k) src) (sym size) ∙ drop_past src at p _ split in
      rw (front, rest) split

  size_is : (n : ℕ) → length (row_pixels src at n) ≡ n
  size_is n = omega (arith, length_flat (row_pixels src at n), ap length (row_bytes src at n), length_bytes src at (4 * n))

  -- a pixel 0 that starts with 2, and the others
  stand_after : (n : ℕ) → get_or src at 0 ≡ 2 → NoRepeat src (at + 4) n → NoRepeat src at (suc n)
  stand_after n two plain zero h =
      let first : at + 4 * 0 ≡ at = omega arith in
      ap (is_repeat src) first ∙ sym (repeat_not_0 src at (λ one. absurd (omega (arith, two, one))))
  stand_after n two plain (suc i) h =
      let next : at + 4 * suc i ≡ at + 4 + 4 * i = omega arith in
      ap (is_repeat src) next ∙ plain i (omega arith)

-- both read w pixels
abbrev pub Explained : List ℕ → ℕ → List ℕ → ℕ → Type 0
Explained src at store w = (qs : List Rgbe) × (rest : List ℕ) × (length qs ≡ w) × BothRead src at store qs rest

not_mark : (second third : ℕ) → is_mark second third ≡ false → (second ≡ 2 → ⊥) ⊎ (128 ≤ third)
unfolding is_mark
not_mark second third e = by_order third 128 (λ h. inl (λ two. false≢true (sym e ∙ simp (eq-eqb second 2 two, lt-ltb third 128 h)))) inr

module _ (src : List ℕ) (at : ℕ) (store : List ℕ) where
  -- a row that is flat by its width
  by_width : (w : ℕ) → is_flat_width w ≡ true → Stand src at w → Explained src at store w
  by_width w t stand =
      let size = size_is src at w in
      let narrow : (w < 8) ⊎ (32767 < w) = by_order w 8 inl (λ l. by_order 32767 w inr (λ h. absurd (false≢true (coded_width w l h ∙ t)))) in
      (row_pixels src at w, drop (at + 4 * w) src, size, flat_by_width src at store _ _ (rw size narrow) (no_old_run src at w stand.1) (pixels_stand src at w stand.0))

  -- one that is flat by its first bytes
  module _ (n : ℕ) (coded : is_flat_width (suc n) ≡ false) (stand : Stand src at (suc n)) where
    abbrev q : Rgbe
    q = rgbe (get_or src at 0) (get_or src (at + 1) 0) (get_or src (at + 2) 0) (get_or src (at + 3) 0)

    abbrev qs : List Rgbe
    qs = row_pixels src (at + 4) n

    abbrev rest : List ℕ
    rest = drop (at + 4 * suc n) src

    size : length (q ∷ qs) ≡ suc n
    size = ap suc (size_is src (at + 4) n)

    wide : 8 ≤ length (q ∷ qs)
    wide = rw size (not_flat (suc n) false (sym coded) refl)

    short : length (q ∷ qs) ≤ 32767
    short = rw size (by_order 32767 (suc n) (λ h. absurd (false≢true (sym coded ∙ sym (flat_width (suc n) (inr h))))) (λ h. h))

    none : NoOldRun (q ∷ qs)
    none = subst NoOldRun (pixels_next src at n) (no_old_run src at (suc n) stand.1)

    there : drop at src ≡ flat_bytes (q ∷ qs) ++ rest
    there = pixels_stand src at (suc n) stand.0 ∙ ap (λ (l : List Rgbe). flat_bytes l ++ rest) (pixels_next src at n)

    by_first : (get_or src at 0 ≡ 2 → ⊥) → Explained src at store (suc n)
    by_first other = (q ∷ qs, rest, size, flat_by_first src at store rest q qs wide short none there other)

    by_pixel : get_or src at 0 ≡ 2 → is_mark (get_or src (at + 1) 0) (get_or src (at + 2) 0) ≡ false → Explained src at store (suc n)
    by_pixel two other = (q ∷ qs, rest, size, flat_by_pixel src at store rest q qs wide short none there two (not_mark _ _ other))

  module _ (next : ℕ) (s : List ℕ) where
    taken : (a : Taken × List ℕ) → a ≡ (Ok next, s) → a.0 ≡ Ok next
    taken a e = ap (λ (z : Taken × List ℕ). z.0) e

    -- a flat part that is done stands there
    part : (store : List ℕ) (w : ℕ) → 0 < w → flat_of crate_flat src at store 0 w ≡ (Ok next, s) → Stand src at w
    part store w h e = let p = (crate_plain src at store 0 w).upto next (taken _ e) in (omega (arith, p.0, p.1 h), p.2)

    by_kind : (n : ℕ) → is_flat_width (suc n) ≡ false → (Marked src at → ⊥) → rest_by (parts_of Crate) src at (suc n) (kind_of src at) (crate_start src at store) ≡ (Ok next, s) → Explained src at store (suc n)
    unfolding parts_of
    by_kind n t other =
        kind_cases src at (λ z. z ≡ kind_of src at → rest_by (parts_of Crate) src at (suc n) z (crate_start src at store) ≡ (Ok next, s) → Explained src at store (suc n))
        (λ ek e. fault_done BytesEnd next _ s e)
        (λ h f ek e. by_first n t (part (crate_start src at store) (suc n) (omega arith) e) f)
        (λ h f m ek e. absurd (other ek))
        (λ h f m ek e. let wide = not_flat (suc n) false (sym t) refl in
        let p = (crate_plain src (at + 4) (crate_start src at store) 4 (suc n - 1)).upto next (taken _ e) in
        let one : suc n - 1 ≡ n = omega arith in
        by_pixel n t (omega (arith, p.0, p.1 (omega arith)), stand_after src at n f (subst (NoRepeat src (at + 4)) one p.2)) f m)
        refl

    -- the crate reading shows no flat row but the document's
    pub flat_explained : (w : ℕ) → 0 < w → (is_flat_width w ≡ false → Marked src at → ⊥) → crate_row src at store w ≡ (Ok next, s) → Explained src at store w
    unfolding row_of row_by parts_of
    flat_explained zero h other e = absurd (omega arith)
    flat_explained (suc n) h other e = go (is_flat_width (suc n)) refl
      where
        go : (b : Bool) → is_flat_width (suc n) ≡ b → Explained src at store (suc n)
        go true t = by_width (suc n) t (part store (suc n) h (simp t at e))
        go false t = by_kind n t (other t) (simp t at e)
