-- Which form a scanline has by the document, and how the document reading takes a row: as four channels where it begins a new run-length scanline,
-- and else as one flat part from its start on.
use mathlib.Core.Bool.{Bool, true, false, ◌&&◌, false≢true}
use mathlib.Core.List.{List, [], ◌∷◌}
use mathlib.Core.Path.{◌≡◌, refl, sym, ap, ◌∙◌}
use Prim.Native.Nat.{ℕ, ◌+◌, ◌-◌, ◌≤◌, ◌<◌}
use native.Mathlib.Omega.{arith}
use borrow.Author.Tests.{eq-eqb, eqb-true, eqb-false}
use lib.Dec.{eqb, ltb}
use lib.ListN.{length, get_or, drop, length-drop}
use Rattle.steps.specs.Place.{bytes_from, spread}
use Rattle.steps.proofs.Laws.Order.{by_order}
use Rattle.steps.proofs.Laws.Place.{drop_next}
use Rattle.steps.proofs.Laws.Turns.{and_left, and_right, enough_turns}
use Rattle.std.specs.Prelude.{Err}
use Rattle.steps.specs.declared.refusal.Reason.TheVariants.{BytesEnd}
use Rattle.steps.specs.declared.Reading.TheVariants.{Document}
use Rattle.flat_read.specs.Flat.{Flat, flat, document_flat, flat_of, flat_out, flat_turn}
use Rattle.flat_read.proofs.Laws.Flat.{repeat_not_0, four_there, flat_starts, flat_missing, flat_ordinary, flat_falls, document_onward}
use Rattle.rows_read.specs.Row.{is_flat_width, is_mark, kind_of, document_row}
use Rattle.rows_read.proofs.Laws.Row.{Marked, not_flat, kind_none, kind_short, kind_flat, kind_channels, kind_pixel, kind_cases, whole_missing, whole_flat, whole_pixel, row_by_width, row_missing, row_flat, row_pixel}
use Rattle.kept.specs.Radiance.{is_new}

-- ---- Whether it begins a new run-length scanline

module _ (src : List ℕ) (at : ℕ) where
  -- four bytes are there, and they are a mark for both
  pub new_four : (bytes : List ℕ) → drop at src ≡ bytes → is_new bytes ≡ true → (at + 4 ≤ length src) × (get_or src at 0 ≡ 2) × (is_mark (get_or src (at + 1) 0) (get_or src (at + 2) 0) ≡ true)
  unfolding is_new is_mark
  new_four [] e t = absurd (false≢true t)
  new_four (x ∷ []) e t = absurd (false≢true t)
  new_four (x ∷ y ∷ []) e t = absurd (false≢true t)
  new_four (x ∷ y ∷ z ∷ []) e t = absurd (false≢true t)
  new_four (x ∷ y ∷ z ∷ l ∷ bytes) e t =
      let m0 = drop_next src at x _ e in
      let m1 = drop_next src (at + 1) y _ m0.2 in
      let m2 = drop_next src (at + 1 + 1) z _ m1.2 in
      let two : at + 1 + 1 ≡ at + 2 = omega arith in
      let third : get_or src (at + 2) 0 ≡ z = rw two at m2.1 in
      (omega (arith, ap length e, length-drop at src), m0.1 ∙ eqb-true x 2 (and_left (eqb x 2) _ t), rw (m1.1, third) (and_right (eqb x 2) _ t))

  pub new_marked : is_new (drop at src) ≡ true → Marked src at
  new_marked t =
      let is = new_four (drop at src) refl t in
      kind_channels src at is.1 (omega (arith, is.0)) true (sym is.2) refl

  marked_four : Marked src at → (at + 4 ≤ length src) × (get_or src at 0 ≡ 2) × (is_mark (get_or src (at + 1) 0) (get_or src (at + 2) 0) ≡ true)
  marked_four marked =
      kind_cases src at (λ z. z ≡ kind_of src at → (at + 4 ≤ length src) × (get_or src at 0 ≡ 2) × (is_mark (get_or src (at + 1) 0) (get_or src (at + 2) 0) ≡ true))
      (λ ek. let no : ◌≡◌ {A = ℕ} 0 1 = cc in absurd (omega arith))
      (λ h f ek. let no : ◌≡◌ {A = ℕ} 0 1 = cc in absurd (omega arith))
      (λ h f m ek. (h, f, m))
      (λ h f m ek. let no : ◌≡◌ {A = ℕ} 0 1 = cc in absurd (omega arith))
      refl

  pub marked_new : Marked src at → is_new (drop at src) ≡ true
  unfolding is_new is_mark
  marked_new marked = go (drop at src) refl
    where
      is : (at + 4 ≤ length src) × (get_or src at 0 ≡ 2) × ((eqb (get_or src (at + 1) 0) 2 && ltb (get_or src (at + 2) 0) 128) ≡ true)
      is = marked_four marked

      go : (bytes : List ℕ) → drop at src ≡ bytes → is_new bytes ≡ true
      go [] e = absurd (omega (arith, is.0, ap length e, length-drop at src))
      go (x ∷ []) e = absurd (omega (arith, is.0, ap length e, length-drop at src))
      go (x ∷ y ∷ []) e = absurd (omega (arith, is.0, ap length e, length-drop at src))
      go (x ∷ y ∷ z ∷ []) e = absurd (omega (arith, is.0, ap length e, length-drop at src))
      go (x ∷ y ∷ z ∷ l ∷ bytes) e =
          let m0 = drop_next src at x _ e in
          let m1 = drop_next src (at + 1) y _ m0.2 in
          let m2 = drop_next src (at + 1 + 1) z _ m1.2 in
          let two : at + 1 + 1 ≡ at + 2 = omega arith in
          let third : get_or src (at + 2) 0 ≡ z = rw two at m2.1 in
          simp (eq-eqb x 2 (sym m0.1 ∙ is.1)) (rw (m1.1, third) at is.2)

-- ---- The flat part of a row that is not one

module _ (src : List ℕ) (at : ℕ) (store : List ℕ) (w : ℕ) (some_wanted : 0 < w) where
  part_short : length src < at + 4 → (Err BytesEnd, store) ≡ flat_of document_flat src at store 0 w
  unfolding document_flat
  part_short h = flat_missing document_flat src at 0 w 0 store _ (flat_starts document_flat src at store 0 w) some_wanted h

  -- pixel 0 is an ordinary one if it starts with 2
  part_pixel : get_or src at 0 ≡ 2 → at + 4 ≤ length src → flat_of document_flat src (at + 4) (spread 1 store 0 (bytes_from src at 4)) 4 (w - 1) ≡ flat_of document_flat src at store 0 w
  unfolding flat_of
  part_pixel two room =
      let x : Flat = flat (at + 4) 4 (w - 1) 0 (spread 1 store 0 (bytes_from src at 4)) in
      let filled = four_there src at store 0 room in
      let r = flat_ordinary document_flat src at 0 w 0 store _ (flat_starts document_flat src at store 0 w) some_wanted x room (sym (repeat_not_0 src at (λ one. omega arith))) (ap (flat (at + 4) 4 (w - 1) 0) (sym filled)) in
      enough_turns (flat_turn document_flat src) flat_out flat_out (λ (y : Flat). length src - y.at) (flat_falls document_flat document_onward src) (length src + 1) r.turns x (omega arith) r.enough ∙ r.gives

module _ (src : List ℕ) (at : ℕ) (store : List ℕ) (w : ℕ) (coded : false ≡ is_flat_width w) where
  some_wanted : 0 < w
  some_wanted = omega (arith, not_flat w false coded refl)

  -- by its first byte
  by_first : (Marked src at → ⊥) → (b : Bool) → eqb (get_or src at 0) 2 ≡ b → at < length src → flat_of document_flat src at store 0 w ≡ document_row src at store w
  by_first other false t h =
      let kind = kind_flat src at h (eqb-false (get_or src at 0) 2 t) in
      row_flat Document src at store w false coded refl _ store kind (whole_flat src at store _ kind refl) _ refl refl
  by_first other true t h =
      let two : get_or src at 0 ≡ 2 = eqb-true (get_or src at 0) 2 t in
      by_order (length src - at) 4
      (λ l. let kind = kind_short src at two h l in
      sym (part_short src at store w some_wanted (omega arith)) ∙ row_missing Document src at store w false coded refl _ store kind (whole_missing src at store _ kind refl) refl)
      (λ l. by_mark two l (is_mark (get_or src (at + 1) 0) (get_or src (at + 2) 0)) refl)
    where
      by_mark : get_or src at 0 ≡ 2 → 4 ≤ length src - at → (m : Bool) → is_mark (get_or src (at + 1) 0) (get_or src (at + 2) 0) ≡ m → flat_of document_flat src at store 0 w ≡ document_row src at store w
      by_mark two l true m = absurd (other (kind_channels src at two l true (sym m) refl))
      by_mark two l false m =
          let kind = kind_pixel src at two l false (sym m) refl in
          let first : at + 4 - 4 ≡ at = omega arith in
          let start = whole_pixel src at store _ kind (at + 4) (spread 1 store 0 (bytes_from src at 4)) refl (rw first) in
          row_pixel Document src at store w false coded refl _ _ kind start _ (at + 4) refl (sym (part_pixel src at store w some_wanted two (omega arith)))

-- a row that is not coded is one flat part
pub flat_row : (src : List ℕ) (at : ℕ) (store : List ℕ) (w : ℕ) → (is_flat_width w ≡ false → Marked src at → ⊥) → flat_of document_flat src at store 0 w ≡ document_row src at store w
flat_row src at store w other = go (is_flat_width w) refl
  where
    go : (b : Bool) → is_flat_width w ≡ b → flat_of document_flat src at store 0 w ≡ document_row src at store w
    go true t = row_by_width Document src at store w true (sym t) _ refl refl
    go false t =
        by_order at (length src) (by_first src at store w (sym t) (other t) (eqb (get_or src at 0) 2) refl)
        (λ h. let kind = kind_none src at h in
        sym (part_short src at store w (some_wanted src at store w (sym t)) (omega arith)) ∙ row_missing Document src at store w false (sym t) refl _ store kind (whole_missing src at store _ kind refl) refl)
