-- By the crate reading the range of demand 3 is the widest: just below it and at its upper end a frame is written that does not come back within a step. Outside the ranges of saving twice a frame is written that is not the same at the second save.
use Prim.Native.Nat.{ℕ, ◌<◌, ◌≤◌}
use mathlib.Core.List.{List, [], ◌∷◌}
use mathlib.Core.Logic.{◌⊎◌, inl, inr, ⊎_elim}
use mathlib.Core.Path.{◌≡◌, refl, sym, ap, subst, ◌∙◌}
use native.Mathlib.Omega.{arith}
use lib.Dec.{lit<, lit≤}
use lib.Ieee.{Float, nan, of_bits}
use lib.ListN.{length, get_or, drop}
use lib.Seq.{drop_at}
use Rattle.steps.specs.Place.{bytes_from}
use Rattle.steps.specs.Width.{is_coded}
use Rattle.steps.specs.declared.Reading.{Reading}
use Rattle.pixel.specs.declared.Pixel.{Pixel}
use Rattle.pixel.specs.declared.Rgbe.{Rgbe}
use Rattle.pixel.specs.Units.{mag}
use Rattle.pixel.specs.Rgbe.{crate_units, pixel_of, peak, dark, bytes_of}
use Rattle.loss.specs.Kept.{Kept, Lies, Below}
use Rattle.loss.specs.Dark.{first_light}
use Rattle.loss.specs.Twice.{DarkOr, comes_back}
use Rattle.loss.proofs.Laws.Sharp.{next_dark, too_bright, next_dark_again, too_bright_again, falls_to_black}
use Rattle.steps.specs.declared.Reading.TheVariants.{Crate, Document}
use Rattle.rows_read.specs.Row.{crate_row}
use Rattle.reader.specs.Read.{crate_pixel}
use Rattle.header.specs.Written.{written}
use Rattle.rows_written.specs.Row.{written_row}
use Rattle.frames_written.specs.Samples.{packed}
use Rattle.frames_written.specs.Frame.{written_rows, frame_of, file_of}
use Rattle.kept.specs.Back.{pixel, Sizes, Enough, ComesBack, next_below, first_above, one_red, Lost}
use Rattle.kept.specs.Twice.{SavedTwice, Changed}
use Rattle.kept.proofs.Laws.Back.{pixels_back}
use Rattle.kept.proofs.Laws.Twice.{frame_pixel}

not_between : (v low high : ℕ) → 0 < v → (v < low) ⊎ (high ≤ v) → (v ≡ 0) ⊎ ((low ≤ v) × (v < high)) → ⊥
not_between v low high some out = ⊎_elim (λ e. omega arith) (λ h. ⊎_elim (λ l. omega (arith, h.0, l)) (λ l. omega (arith, h.1, l)) out)

above : (a b : ℕ) → b < a → a ≤ b → ⊥
above a b l h = omega arith

far : (a b : ℕ) → b ≤ a → a < b → ⊥
far a b l h = omega arith

one : Sizes 1 1
one = record { some = lit< tt; wide = lit≤ tt; high = lit≤ tt }

-- an output of three samples and a row store of four bytes
abbrev lent : List Float
lent = nan ∷ nan ∷ nan ∷ []

abbrev store : List ℕ
store = 0 ∷ 0 ∷ 0 ∷ 0 ∷ []

enough : Enough 1 1 1 1 lent store
enough = record { wide = lit≤ tt; high = lit≤ tt; room = lit≤ tt; row = lit≤ tt }

-- a pixel that comes back as another which is not within a step of it
not_back : (x : Float) (back : Pixel) (n : ℕ) → pixel_of crate_units (bytes_of (pixel (one_red x) 0)) ≡ back → Lies (pixel (one_red x) 0) n → (Kept (Below n) x back.r → ⊥)
    → ComesBack Below Crate crate_row crate_pixel 1 1 (one_red x) → ⊥
not_back x back n is lies apart all =
    let there = pixels_back Crate 1 1 (one_red x) one [] 1 1 lent store enough 0 (lit< tt) ∙ is in
    apart (subst (λ (q : Pixel). Kept (Below n) x q.r) there ((all [] 1 1 lent store enough).kept 0 n (lit< tt) lies).r)

next_below_lem : Lost next_below
unfolding peak mag
next_below_lem = record {
  numbers = record { r = tt; g = tt; b = tt };
  outside = not_between _ _ _ (lit< tt) (inl (lit< tt));
  lost = not_back next_below _ 117 next_dark (record { from = lit≤ tt; below = lit< tt }) (λ k. above _ _ (lit< tt) k.value.0);
}

first_above_lem : Lost first_above
unfolding peak mag
first_above_lem = record {
  numbers = record { r = tt; g = tt; b = tt };
  outside = not_between _ _ _ (lit< tt) (inr (lit≤ tt));
  lost = not_back first_above _ 181 too_bright (record { from = lit≤ tt; below = lit< tt }) (λ k. far _ _ (lit≤ tt) k.value.1);
}

-- below 2^-32, and from 2^31 on
pub range_sharp : Lost next_below × Lost first_above
range_sharp = (next_below_lem, first_above_lem)

-- ---- Saving twice

-- the last byte of a file of one pixel
abbrev last_of : List ℕ → ℕ
last_of file = get_or (drop (length (written 1 1)) file) 3 0

last_is : (samples : List Float) → last_of (file_of samples 1 1) ≡ (bytes_of (pixel samples 0)).e
unfolding frame_of written_rows written_row is_coded bytes_from packed
last_is samples = ap (λ (l : List ℕ). get_or l 3 0) (drop_at (written 1 1) (written_rows (packed samples 0 1) 0 1 1) _ refl)

-- a pixel that is written again with another last byte
not_twice : (reading : Reading) (x : Float) (first again : Rgbe) → bytes_of (pixel (one_red x) 0) ≡ first → bytes_of (comes_back reading (pixel (one_red x) 0)) ≡ again → (again.e ≡ first.e → ⊥)
    → SavedTwice reading 1 1 (one_red x) → ⊥
not_twice reading x first again is comes apart same =
    let file = same [] 1 1 lent store enough in
    let there = frame_pixel reading 1 1 (one_red x) one [] 1 1 lent store enough 0 (lit< tt) in
    apart (ap (λ (q : Rgbe). q.e) (sym (ap bytes_of there ∙ comes)) ∙ sym (last_is _) ∙ ap last_of file ∙ last_is (one_red x) ∙ ap (λ (q : Rgbe). q.e) is)

not_in : (v low high : ℕ) → dark < v → (v < low) ⊎ (high ≤ v) → DarkOr low high v → ⊥
not_in v low high light out = ⊎_elim (λ h. above v dark light h) (λ h. ⊎_elim (λ l. above low v l h.0) (λ l. above high v h.1 l) out)

next_below_twice : Changed Crate next_below
unfolding peak mag
next_below_twice = record {
  numbers = record { r = tt; g = tt; b = tt };
  outside = not_in _ _ _ (lit< tt) (inl (lit< tt));
  changed = not_twice Crate next_below _ _ next_dark_again.0 next_dark_again.1 (λ e. omega arith);
}

first_above_twice : Changed Crate first_above
unfolding peak mag
first_above_twice = record {
  numbers = record { r = tt; g = tt; b = tt };
  outside = not_in _ _ _ (lit< tt) (inr (lit≤ tt));
  changed = not_twice Crate first_above _ _ too_bright_again.0 too_bright_again.1 (λ e. omega arith);
}

first_light_twice : Changed Document first_light
unfolding peak mag of_bits
first_light_twice = record {
  numbers = record { r = tt; g = tt; b = tt };
  outside = not_in _ _ _ (lit< tt) (inl (lit< tt));
  changed = not_twice Document first_light _ _ falls_to_black.written (ap bytes_of falls_to_black.back ∙ falls_to_black.again) (λ e. omega arith);
}

-- by the crate reading below 2^-32 and from 2^31 on; by the document reading between 1e-32 and 2^-106
pub twice_sharp : Changed Crate next_below × Changed Crate first_above × Changed Document first_light
twice_sharp = (next_below_twice, first_above_twice, first_light_twice)
