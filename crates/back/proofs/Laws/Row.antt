-- A row that is written is read back, whatever stands before and after it, by any rule that does with the parts of a row what is asked for here; both readings do.
use mathlib.Core.Path.{◌≡◌, refl, sym, ap, ◌∙◌}
use mathlib.Core.Bool.{Bool, true, false}
use mathlib.Core.List.{List, ◌∷◌, ◌++◌, append_assoc}
use Prim.Native.Nat.{ℕ, zero, suc, ◌+◌, ◌-◌, ◌*◌, ◌/◌, ◌%◌, min, ◌≤◌, ◌<◌}
use native.Mathlib.Omega.{arith}
use lib.ListN.{length, get_or, drop, length-append, length-drop}
use lib.Seq.{drop-append_seam}
use lib.Dec.{eqb, lit<, lit≤}
use borrow.Author.Tests.{lt-ltb, eq-eqb}
use Rattle.steps.specs.Loop.{pick}
use Rattle.steps.specs.Place.{bytes_from, spread}
use Rattle.steps.proofs.Laws.Loop.{Runs}
use Rattle.steps.specs.Answer.{Taken}
use Rattle.std.specs.Prelude.{Ok}
use Rattle.flat_read.specs.Flat.{FlatRule, is_repeat, flat, flat_rule, flat_of, flat_out, flat_turn, four_to}
use Rattle.rows_read.specs.Row as read
use Rattle.flat_read.proofs.Laws.Flat.{NoRepeat, four_there, flat_starts, flat_done, flat_ordinary}
use Rattle.steps.specs.declared.Reading.{Reading}
use Rattle.steps.specs.declared.Reading.TheVariants.{Crate, Document}
use Rattle.channels_read.specs.Channel.{CountRule, count_rule}
use Rattle.channels_read.specs.Channels.{chans, chans_out, chans_turn, channels_of}
use Rattle.channels_read.proofs.Laws.Channel.{TakesWhole, reading_whole}
use Rattle.channels_read.proofs.Laws.Channels.{chans_starts, chans_again, chans_done}
use Rattle.rows_read.proofs.Laws.Row.{Marked, mark_by, kind_channels, by_width, by_mark, marked_start, marked_whole}
use Rattle.channels_written.specs.Channel.{code, channel}
use Rattle.rows_written.specs.Row.{coded_row, written_row}
use Rattle.steps.specs.Width.{is_coded}
use Rattle.steps.proofs.Laws.Place.{spread_append, drop_next, drop_past, bytes_there}
use Rattle.channels_written.proofs.Laws.Places.{length_channel}
use Rattle.rows_written.proofs.Laws.Row.{row_coded, row_flat, flat_size}
use Rattle.steps.proofs.Laws.Width.{coded_widths, width_coded}
use Rattle.back.proofs.Laws.Channel.{ReadAs, code_read}
use Rattle.back.proofs.Laws.Weave.{bytes_four, weave, early_covered}

-- ---- a row of four channels

pub coded_width : (w : ℕ) → 8 ≤ w → w ≤ 32767 → false ≡ read.is_flat_width w
unfolding read.is_flat_width
coded_width w l h = simp (width_coded w l h)

-- the bytes c0, c1, c2 and c3 are read as the four channels of w pixels of px, the first at place p
abbrev pub FourRead : CountRule → List ℕ → ℕ → ℕ → List ℕ → List ℕ → List ℕ → List ℕ → Type 0
FourRead rule px p w c0 c1 c2 c3 = ReadAs rule w c0 (channel px p w) × ReadAs rule w c1 (channel px (p + 1) w) × ReadAs rule w c2 (channel px (p + 2) w) × ReadAs rule w c3 (channel px (p + 3) w)

module _ (rule : CountRule) (w : ℕ) (src : List ℕ) where
  -- one channel more is read
  next_channel : (c xs : List ℕ) → ReadAs rule w c xs → (at k : ℕ) (store rest : List ℕ) (a : Taken × List ℕ) → k < 4 → drop at src ≡ c ++ rest
      → Runs (chans_turn rule src w) chans_out (4 - k) (chans at k store) a
      → Runs (chans_turn rule src w) chans_out (4 - (k + 1)) (chans (at + length c) (k + 1) (spread 4 store k xs)) a
  next_channel c xs reads at k store rest a h e r = chans_again rule src w at k store a r _ _ h (sym (reads src at store k rest e)) _ refl

  channels_there : (px : List ℕ) (p : ℕ) (c0 c1 c2 c3 : List ℕ) → FourRead rule px p w c0 c1 c2 c3 → (at : ℕ) (store rest : List ℕ) → drop at src ≡ c0 ++ (c1 ++ (c2 ++ (c3 ++ rest)))
      → (next : ℕ) → next ≡ at + length c0 + length c1 + length c2 + length c3 → (Ok next, spread 1 store 0 (bytes_from px p (4 * w))) ≡ channels_of rule src at store w
  channels_there px p c0 c1 c2 c3 four at store rest e0 next ends =
      let a = channels_of rule src at store w in
      let e1 : drop (at + length c0) src ≡ c1 ++ (c2 ++ (c3 ++ rest)) = drop_past src at c0 _ e0 in
      let e2 : drop (at + length c0 + length c1) src ≡ c2 ++ (c3 ++ rest) = drop_past src _ c1 _ e1 in
      let e3 : drop (at + length c0 + length c1 + length c2) src ≡ c3 ++ rest = drop_past src _ c2 _ e2 in
      let r1 = next_channel c0 _ four.0 at 0 store _ a (lit< tt) e0 (chans_starts rule src at store w) in
      let r2 = next_channel c1 _ four.1 _ 1 _ _ a (lit< tt) e1 r1 in
      let r3 = next_channel c2 _ four.2 _ 2 _ _ a (lit< tt) e2 r2 in
      let r4 = next_channel c3 _ four.3 _ 3 _ _ a (lit< tt) e3 r3 in
      ap (λ (i : ℕ). (Ok i, spread 1 store 0 (bytes_from px p (4 * w)))) ends
      ∙ ap (λ (l : List ℕ). (Ok (at + length c0 + length c1 + length c2 + length c3), l)) (sym (weave px store 0 p w))
      ∙ chans_done rule src w _ _ _ a r4 (lit≤ tt)

-- ---- What is asked of a rule

-- the mark of a row of w, whose four bytes stand at a place
pub record MarkAt (src : List ℕ) (at w : ℕ) : Type 0 where
  pub marked : Marked src at
  pub third : get_or src (at + 2) 0 ≡ w / 256
  pub fourth : get_or src (at + 3) 0 ≡ w % 256

-- after the right mark come the four channels, with counts taken whole; what the mark left in the store is covered by the row; the flat part is one by some rule
pub record Fit (parts : read.RowParts) : Type 0 where
  pub counts : CountRule
  pub whole : TakesWhole counts
  pub right : (src : List ℕ) (at w : ℕ) → MarkAt src at w → parts.mark src at w ≡ true
  pub channels : (src : List ℕ) (at : ℕ) (store : List ℕ) (w : ℕ) → parts.channels src at store w ≡ channels_of counts src at store w
  pub covered : (src : List ℕ) (at : ℕ) (store px : List ℕ) (p w : ℕ) → 0 < w → Marked src at
      → spread 1 (parts.start src at store) 0 (bytes_from px p (4 * w)) ≡ spread 1 store 0 (bytes_from px p (4 * w))
  pub flats : FlatRule
  pub flat : (src : List ℕ) (at : ℕ) (store : List ℕ) (start wanted : ℕ) → parts.flat src at store start wanted ≡ flat_of flats src at store start wanted

-- ---- A row of four channels

module _ (parts : read.RowParts) (fit : Fit parts) where
  -- where a mark stands, and then the four: just these bytes are taken, and the pixels are in the store
  pub marked_there : (w : ℕ) (src px : List ℕ) (p : ℕ) (c0 c1 c2 c3 : List ℕ) → FourRead fit.counts px p w c0 c1 c2 c3 → (at : ℕ) (store rest : List ℕ) → 8 ≤ w → w ≤ 32767
      → drop at src ≡ 2 ∷ 2 ∷ (w / 256) ∷ (w % 256) ∷ (c0 ++ (c1 ++ (c2 ++ (c3 ++ rest))))
      → (Ok (at + length (2 ∷ 2 ∷ (w / 256) ∷ (w % 256) ∷ (c0 ++ (c1 ++ (c2 ++ c3))))), spread 1 store 0 (bytes_from px p (4 * w))) ≡ read.row_by parts src at store w
  marked_there w src px p c0 c1 c2 c3 four at store rest l h e =
      let m0 = drop_next src at 2 _ e in
      let m1 = drop_next src (at + 1) 2 _ m0.2 in
      let m2 = drop_next src (at + 1 + 1) (w / 256) _ m1.2 in
      let m3 = drop_next src (at + 1 + 1 + 1) (w % 256) _ m2.2 in
      let two : at + 1 + 1 ≡ at + 2 = omega arith in
      let three : at + 1 + 1 + 1 ≡ at + 3 = omega arith in
      let end : at + 1 + 1 + 1 + 1 ≡ at + 4 = omega arith in
      let room : 4 ≤ length src - at = omega (arith, m3.0) in
      let below : get_or src (at + 2) 0 < 128 = omega (arith, rw two at m2.1) in
      let marked = kind_channels src at m0.1 room true (sym (lt-ltb _ _ below) ∙ mark_by _ _ m1.1) refl in
      let mark : MarkAt src at w = record { marked = marked; third = rw two at m2.1; fourth = rw three at m3.1 } in
      let next : ℕ = at + length (2 ∷ 2 ∷ (w / 256) ∷ (w % 256) ∷ (c0 ++ (c1 ++ (c2 ++ c3)))) in
      let size : next ≡ at + 4 + length c0 + length c1 + length c2 + length c3 = omega (arith, length-append c0 (c1 ++ (c2 ++ c3)), length-append c1 (c2 ++ c3), length-append c2 c3) in
      let start : List ℕ = parts.start src at store in
      let body = channels_there fit.counts w src px p c0 c1 c2 c3 four (at + 4) start rest (rw end at m3.2) next size in
      ap (λ (l : List ℕ). (Ok next, l)) (sym (fit.covered src at store px p w (omega arith) marked))
      ∙ body
      ∙ sym (fit.channels src (at + 4) start w)
      ∙ by_mark parts src at store w (coded_width w l h) marked (fit.right src at w mark)

  -- a coded row
  coded_there : (px : List ℕ) (p w : ℕ) (src : List ℕ) (at : ℕ) (store rest : List ℕ) → is_coded w ≡ true → drop at src ≡ coded_row px p w ++ rest
      → (Ok (at + length (coded_row px p w)), spread 1 store 0 (bytes_from px p (4 * w))) ≡ read.row_by parts src at store w
  unfolding coded_row
  coded_there px p w src at store rest t e =
      let widths = coded_widths w t in
      let c : ℕ → List ℕ = λ i. code (channel px i w) in
      let there : (i : ℕ) → ReadAs fit.counts w (c i) (channel px i w) = λ i. code_read fit.counts fit.whole w (channel px i w) (length_channel px i w) in
      marked_there w src px p (c p) (c (p + 1)) (c (p + 2)) (c (p + 3)) (there p, there (p + 1), there (p + 2), there (p + 3)) at store rest widths.0 widths.1 (e ∙ simp append_assoc)

-- ---- a flat row

-- the same four bytes are the same kind of pixel
same_repeat : (src px : List ℕ) (at p : ℕ) → bytes_from src at 4 ≡ bytes_from px p 4 → is_repeat src at ≡ is_repeat px p
unfolding is_repeat bytes_from
same_repeat src px at p e =
    let two : (i : ℕ) → i + 2 ≡ i + 1 + 1 = λ i. omega arith in
    let b0 : get_or src at 0 ≡ get_or px p 0 = ap (λ (l : List ℕ). get_or l 0 0) e in
    let b1 : get_or src (at + 1) 0 ≡ get_or px (p + 1) 0 = ap (λ (l : List ℕ). get_or l 1 0) e in
    let b2 : get_or src (at + 1 + 1) 0 ≡ get_or px (p + 1 + 1) 0 = ap (λ (l : List ℕ). get_or l 2 0) e in
    rw (two at, two p, b0, b1, b2)

-- where such pixels stand, a flat part takes just them, one after another
pub flat_there : (rule : FlatRule) (px src : List ℕ) (p n at place : ℕ) (store rest : List ℕ) (a : Taken × List ℕ) → drop at src ≡ bytes_from px p (4 * n) ++ rest → NoRepeat px p n
    → Runs (flat_turn rule src) flat_out (length src - at) (flat at place n 0 store) a → (Ok (at + 4 * n), spread 1 store place (bytes_from px p (4 * n))) ≡ a
unfolding spread bytes_from
flat_there rule px src p zero at place store rest a e none r =
    ap (λ (i : ℕ). (Ok i, store)) (omega arith) ∙ flat_done rule src at place 0 0 store a r (omega arith)
flat_there rule px src p (suc n) at place store rest a e none r =
    let pixel : List ℕ = bytes_from px p 4 in
    let others : List ℕ = bytes_from px (p + 4) (4 * n) in
    let here : drop at src ≡ pixel ++ (others ++ rest) = e ∙ ap (λ (l : List ℕ). l ++ rest) (bytes_four px p n) ∙ append_assoc pixel others rest in
    let same : bytes_from src at 4 ≡ pixel = bytes_there src at pixel (others ++ rest) here in
    let after : drop (at + 4) src ≡ others ++ rest = drop_past src at pixel (others ++ rest) here in
    let room : at + 4 ≤ length src = omega (arith, ap length here, length-drop at src) in
    let first : p + 4 * 0 ≡ p = omega arith in
    let ordinary : is_repeat src at ≡ false = same_repeat src px at p same ∙ (rw first at (none 0 (omega arith))) in
    let left : suc n - 1 ≡ n = omega arith in
    let shifted : (i : ℕ) → p + 4 * suc i ≡ p + 4 + 4 * i = λ i. omega arith in
    let later : NoRepeat px (p + 4) n = λ i h. ap (is_repeat px) (sym (shifted i)) ∙ none (suc i) (omega arith) in
    let filled : four_to src at store place ≡ spread 1 store place (bytes_from src at 4) = four_there src at store place room in
    let turned = flat_ordinary rule src at place (suc n) 0 store a r (omega arith) _ room ordinary (ap (λ (s : List ℕ). flat (at + 4) (place + 4) (suc n - 1) 0 s) (sym filled)) in
    let ends : at + 4 * suc n ≡ at + 4 + 4 * n = omega arith in
    let stored : spread 1 store place (bytes_from px p (4 * suc n)) ≡ spread 1 (spread 1 store place (bytes_from src at 4)) (place + 4) others =
    ap (spread 1 store place) (bytes_four px p n) ∙ spread_append 1 store place pixel others ∙ ap (λ (l : List ℕ). spread 1 (spread 1 store place l) (place + 4) others) (sym same) in
    ap (λ (i : ℕ). (Ok i, spread 1 store place (bytes_from px p (4 * suc n)))) ends
    ∙ ap (λ (l : List ℕ). (Ok (at + 4 + 4 * n), l)) stored
    ∙ flat_there rule px src (p + 4) n (at + 4) (place + 4) _ rest a after later (rw left at turned)

-- ---- either row

is_flat : (w : ℕ) → is_coded w ≡ false → true ≡ read.is_flat_width w
unfolding read.is_flat_width
is_flat w e = simp e

-- A row is read back: exactly its bytes are taken, and the pixels' bytes are in the first 4w places of the store, the rest of which is as
-- it was. A flat row must have no pixel 1,1,1,n.
abbrev pub RowsBack : read.RowRule → Type 0
RowsBack rule =
    (px pre rest store : List ℕ) (p w : ℕ) → (is_coded w ≡ false → NoRepeat px p w)
    → rule (pre ++ (written_row px p w ++ rest)) (length pre) store w ≡ (Ok (length pre + length (written_row px p w)), spread 1 store 0 (bytes_from px p (4 * w)))

pub row_back : (parts : read.RowParts) → Fit parts → RowsBack (read.row_by parts)
row_back parts fit px pre rest store p w none = go (is_coded w) refl
  where
    src : List ℕ
    src = pre ++ (written_row px p w ++ rest)

    here : drop (length pre) src ≡ written_row px p w ++ rest
    here = drop-append_seam pre (written_row px p w ++ rest)

    go : (t : Bool) → is_coded w ≡ t → read.row_by parts src (length pre) store w ≡ (Ok (length pre + length (written_row px p w)), spread 1 store 0 (bytes_from px p (4 * w)))
    go true t =
        sym (coded_there parts fit px p w src (length pre) store rest t (here ∙ ap (λ (l : List ℕ). l ++ rest) (row_coded px p w t)))
        ∙ ap (λ (l : List ℕ). (Ok (length pre + length l), spread 1 store 0 (bytes_from px p (4 * w)))) (sym (row_coded px p w t))
    go false t =
        let a = flat_of fit.flats src (length pre) store 0 w in
        let flat-row = flat_there fit.flats px src p w (length pre) 0 store rest a (here ∙ ap (λ (l : List ℕ). l ++ rest) (row_flat px p w t)) (none t) (flat_starts fit.flats src (length pre) store 0 w) in
        sym (by_width parts src (length pre) store w true (is_flat w t) refl)
        ∙ fit.flat src (length pre) store 0 w
        ∙ sym flat-row
        ∙ ap (λ (n : ℕ). (Ok (length pre + n), spread 1 store 0 (bytes_from px p (4 * w)))) (sym (flat_size px p w t))

-- ---- Either reading

crate_covered : (src : List ℕ) (at : ℕ) (store px : List ℕ) (p w : ℕ) → 0 < w → Marked src at
    → spread 1 (read.crate_start src at store) 0 (bytes_from px p (4 * w)) ≡ spread 1 store 0 (bytes_from px p (4 * w))
unfolding read.early
crate_covered src at store px p w h marked = rw (← marked_start src at store marked) (by_two (eqb (get_or src at 0) 2) refl)
  where
    two : (m : ℕ) → m ≤ 2 → spread 1 (spread 1 store 1 (bytes_from src (at + 1) m)) 0 (bytes_from px p (4 * w)) ≡ spread 1 store 0 (bytes_from px p (4 * w))
    two m l = early_covered src px store m (at + 1) p w l h

    by_two : (b : Bool) → eqb (get_or src at 0) 2 ≡ b
        → spread 1 (pick b (spread 1 store 1 (bytes_from src (at + 1) (min 2 (length src - (at + 1))))) store) 0 (bytes_from px p (4 * w)) ≡ spread 1 store 0 (bytes_from px p (4 * w))
    by_two true e = two (min 2 (length src - (at + 1))) (omega arith)
    by_two false e = refl

start_covered : (reading : Reading) (src : List ℕ) (at : ℕ) (store px : List ℕ) (p w : ℕ) → 0 < w → Marked src at
    → spread 1 (read.start_of reading src at store) 0 (bytes_from px p (4 * w)) ≡ spread 1 store 0 (bytes_from px p (4 * w))
start_covered Crate src at store px p w h marked = crate_covered src at store px p w h marked
start_covered Document src at store px p w h marked = rw (← marked_whole src at store marked)

mark_right : (reading : Reading) (src : List ℕ) (at w : ℕ) → MarkAt src at w → read.mark_of reading src at w ≡ true
unfolding read.document_mark
mark_right Crate src at w mark = refl
mark_right Document src at w mark = rw (mark.third, mark.fourth) (eq-eqb (w / 256 * 256 + w % 256) w (omega arith))

pub reading_fit : (reading : Reading) → Fit (read.parts_of reading)
unfolding read.parts_of
reading_fit reading = record {
  counts = count_rule reading;
  whole = reading_whole reading;
  right = mark_right reading;
  channels = λ src at store w. refl;
  covered = start_covered reading;
  flats = flat_rule reading;
  flat = λ src at store start wanted. refl;
}

pub reading_row_back : (reading : Reading) → RowsBack (read.row_of reading)
unfolding read.row_of
reading_row_back reading = row_back (read.parts_of reading) (reading_fit reading)
