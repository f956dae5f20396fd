-- A coded row that is done by the document reading is a new run-length scanline by the document, or one of its counts is 0.
use mathlib.Core.Bool.{Bool, true, false}
use mathlib.Core.List.{List, ◌∷◌, ◌++◌}
use mathlib.Core.Logic.{◌⊎◌, inl, inr, ⊎_elim}
use mathlib.Core.Option.{some}
use mathlib.Core.Path.{◌≡◌, refl, sym, ap, ◌∙◌}
use Prim.Native.Nat.{ℕ, suc, ◌+◌, ◌*◌, ◌/◌, ◌%◌, ◌≤◌, ◌<◌}
use native.Mathlib.Omega.{arith}
use borrow.Author.Tests.{lt-ltb, eqb-true}
use lib.Dec.{eqb}
use lib.ListN.{length, get_or, drop}
use lib.Seq.{drop-cons}
use Rattle.steps.specs.declared.refusal.Reason.TheVariants.{BrokenRow}
use Rattle.steps.specs.Loop.{Turns, more}
use Rattle.steps.specs.Width.{is_coded}
use Rattle.steps.proofs.Laws.Taken.{fault_done}
use Rattle.steps.proofs.Laws.Turns.{and_left}
use Rattle.steps.specs.Answer.{Taken}
use Rattle.std.specs.Prelude.{Ok}
use Rattle.steps.specs.declared.Reading.TheVariants.{Document}
use Rattle.pixel.specs.declared.Rgbe.{Rgbe}
use Rattle.channels_read.specs.Channel.{chan, document_count, channel_of}
use Rattle.channels_read.specs.Channels.{after_channel, chans, chans_turn}
use Rattle.channels_read.proofs.Laws.Channels.{Four, apart}
use Rattle.rows_read.specs.Row.{is_flat_width, is_mark, document_mark, document_row}
use Rattle.rows_read.proofs.Laws.Row.{Marked, marked_whole, marked_right, marked_wrong, row_marked}
use Rattle.kept.specs.Least.{AreBytes}
use Rattle.kept.specs.Radiance.{Found, and_then, pixels, components, mark, past, is_new, coded}
use Rattle.kept.specs.RadianceZero.{ZeroRow}
use Rattle.kept.proofs.Laws.RadianceCounts.{Zero, component_or}
use Rattle.kept.proofs.Laws.RadianceScanline.{new_four, new_marked}
use Rattle.kept.proofs.Laws.RadianceWritten.{past_found}

-- ---- The mark

-- four bytes that are there
four_front : (src : List ℕ) (at : ℕ) → at + 4 ≤ length src → drop at src ≡ get_or src at 0 ∷ get_or src (at + 1) 0 ∷ get_or src (at + 2) 0 ∷ get_or src (at + 3) 0 ∷ drop (at + 4) src
four_front src at h =
    let step : (i j : ℕ) → j ≡ suc i → i < length src → drop i src ≡ get_or src i 0 ∷ drop j src = λ i j e l. rw e (drop-cons src i 0 l) in
    step at (at + 1) (omega arith) (omega arith)
    ∙ ap (λ (l : List ℕ). get_or src at 0 ∷ l)
    (step (at + 1) (at + 2) (omega arith) (omega arith)
    ∙ ap (λ (l : List ℕ). get_or src (at + 1) 0 ∷ l)
    (step (at + 2) (at + 3) (omega arith) (omega arith) ∙ ap (λ (l : List ℕ). get_or src (at + 2) 0 ∷ l) (step (at + 3) (at + 4) (omega arith) (omega arith))))

-- the mark that will do for rows of width w is the document's
mark_found : (src : List ℕ) (at w : ℕ) → AreBytes src → is_new (drop at src) ≡ true → document_mark src at w ≡ true → past (mark w) (drop at src) ≡ some (tt, drop (at + 4) src)
unfolding document_mark is_mark
mark_found src at w bytes new right =
    let (room, first, both) = new_four src at (drop at src) refl new in
    let second : get_or src (at + 1) 0 ≡ 2 = eqb-true _ 2 (and_left (eqb (get_or src (at + 1) 0) 2) _ both) in
    let length-is : get_or src (at + 2) 0 * 256 + get_or src (at + 3) 0 ≡ w = eqb-true _ w right in
    let low = bytes (at + 3) in
    let third : get_or src (at + 2) 0 ≡ w / 256 = omega arith in
    let fourth : get_or src (at + 3) 0 ≡ w % 256 = omega arith in
    let there : drop at src ≡ mark w ++ drop (at + 4) src = rw (← third, ← fourth) (four_front src at room ∙ rw (first, second)) in
    ap (past (mark w)) there ∙ past_found (mark w) (drop (at + 4) src)

-- ---- The four channels

module _ (src : List ℕ) (at : ℕ) (store : List ℕ) (w : ℕ) (is-coded : is_coded w ≡ true) (new : is_new (drop at src) ≡ true) where
  -- k channels from the first on are read, and the next starts at a place with this store
  abbrev Reached : ℕ → ℕ → List ℕ → Type 0
  Reached k p before = Turns (chans_turn document_count src w) k (chans (at + 4) 0 store) (chans p k before)

  channel_done : (p k : ℕ) (before : List ℕ) (n : ℕ) (after : List ℕ) → k < 4 → channel_of document_count src p before k w ≡ (Ok n, after)
      → chans_turn document_count src w (chans p k before) ≡ more (chans n (k + 1) after)
  unfolding chans_turn
  channel_done p k before n after h e = simp (lt-ltb k 4 h) (ap (λ (z : Taken × List ℕ). after_channel k z.0 z.1) e)

  zero_in : (k p : ℕ) (before : List ℕ) → k < 4 → Reached k p before → Zero src k w (chan p 0 before) → ZeroRow src at store w
  zero_in k p before h reached (n, y, after, count) = record {
    coded = is-coded;
    new = new;
    channel = k;
    place = p;
    before = before;
    inside = h;
    reached = reached;
    counts = n;
    here = y;
    after = after;
    count = count;
  }

  components_or : (next : ℕ) (s : List ℕ) → Four document_count src (at + 4) store w next s → ZeroRow src at store w ⊎ ((qs : List Rgbe) × (components w (drop (at + 4) src) ≡ some (qs, drop next src)))
  unfolding components
  components_or next s f =
      let t0 = channel_done (at + 4) 0 store _ _ (omega arith) f.first in
      let t1 = channel_done f.green 1 f.reds _ _ (omega arith) f.second in
      let t2 = channel_done f.blue 2 f.greens _ _ (omega arith) f.third in
      ⊎_elim (λ z. inl (zero_in 0 (at + 4) store (omega arith) refl z))
      (λ (rs, red). ⊎_elim (λ z. inl (zero_in 1 f.green f.reds (omega arith) (_, t0, refl) z))
      (λ (gs, green). ⊎_elim (λ z. inl (zero_in 2 f.blue f.greens (omega arith) (_, t0, (_, t1, refl)) z))
      (λ (bs, blue). ⊎_elim (λ z. inl (zero_in 3 f.exponent f.blues (omega arith) (_, t0, (_, t1, (_, t2, refl))) z))
      (λ (es, exponent). inr (pixels rs gs bs es, rw (red, green, blue, exponent)))
      (component_or src f.exponent f.blues 3 w next s f.fourth))
      (component_or src f.blue f.greens 2 w _ _ f.third))
      (component_or src f.green f.reds 1 w _ _ f.second))
      (component_or src (at + 4) store 0 w _ _ f.first)

  -- ---- The row

  pub coded_or : AreBytes src → (next : ℕ) (s : List ℕ) → document_row src at store w ≡ (Ok next, s) → ZeroRow src at store w ⊎ ((qs : List Rgbe) × (coded w (drop at src) ≡ some (qs, drop next src)))
  unfolding is_flat_width is_coded coded
  coded_or bytes next s e = go (document_mark src at w) refl
    where
      marked : Marked src at
      marked = new_marked src at new

      wide : false ≡ is_flat_width w
      wide = simp is-coded

      go : (b : Bool) → document_mark src at w ≡ b → ZeroRow src at store w ⊎ ((qs : List Rgbe) × (coded w (drop at src) ≡ some (qs, drop next src)))
      go false t = fault_done BrokenRow next store s (row_marked Document src at store w false wide refl _ store marked (marked_whole src at store marked) _ (at + 4) refl (marked_wrong Document src at (at + 4) store w false (sym t) refl) ∙ e)
      go true t =
          let row = row_marked Document src at store w false wide refl _ store marked (marked_whole src at store marked) _ (at + 4) refl (marked_right Document src at (at + 4) store w true (sym t) _ refl refl) in
          ⊎_elim inl
          (λ (qs, found). inr (qs, simp is-coded (ap (λ (z : Found (Unit {0})). and_then z (λ _ rest. components w rest)) (mark_found src at w bytes new t) ∙ found)))
          (components_or next s (apart document_count src (at + 4) store w next s (row ∙ e)))
