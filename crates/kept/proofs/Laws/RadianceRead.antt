-- The document reading against the document: every scanline is read, with the same pixels, from the same bytes; and no other row is, counts of 0 apart.
use mathlib.Core.Bool.{Bool, true, false, ◌&&◌, false≢true}
use mathlib.Core.List.{List}
use mathlib.Core.Logic.{◌⊎◌, inl, inr, ⊎_elim}
use mathlib.Core.Option.{none, some}
use mathlib.Core.Path.{◌≡◌, refl, sym, ap, ◌∙◌, subst}
use Prim.Native.Nat.{ℕ, ◌+◌, ◌*◌, ◌≤◌}
use native.Mathlib.Omega.{arith}
use lib.ListN.{length, drop}
use Rattle.steps.specs.Loop.{pick}
use Rattle.steps.specs.Place.{spread}
use Rattle.steps.specs.Width.{is_coded}
use Rattle.steps.proofs.Laws.Place.{drop_past}
use Rattle.steps.proofs.Laws.Taken.{fault_done}
use Rattle.steps.proofs.Laws.Turns.{and_left, and_right}
use Rattle.steps.specs.Answer.{Taken}
use Rattle.std.specs.Prelude.{Ok}
use Rattle.steps.specs.declared.Reading.TheVariants.{Document}
use Rattle.pixel.specs.declared.Rgbe.{Rgbe}
use Rattle.flat_read.specs.Flat.{document_flat, flat_of}
use Rattle.rows_read.specs.Row.{is_flat_width, document_row}
use Rattle.rows_read.proofs.Laws.Row.{Marked}
use Rattle.kept.specs.Least.{AreBytes}
use Rattle.kept.specs.Radiance.{Found, is_new, coded, flat, scanline, flat_bytes}
use Rattle.kept.specs.RadianceZero.{ZeroRow}
use Rattle.kept.proofs.Laws.RadianceRows.{RowReads, coded_read}
use Rattle.kept.proofs.Laws.RadianceFlat.{length_flat}
use Rattle.kept.proofs.Laws.RadianceOldRuns.{Both, flat_both}
use Rattle.kept.proofs.Laws.RadianceScanline.{marked_new, flat_row}
use Rattle.kept.proofs.Laws.RadianceChannels.{coded_or}

-- a width that is not flat is one of 8 to 32,767
coded_width : (w : ℕ) → is_flat_width w ≡ false → is_coded w ≡ true
unfolding is_flat_width
coded_width w e = go (is_coded w) refl
  where
    go : (b : Bool) → is_coded w ≡ b → is_coded w ≡ true
    go true t = t
    go false t = absurd (false≢true (sym e ∙ simp t))

module _ (src : List ℕ) (at : ℕ) (store : List ℕ) (w : ℕ) where
  -- such a scanline is no flat one
  not_marked : (is_coded w && is_new (drop at src)) ≡ false → is_flat_width w ≡ false → Marked src at → ⊥
  not_marked t e marked = false≢true (sym t ∙ simp (coded_width w e, marked_new src at marked))

  flat_read : 4 * w ≤ length store → (is_coded w && is_new (drop at src)) ≡ false → (r : List Rgbe × List ℕ) → flat w (drop at src) ≡ some r → RowReads document_row src at store w r.0 r.1
  flat_read h t r e =
      let (front, there, size, is) : Both src at store 0 w (some r) (flat_of document_flat src at store 0 w) = subst (λ (z : Found (List Rgbe)). Both src at store 0 w z (flat_of document_flat src at store 0 w)) e (flat_both src at store w h) in
      (front, there, length_flat r.0 ∙ ap (λ (n : ℕ). 4 * n) size, sym (flat_row src at store w (not_marked t)) ∙ is)

  -- what the document says, the document reading does; the store has room for the row
  pub document_reads : 4 * w ≤ length store → (r : List Rgbe × List ℕ) → scanline w (drop at src) ≡ some r → RowReads document_row src at store w r.0 r.1
  unfolding scanline is_coded
  document_reads h r = go (is_coded w && is_new (drop at src)) refl
    where
      go : (b : Bool) → (is_coded w && is_new (drop at src)) ≡ b → pick b (coded w (drop at src)) (flat w (drop at src)) ≡ some r → RowReads document_row src at store w r.0 r.1
      go true t e = coded_read Document src at store w r e
      go false t e = flat_read h t r e

-- ---- What is read is the document's

-- the scanline of the document has so many pixels, ends at the next place, and is what the store then begins with
abbrev pub Explained : List ℕ → ℕ → List ℕ → ℕ → ℕ → List ℕ → Type 0
Explained src at store w next s =
    (qs : List Rgbe) × (scanline w (drop at src) ≡ some (qs, drop next src)) × (length qs ≡ w) × (s ≡ spread 1 store 0 (flat_bytes qs))

module _ (src : List ℕ) (at : ℕ) (store : List ℕ) (w : ℕ) (room : 4 * w ≤ length store) (next : ℕ) (s : List ℕ) (e : document_row src at store w ≡ (Ok next, s)) where
  -- a scanline that is there is the one that was read
  explained : (r : List Rgbe × List ℕ) → scanline w (drop at src) ≡ some r → Explained src at store w next s
  explained (qs, rest) found =
      let (front, there, size, row) = document_reads src at store w room (qs, rest) found in
      let same : ◌≡◌ {A = Taken × List ℕ} (Ok next, s) (Ok (at + length front), spread 1 store 0 (flat_bytes qs)) = sym e ∙ row in
      let took : Ok next ≡ Ok (at + length front) = ap (λ (z : Taken × List ℕ). z.0) same in
      let ends : next ≡ at + length front = cc in
      let stored : s ≡ spread 1 store 0 (flat_bytes qs) = ap (λ (z : Taken × List ℕ). z.1) same in
      let behind : rest ≡ drop next src = sym (drop_past src at front rest there) ∙ ap (λ (i : ℕ). drop i src) (sym ends) in
      (qs, found ∙ ap (λ (l : List ℕ). some (qs, l)) behind, omega (arith, length_flat qs), stored)

  flat_some : (is_coded w && is_new (drop at src)) ≡ false → (r : List Rgbe × List ℕ) × (flat w (drop at src) ≡ some r)
  flat_some t = go (flat w (drop at src)) refl (flat_both src at store w room)
    where
      go : (z : Found (List Rgbe)) → flat w (drop at src) ≡ z → Both src at store 0 w z (flat_of document_flat src at store 0 w) → (r : List Rgbe × List ℕ) × (flat w (drop at src) ≡ some r)
      go none k (number, s', fault) = fault_done number next s' s (sym fault ∙ flat_row src at store w (not_marked src at store w t) ∙ e)
      go (some r) k both = (r, k)

  -- where the document reading is done with a row, its pixels and bytes are those of the document's scanline, or one of its counts is 0
  pub document_explained : AreBytes src → Explained src at store w next s ⊎ ZeroRow src at store w
  unfolding scanline is_coded
  document_explained bytes = go (is_coded w && is_new (drop at src)) refl
    where
      test : Bool → Found (List Rgbe)
      test b = pick b (coded w (drop at src)) (flat w (drop at src))

      go : (b : Bool) → (is_coded w && is_new (drop at src)) ≡ b → Explained src at store w next s ⊎ ZeroRow src at store w
      go true t =
          ⊎_elim inr (λ (qs, found). inl (explained (qs, drop next src) (ap test t ∙ found)))
          (coded_or src at store w (and_left (is_coded w) _ t) (and_right (is_coded w) _ t) bytes next s e)
      go false t = let (r, found) = flat_some t in inl (explained r (ap test t ∙ found))
