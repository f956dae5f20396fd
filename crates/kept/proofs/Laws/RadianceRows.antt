-- Where the bytes at a place are a scanline by the document, a row takes just those bytes and leaves the document's pixels in the store, by any
-- rule of which holds what `back` asks: both readings.
use mathlib.Core.Bool.{◌&&◌}
use mathlib.Core.List.{List, [], ◌∷◌, ◌++◌, append_assoc, append-nil}
use mathlib.Core.Option.{some, none-ne-some, some-injective}
use mathlib.Core.Path.{◌≡◌, refl, sym, ap, ◌∙◌, subst}
use Prim.Native.Nat.{ℕ, zero, suc, ◌+◌, ◌*◌, ◌≤◌}
use native.Mathlib.Omega.{arith}
use borrow.Author.Tests.{eqb-true, leb-true}
use lib.Dec.{eqb, leb}
use lib.ListN.{length, get_or, drop}
use Rattle.steps.specs.Place.{bytes_from, spread}
use Rattle.steps.proofs.Laws.Place.{bytes_there}
use Rattle.steps.proofs.Laws.Turns.{and_left, and_right}
use Rattle.pixel.specs.declared.Rgbe.{Rgbe}
use Rattle.std.specs.Prelude.{Ok}
use Rattle.steps.specs.declared.Reading.{Reading}
use Rattle.rows_read.specs.Row.{RowRule, RowParts, row_by, parts_of, row_of}
use Rattle.channels_written.specs.Channel.{channel}
use Rattle.back.proofs.Laws.Channel.{ReadAs}
use Rattle.back.proofs.Laws.Row.{FourRead, Fit, marked_there, reading_fit}
use Rattle.kept.specs.Radiance.{component, pixels, components, mark, past, coded, flat_bytes}
use Rattle.kept.proofs.Laws.RadianceComponent.{found_then, found_if, component_read}

-- the row from a place on is this scanline: just its bytes are taken, and its pixels are in the first 4w places of the store, the rest of
-- which is as it was
abbrev pub RowReads : RowRule → List ℕ → ℕ → List ℕ → ℕ → List Rgbe → List ℕ → Type 0
RowReads row_rule src at store w qs rest =
    (front : List ℕ) × (drop at src ≡ front ++ rest) × (length (flat_bytes qs) ≡ 4 * w) × (row_rule src at store w ≡ (Ok (at + length front), spread 1 store 0 (flat_bytes qs)))

-- ---- Pixels and their bytes

pub behind : (a b c d : ℕ) (px : List ℕ) (at i : ℕ) → i ≡ at + 4 → get_or (a ∷ b ∷ c ∷ d ∷ px) i 0 ≡ get_or px at 0
behind a b c d px at i e =
    let four : i ≡ suc (suc (suc (suc at))) = omega arith in
    ap (λ (j : ℕ). get_or (a ∷ b ∷ c ∷ d ∷ px) j 0) four

channel_behind : (a b c d : ℕ) (px : List ℕ) (at n : ℕ) → channel (a ∷ b ∷ c ∷ d ∷ px) (at + 4) n ≡ channel px at n
channel_behind a b c d px at zero = refl
channel_behind a b c d px at (suc n) = rw (behind a b c d px at (at + 4) refl) (ap (λ (l : List ℕ). get_or px at 0 ∷ l) (channel_behind a b c d px (at + 4) n))

-- px has n pixels, whose bytes are these four channels
abbrev Channels : List ℕ → ℕ → List ℕ → List ℕ → List ℕ → List ℕ → Type 0
Channels px n rs gs bs es = (channel px 0 n ≡ rs) × (channel px 1 n ≡ gs) × (channel px 2 n ≡ bs) × (channel px 3 n ≡ es) × (length px ≡ 4 * n)

woven : (n : ℕ) (rs gs bs es : List ℕ) → length rs ≡ n → length gs ≡ n → length bs ≡ n → length es ≡ n → Channels (flat_bytes (pixels rs gs bs es)) n rs gs bs es
woven zero [] [] [] [] h0 h1 h2 h3 = (refl, refl, refl, refl, refl)
woven zero (r ∷ rs) gs bs es h0 h1 h2 h3 = absurd (omega arith)
woven zero [] (g ∷ gs) bs es h0 h1 h2 h3 = absurd (omega arith)
woven zero [] [] (b ∷ bs) es h0 h1 h2 h3 = absurd (omega arith)
woven zero [] [] [] (e ∷ es) h0 h1 h2 h3 = absurd (omega arith)
woven (suc n) [] gs bs es h0 h1 h2 h3 = absurd (omega arith)
woven (suc n) (r ∷ rs) [] bs es h0 h1 h2 h3 = absurd (omega arith)
woven (suc n) (r ∷ rs) (g ∷ gs) [] es h0 h1 h2 h3 = absurd (omega arith)
woven (suc n) (r ∷ rs) (g ∷ gs) (b ∷ bs) [] h0 h1 h2 h3 = absurd (omega arith)
woven (suc n) (r ∷ rs) (g ∷ gs) (b ∷ bs) (e ∷ es) h0 h1 h2 h3 =
    let px : List ℕ = flat_bytes (pixels rs gs bs es) in
    let rest = woven n rs gs bs es (omega arith) (omega arith) (omega arith) (omega arith) in (
      ap (λ (l : List ℕ). r ∷ l) (channel_behind r g b e px 0 n ∙ rest.0),
      ap (λ (l : List ℕ). g ∷ l) (channel_behind r g b e px 1 n ∙ rest.1),
      ap (λ (l : List ℕ). b ∷ l) (channel_behind r g b e px 2 n ∙ rest.2),
      ap (λ (l : List ℕ). e ∷ l) (channel_behind r g b e px 3 n ∙ rest.3),
      omega (arith, rest.4),
    )

pub all_bytes : (px : List ℕ) (n : ℕ) → length px ≡ n → bytes_from px 0 n ≡ px
all_bytes px n h = ap (bytes_from px 0) (sym h) ∙ bytes_there px 0 px [] (sym (append-nil px))

-- ---- A new run-length scanline

pub past_there : (xs bytes : List ℕ) (r : Unit {0} × List ℕ) → past xs bytes ≡ some r → bytes ≡ xs ++ r.1
unfolding past
past_there [] bytes r e = ap (λ (z : Unit {0} × List ℕ). z.1) (some-injective _ _ e)
past_there (x ∷ xs) [] r e = absurd (none-ne-some _ e)
past_there (x ∷ xs) (b ∷ bytes) r e =
    let same = found_if (eqb b x) (past xs bytes) r e in
    ap (λ (i : ℕ). i ∷ bytes) (eqb-true b x same.0) ∙ ap (λ (l : List ℕ). x ∷ l) (past_there xs bytes r same.1)

module _ (parts : RowParts) (fit : Fit parts) where
  marked_read : (src : List ℕ) (at : ℕ) (store : List ℕ) (w : ℕ) (rs gs bs es c0 c1 c2 c3 rest : List ℕ) → length rs ≡ w → length gs ≡ w → length bs ≡ w → length es ≡ w
      → ReadAs fit.counts w c0 rs → ReadAs fit.counts w c1 gs → ReadAs fit.counts w c2 bs → ReadAs fit.counts w c3 es → 8 ≤ w → w ≤ 32767 → drop at src ≡ mark w ++ (c0 ++ (c1 ++ (c2 ++ (c3 ++ rest))))
      → RowReads (row_by parts) src at store w (pixels rs gs bs es) rest
  marked_read src at store w rs gs bs es c0 c1 c2 c3 rest h0 h1 h2 h3 r0 r1 r2 r3 l h e =
      let px : List ℕ = flat_bytes (pixels rs gs bs es) in
      let is = woven w rs gs bs es h0 h1 h2 h3 in
      let four : FourRead fit.counts px 0 w c0 c1 c2 c3 = (
        subst (ReadAs fit.counts w c0) (sym is.0) r0,
        subst (ReadAs fit.counts w c1) (sym is.1) r1,
        subst (ReadAs fit.counts w c2) (sym is.2) r2,
        subst (ReadAs fit.counts w c3) (sym is.3) r3,
      ) in (
        mark w ++ (c0 ++ (c1 ++ (c2 ++ c3))),
        e ∙ simp append_assoc,
        is.4,
        sym (marked_there parts fit w src px 0 c0 c1 c2 c3 four at store rest l h e)
            ∙ ap (λ (l : List ℕ). (Ok (at + length (mark w ++ (c0 ++ (c1 ++ (c2 ++ c3))))), spread 1 store 0 l)) (all_bytes px (4 * w) is.4),
      )

  pub coded_read_by : (src : List ℕ) (at : ℕ) (store : List ℕ) (w : ℕ) (r : List Rgbe × List ℕ) → coded w (drop at src) ≡ some r → RowReads (row_by parts) src at store w r.0 r.1
  unfolding coded components
  coded_read_by src at store w r e =
      let wide = found_if (leb 8 w && leb w 32767) _ r e in
      let marked = found_then (past (mark w) (drop at src)) _ r wide.1 in
      let red = found_then (component w marked.0.1) _ r marked.2 in
      let green = found_then (component w red.0.1) _ r red.2 in
      let blue = found_then (component w green.0.1) _ r green.2 in
      let exponent = found_then (component w blue.0.1) _ r blue.2 in
      let f0 = component_read fit.counts fit.whole w _ red.0 red.1 in
      let f1 = component_read fit.counts fit.whole w _ green.0 green.1 in
      let f2 = component_read fit.counts fit.whole w _ blue.0 blue.1 in
      let f3 = component_read fit.counts fit.whole w _ exponent.0 exponent.1 in
      let there : drop at src ≡ mark w ++ (f0.0 ++ (f1.0 ++ (f2.0 ++ (f3.0 ++ exponent.0.1)))) =
      past_there (mark w) (drop at src) marked.0 marked.1
      ∙ ap (λ (l : List ℕ). mark w ++ l) (f0.1 ∙ ap (λ (l : List ℕ). f0.0 ++ l) (f1.1 ∙ ap (λ (l : List ℕ). f1.0 ++ l) (f2.1 ∙ ap (λ (l : List ℕ). f2.0 ++ l) f3.1))) in
      subst (λ (z : List Rgbe × List ℕ). RowReads (row_by parts) src at store w z.0 z.1) (some-injective _ _ exponent.2)
      (marked_read src at store w red.0.0 green.0.0 blue.0.0 exponent.0.0 f0.0 f1.0 f2.0 f3.0 exponent.0.1 f0.2 f1.2 f2.2 f3.2 f0.3 f1.3 f2.3 f3.3
      (leb-true 8 w (and_left (leb 8 w) _ wide.0)) (leb-true w 32767 (and_right (leb 8 w) _ wide.0)) there)

-- by either reading
pub coded_read : (reading : Reading) (src : List ℕ) (at : ℕ) (store : List ℕ) (w : ℕ) (r : List Rgbe × List ℕ) → coded w (drop at src) ≡ some r → RowReads (row_of reading) src at store w r.0 r.1
unfolding row_of
coded_read reading = coded_read_by (parts_of reading) (reading_fit reading)
