-- The laws of `specs/Row.antt`: of the kind of row, of its start, and of the row.
use Prim.{Unit}
use Prim.Native.Nat.{ℕ, ◌+◌, ◌-◌, ◌*◌, min, ◌<◌, ◌≤◌}
use native.Mathlib.Omega.{arith}
use mathlib.Core.List.{List}
use mathlib.Core.Bool.{Bool, true, false, not}
use mathlib.Core.Path.{◌≡◌, refl, sym, ap, subst, ◌∙◌}
use borrow.Author.Tests.{lt-ltb, le-ltb, ltb-false, le-leb, lt-leb, leb-false, eq-eqb, ne_eqb, eqb-true, eqb-false}
use lib.ListN.{length, get_or, set, get_or-eq_default}
use lib.Dec.{ltb, leb, eqb}
use Rattle.steps.specs.Loop.{pick}
use Rattle.steps.specs.Width.{is_coded}
use Rattle.steps.proofs.Laws.Width.{coded_widths}
use Rattle.steps.specs.Place.{bytes_from, spread}
use Rattle.steps.proofs.Laws.Turns.{by_test}
use Rattle.channels_read.specs.Channel.{count_rule}
use Rattle.flat_read.specs.Flat.{flat_rule, flat_of}
use Rattle.steps.specs.Answer.{Taken}
use Rattle.std.specs.Prelude.{Err}
use Rattle.steps.specs.declared.refusal.Reason.TheVariants.{BrokenRow, BytesEnd}
use Rattle.steps.specs.declared.Reading.{Reading}
use Rattle.steps.specs.declared.Reading.TheVariants.{Crate, Document}
use Rattle.rows_read.specs.declared.kind.Kind.{Kind}
use Rattle.rows_read.specs.declared.kind.Kind.TheVariants.{Missing, Flat, Pixel, Channels}
use Rattle.channels_read.specs.Channels.{channels_of}
use Rattle.rows_read.specs.Row.{RowParts, is_flat_width, is_mark, kind_of, rest_by, row_by, early, crate_start, document_start, document_mark, start_of, mark_of, parts_of, row_of}

-- ---- The kind of row

pub width_by : (width : ℕ) (b : Bool) → b ≡ is_coded width → not b ≡ is_flat_width width
unfolding is_flat_width
width_by width b e = ap not e

by_not : (b : Bool) → not b ≡ false → b ≡ true
by_not true e = refl
by_not false e = sym e

-- a width that is not flat leaves room for the first four bytes, and for a flat part after them
module _ (width : ℕ) (b : Bool) (eb : b ≡ is_flat_width width) (t : b ≡ false) where
  pub not_flat : 8 ≤ width
  unfolding is_flat_width
  not_flat = (coded_widths width (by_not (is_coded width) (sym eb ∙ t))).0

  pub first_room : (n : ℕ) → 4 * width ≤ n → 4 ≤ n
  first_room n h = let l = not_flat in omega arith

  pub one_less : 1 ≤ width
  one_less = let l = not_flat in omega arith

  pub rest_room : (m n : ℕ) → 4 * width ≤ m → n ≡ m → 4 + 4 * (width - 1) ≤ n
  rest_room m n h e = let l = not_flat in omega arith

pub mark_not : (second third : ℕ) → (second ≡ 2 → ⊥) → false ≡ is_mark second third
unfolding is_mark
mark_not second third h = simp (ne_eqb second 2 h)

pub mark_by : (second third : ℕ) → second ≡ 2 → ltb third 128 ≡ is_mark second third
unfolding is_mark
mark_by second third h = simp (eq-eqb second 2 h)

module _ (src : List ℕ) (at : ℕ) where
  pub kind_none : length src ≤ at → Missing ≡ kind_of src at
  unfolding kind_of
  kind_none h = simp (le-leb (length src) at h)

  pub kind_flat : at < length src → (get_or src at 0 ≡ 2 → ⊥) → Flat ≡ kind_of src at
  unfolding kind_of
  kind_flat h k = simp (lt-leb (length src) at h, ne_eqb (get_or src at 0) 2 k)

  module _ (k : get_or src at 0 ≡ 2) where
    pub kind_short : at < length src → length src - at < 4 → Missing ≡ kind_of src at
    unfolding kind_of
    kind_short h l =
        let m : length src < at + 4 = omega arith in
        simp (lt-leb (length src) at h, eq-eqb (get_or src at 0) 2 k, lt-ltb (length src) (at + 4) m)

    module _ (l : 4 ≤ length src - at) where
      whole : pick (is_mark (get_or src (at + 1) 0) (get_or src (at + 2) 0)) (Channels (at + 4)) (Pixel (at + 4)) ≡ kind_of src at
      unfolding kind_of
      whole =
          let h : at < length src = omega arith in
          let m : at + 4 ≤ length src = omega arith in
          simp (lt-leb (length src) at h, eq-eqb (get_or src at 0) 2 k, le-ltb (length src) (at + 4) m)

      pub kind_channels : (b : Bool) → b ≡ is_mark (get_or src (at + 1) 0) (get_or src (at + 2) 0) → b ≡ true → Channels (at + 4) ≡ kind_of src at
      kind_channels b e t = simp (sym e ∙ t) at whole

      pub kind_pixel : (b : Bool) → b ≡ is_mark (get_or src (at + 1) 0) (get_or src (at + 2) 0) → b ≡ false → Pixel (at + 4) ≡ kind_of src at
      kind_pixel b e t = simp (sym e ∙ t) at whole

  -- case by case
  pub kind_cases : (L : Kind → Type 0) → L Missing → (at < length src → (get_or src at 0 ≡ 2 → ⊥) → L Flat)
      → (at + 4 ≤ length src → get_or src at 0 ≡ 2 → is_mark (get_or src (at + 1) 0) (get_or src (at + 2) 0) ≡ true → L (Channels (at + 4)))
      → (at + 4 ≤ length src → get_or src at 0 ≡ 2 → is_mark (get_or src (at + 1) 0) (get_or src (at + 2) 0) ≡ false → L (Pixel (at + 4))) → L (kind_of src at)
  unfolding kind_of
  kind_cases L missing flat channels pixel =
      by_test L (leb (length src) at) (λ _. missing)
      (λ t. by_test L (eqb (get_or src at 0) 2)
      (λ u. by_test L (ltb (length src) (at + 4)) (λ _. missing)
      (λ v. by_test L (is_mark (get_or src (at + 1) 0) (get_or src (at + 2) 0))
      (channels (ltb-false (length src) (at + 4) v) (eqb-true (get_or src at 0) 2 u))
      (pixel (ltb-false (length src) (at + 4) v) (eqb-true (get_or src at 0) 2 u))))
      (λ u. flat (leb-false (length src) at t) (eqb-false (get_or src at 0) 2 u)))

-- ---- The start of a row, by the crate reading

module _ (src : List ℕ) (at : ℕ) (store : List ℕ) where
  pub early_none : length src ≤ at → store ≡ early src at store
  unfolding early
  early_none h = simp (get_or-eq_default src 0 h)

  pub early_other : (get_or src at 0 ≡ 2 → ⊥) → store ≡ early src at store
  unfolding early
  early_other k = simp (ne_eqb (get_or src at 0) 2 k)

  pub early_two : (store' : List ℕ) (n : ℕ) → get_or src at 0 ≡ 2 → n ≡ min 2 (length src - (at + 1)) → store' ≡ spread 1 store 1 (bytes_from src (at + 1) n) → store' ≡ early src at store
  unfolding early
  early_two store' n k en e = e ∙ rw en (simp (eq-eqb (get_or src at 0) 2 k))

-- where a pixel 0 ends
abbrev PixelAt : List ℕ → ℕ → Kind → Type 0
PixelAt src at Missing = Unit {0}
PixelAt src at Flat = Unit {0}
PixelAt src at (Pixel next) = (next ≡ at + 4) × (at + 4 ≤ length src)
PixelAt src at (Channels next) = Unit {0}

module _ (src : List ℕ) (at : ℕ) (k : Kind) (ek : k ≡ kind_of src at) where
  module _ (next : ℕ) (e : k ≡ Pixel next) where
    pub pixel_at : (next ≡ at + 4) × (at + 4 ≤ length src)
    pixel_at = subst (PixelAt src at) (sym ek ∙ e) (kind_cases src at (PixelAt src at) tt (λ h l. tt) (λ h l m. tt) (λ h l m. (refl, h)))

    pub first_there : next - 4 < length src
    first_there = omega (arith, pixel_at)

    pub last_there : next - 1 < length src
    last_there = omega (arith, pixel_at)

    pub some_before : 4 ≤ next
    some_before = omega (arith, pixel_at)

    pub one_before : 1 ≤ next
    one_before = omega (arith, pixel_at)

    pub start_pixel : (store store' : List ℕ) → store' ≡ early src at store
        → set (set store' 0 (get_or src (next - 4) 0)) 3 (get_or src (next - 1) 0) ≡ crate_start src at store
    unfolding crate_start
    start_pixel store store' es =
        let there = pixel_at in
        let first : next - 4 ≡ at = omega arith in
        let last : next - 1 ≡ at + 3 = omega arith in
        rw (first, last, es, ← ek, e)

  pub start_missing : (store store' : List ℕ) → k ≡ Missing → store' ≡ early src at store → store' ≡ crate_start src at store
  unfolding crate_start
  start_missing store store' e es = rw (es, ← ek, e)

  pub start_flat : (store store' : List ℕ) → k ≡ Flat → store' ≡ early src at store → store' ≡ crate_start src at store
  unfolding crate_start
  start_flat store store' e es = rw (es, ← ek, e)

  pub start_channels : (store store' : List ℕ) (next : ℕ) → k ≡ Channels next → store' ≡ early src at store → store' ≡ crate_start src at store
  unfolding crate_start
  start_channels store store' next e es = rw (es, ← ek, e)

-- ---- By the document reading, and by the one that the code has in hand

module _ (src : List ℕ) (at : ℕ) (store : List ℕ) (k : Kind) (ek : k ≡ kind_of src at) where
  pub whole_pixel : (next : ℕ) (store' : List ℕ) → k ≡ Pixel next → store' ≡ spread 1 store 0 (bytes_from src (next - 4) 4) → store' ≡ document_start src at store
  unfolding document_start
  whole_pixel next store' e es =
      let first : next - 4 ≡ at = omega (arith, pixel_at src at k ek next e) in
      rw (es, ← ek, e, first)

  pub whole_there : (next : ℕ) → k ≡ Pixel next → 4 ≤ length src - (next - 4)
  whole_there next e = omega (arith, pixel_at src at k ek next e)

  pub whole_missing : k ≡ Missing → store ≡ document_start src at store
  unfolding document_start
  whole_missing e = rw (← ek, e)

  pub whole_flat : k ≡ Flat → store ≡ document_start src at store
  unfolding document_start
  whole_flat e = rw (← ek, e)

  pub whole_channels : (next : ℕ) → k ≡ Channels next → store ≡ document_start src at store
  unfolding document_start
  whole_channels next e = rw (← ek, e)

module _ (reading : Reading) (src : List ℕ) (at : ℕ) where
  pub start_crate : (store store' : List ℕ) → reading ≡ Crate → store' ≡ crate_start src at store → store' ≡ start_of reading src at store
  start_crate store store' r e = rw r e

  pub start_document : (store store' : List ℕ) → reading ≡ Document → store' ≡ document_start src at store → store' ≡ start_of reading src at store
  start_document store store' r e = rw r e

  pub mark_crate : (width : ℕ) → reading ≡ Crate → true ≡ mark_of reading src at width
  mark_crate width r = rw r

  pub mark_document : (width n : ℕ) → reading ≡ Document → n ≡ get_or src (at + 2) 0 * 256 + get_or src (at + 3) 0 → eqb n width ≡ mark_of reading src at width
  unfolding document_mark
  mark_document width n r e = rw (r, e)

-- ---- The row

module _ (parts : RowParts) (src : List ℕ) (at : ℕ) (store : List ℕ) (width : ℕ) (b : Bool) (eb : b ≡ is_flat_width width) where
  pub by_width : b ≡ true → parts.flat src at store 0 width ≡ row_by parts src at store width
  unfolding row_by
  by_width t = simp (sym eb ∙ t)

  pub by_kind : (k : Kind) (store' : List ℕ) → b ≡ false → k ≡ kind_of src at → store' ≡ parts.start src at store → rest_by parts src at width k store' ≡ row_by parts src at store width
  unfolding row_by
  by_kind k store' t ek es = rw (ek, es) (simp (sym eb ∙ t))

-- four bytes at a place that are a mark
abbrev pub Marked : List ℕ → ℕ → Type 0
Marked src at = Channels (at + 4) ≡ kind_of src at

pub by_mark : (parts : RowParts) (src : List ℕ) (at : ℕ) (store : List ℕ) (width : ℕ) → false ≡ is_flat_width width → Marked src at → parts.mark src at width ≡ true
    → parts.channels src (at + 4) (parts.start src at store) width ≡ row_by parts src at store width
by_mark parts src at store width eb marked right =
    sym (rw right) ∙ by_kind parts src at store width false eb (Channels (at + 4)) (parts.start src at store) refl marked refl

-- by the crate reading a mark leaves two bytes in the store
pub marked_start : (src : List ℕ) (at : ℕ) (store : List ℕ) → Marked src at → early src at store ≡ crate_start src at store
marked_start src at store marked = start_channels src at (Channels (at + 4)) marked store (early src at store) (at + 4) refl refl

-- and by the document reading none
pub marked_whole : (src : List ℕ) (at : ℕ) (store : List ℕ) → Marked src at → store ≡ document_start src at store
marked_whole src at store marked = whole_channels src at store (Channels (at + 4)) marked (at + 4) refl

-- a row with a mark, over the values that the code has in hand
module _ (reading : Reading) (src : List ℕ) (at next : ℕ) (store : List ℕ) (width : ℕ) (b : Bool) (eb : b ≡ mark_of reading src at width) where
  pub marked_right : (a : Taken × List ℕ) → b ≡ true → a ≡ channels_of (count_rule reading) src next store width → a ≡ rest_by (parts_of reading) src at width (Channels next) store
  unfolding parts_of
  marked_right a t e = e ∙ simp (sym eb ∙ t)

  pub marked_wrong : b ≡ false → (Err BrokenRow, store) ≡ rest_by (parts_of reading) src at width (Channels next) store
  unfolding parts_of
  marked_wrong t = simp (sym eb ∙ t)

-- the row, over the same
module _ (reading : Reading) (src : List ℕ) (at : ℕ) (store : List ℕ) (width : ℕ) (b : Bool) (eb : b ≡ is_flat_width width) where
  pub row_by_width : (a : Taken × List ℕ) → b ≡ true → a ≡ flat_of (flat_rule reading) src at store 0 width → a ≡ row_of reading src at store width
  unfolding row_of parts_of
  row_by_width a t e = e ∙ by_width (parts_of reading) src at store width b eb t

  module _ (t : b ≡ false) (k : Kind) (store' : List ℕ) (ek : k ≡ kind_of src at) (es : store' ≡ start_of reading src at store) where
    reading_kind : rest_by (parts_of reading) src at width k store' ≡ row_of reading src at store width
    unfolding row_of parts_of
    reading_kind = by_kind (parts_of reading) src at store width b eb k store' t ek es

    pub row_missing : k ≡ Missing → (Err BytesEnd, store') ≡ row_of reading src at store width
    row_missing e = rw e at reading_kind

    pub row_flat : (a : Taken × List ℕ) → k ≡ Flat → a ≡ flat_of (flat_rule reading) src at store' 0 width → a ≡ row_of reading src at store width
    unfolding parts_of
    row_flat a e f = f ∙ (rw e at reading_kind)

    pub row_pixel : (a : Taken × List ℕ) (next : ℕ) → k ≡ Pixel next → a ≡ flat_of (flat_rule reading) src next store' 4 (width - 1) → a ≡ row_of reading src at store width
    unfolding parts_of
    row_pixel a next e f = f ∙ (rw e at reading_kind)

    pub row_marked : (a : Taken × List ℕ) (next : ℕ) → k ≡ Channels next → a ≡ rest_by (parts_of reading) src at width (Channels next) store' → a ≡ row_of reading src at store width
    row_marked a next e f = f ∙ (rw e at reading_kind)

    pub channels_there : (next : ℕ) → k ≡ Channels next → at + 4 ≤ length src
    channels_there next e = subst There (sym ek ∙ e) (kind_cases src at There tt (λ h l. tt) (λ h l m. h) (λ h l m. tt))
      where
        There : Kind → Type 0
        There Missing = Unit {0}
        There Flat = Unit {0}
        There (Pixel n) = Unit {0}
        There (Channels n) = at + 4 ≤ length src
