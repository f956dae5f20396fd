-- Bytes behind those that an answer rests on change nothing: the row. First by any rule that promises it of its parts, then by either reading.
use Prim.Native.Nat.{ℕ, ◌+◌, ◌-◌, min, ◌<◌, ◌≤◌}
use mathlib.Core.Bool.{Bool, true, false}
use mathlib.Core.List.{List, ◌++◌}
use mathlib.Core.Path.{◌≡◌, refl, sym, subst, ◌∙◌}
use native.Mathlib.Omega.{arith}
use borrow.Author.Tests.{le-ltb}
use lib.Dec.{ltb}
use lib.ListN.{length, get_or}
use Rattle.steps.proofs.Laws.Order.{by_order}
use Rattle.steps.specs.declared.refusal.Reason.TheVariants.{BrokenRow, OldRun}
use Rattle.steps.specs.Answer.{Taken}
use Rattle.std.specs.Prelude.{Ok, Err}
use Rattle.steps.proofs.Laws.Taken.{never_both}
use Rattle.steps.specs.declared.Reading.{Reading}
use Rattle.steps.specs.declared.Reading.TheVariants.{Crate, Document}
use Rattle.steps.proofs.Laws.Turns.{by_test}
use Rattle.channels_read.specs.Channel.{Count, is_run, span_length, span_taken, behind, lacking, crate_count, document_count, count_rule}
use Rattle.channels_read.proofs.Laws.Channel.{document_past, document_lacks, document_span, document_spans}
use Rattle.flat_read.specs.Flat.{Flat, times_of, document_ones, crate_flat, document_flat, flat_rule}
use Rattle.rows_read.specs.declared.kind.Kind.{Kind}
use Rattle.rows_read.specs.declared.kind.Kind.TheVariants as kind
use Rattle.rows_read.specs.Row.{RowParts, RowRule, is_flat_width, is_mark, kind_of, rest_by, row_by, early, proved, whole_pixel, crate_start, document_start, document_mark, start_of, mark_of, parts_of, row_of}
use Rattle.rows_read.specs.Middle.{Settled, Behind, Alike, Rests, Alone, gap_of}
use Rattle.rows_read.proofs.Laws.Row.{kind_flat, kind_channels, kind_pixel, kind_cases, early_other, not_flat}
use Rattle.rows_read.proofs.Laws.Alike.{byte_same, bytes_same, Near, near_or, Firm, NonePast, front_alike}
use Rattle.rows_read.proofs.Laws.AloneChannels.{CountRests, CountAlone, channels_past, channels_alone}
use Rattle.rows_read.proofs.Laws.AloneFlat.{TakesFour, FlatAlone, four_same, flat_of_past, flat_first, flat_alone}

-- ---- The row

-- what a kind of row rests on
abbrev pub KindRests : ℕ → ℕ → Kind → Type 0
KindRests n at kind.Missing = ⊥
KindRests n at kind.Flat = at < n
KindRests n at (kind.Pixel next) = at + 4 ≤ n
KindRests n at (kind.Channels next) = at + 4 ≤ n

module _ (src other : List ℕ) (n : ℕ) (alike : Alike n src other) where
  pub kind_same : (at : ℕ) → KindRests n at (kind_of src at) → kind_of other at ≡ kind_of src at
  kind_same at =
      kind_cases src at (λ (z : Kind). KindRests n at z → kind_of other at ≡ z)
      (λ none. absurd none)
      (λ h e l. sym (kind_flat other at (omega (arith, alike.1)) (λ f. e (sym (byte_same src other n alike at l) ∙ f))))
      (λ h e m l. sym (kind_channels other at (byte_same src other n alike at (omega arith) ∙ e) (omega (arith, alike.1)) true (sym (mark_same l ∙ m)) refl))
      (λ h e m l. sym (kind_pixel other at (byte_same src other n alike at (omega arith) ∙ e) (omega (arith, alike.1)) false (sym (mark_same l ∙ m)) refl))
    where
      mark_same : at + 4 ≤ n → is_mark (get_or other (at + 1) 0) (get_or other (at + 2) 0) ≡ is_mark (get_or src (at + 1) 0) (get_or src (at + 2) 0)
      mark_same h = rw (byte_same src other n alike (at + 1) (omega arith), byte_same src other n alike (at + 2) (omega arith))

pub record PartsAlone (gap : ℕ) (parts : RowParts) : Type 0 where
  pub start : (src other : List ℕ) (n at : ℕ) (store : List ℕ) → Alike n src other → KindRests n at (kind_of src at) → parts.start other at store ≡ parts.start src at store
  pub flat_first : (src : List ℕ) (n at : ℕ) (store : List ℕ) (start wanted : ℕ) → 0 < wanted → Firm gap (length src) n (parts.flat src at store start wanted) → at + 4 ≤ n
  pub flat_past : (src : List ℕ) (n at : ℕ) (store : List ℕ) (start wanted : ℕ) → (Near gap (length src) n at → ⊥) → Firm gap (length src) n (parts.flat src at store start wanted) → ⊥
  pub flat : (src other : List ℕ) (n at : ℕ) (store : List ℕ) (start wanted : ℕ) → Alike n src other → Firm gap (length src) n (parts.flat src at store start wanted)
      → parts.flat other at store start wanted ≡ parts.flat src at store start wanted
  pub mark : (src other : List ℕ) (n at width : ℕ) → Alike n src other → at + 4 ≤ n → parts.mark other at width ≡ parts.mark src at width
  pub channels_past : (src : List ℕ) (n at : ℕ) (store : List ℕ) (width : ℕ) → (Near gap (length src) n at → ⊥) → Firm gap (length src) n (parts.channels src at store width) → ⊥
  pub channels : (src other : List ℕ) (n at : ℕ) (store : List ℕ) (width : ℕ) → Alike n src other → Firm gap (length src) n (parts.channels src at store width)
      → parts.channels other at store width ≡ parts.channels src at store width

module _ (gap : ℕ) (parts : RowParts) (alone : PartsAlone gap parts) where
  module _ (src : List ℕ) (n at : ℕ) (store : List ℕ) (width : ℕ) where
    -- the first four bytes of a row whose answer rests on those bytes
    first_four : 8 ≤ width → Firm gap (length src) n (rest_by parts src at width (kind_of src at) store) → at + 4 ≤ n
    first_four w =
        kind_cases src at (λ (z : Kind). Firm gap (length src) n (rest_by parts src at width z store) → at + 4 ≤ n)
        (λ f. absurd (f.0 refl))
        (λ h e f. alone.flat_first src n at store 0 width (omega arith) f)
        (λ h e m. by_test (λ (z : Taken × List ℕ). Firm gap (length src) n z → at + 4 ≤ n) (parts.mark src at width)
        (λ t f. near_or gap (length src) n (at + 4) (λ near. near.0) (λ far. absurd (alone.channels_past src n (at + 4) store width far f)))
        (λ t f. omega (arith, f.1)))
        (λ h e m f. near_or gap (length src) n (at + 4) (λ near. near.0) (λ far. absurd (alone.flat_past src n (at + 4) store 4 (width - 1) far f)))

    -- and its start
    kind_rests : 8 ≤ width → Firm gap (length src) n (rest_by parts src at width (kind_of src at) store) → KindRests n at (kind_of src at)
    kind_rests w firm =
        let four = first_four w firm in
        kind_cases src at (λ (z : Kind). Firm gap (length src) n (rest_by parts src at width z store) → KindRests n at z)
        (λ f. f.0 refl) (λ h e f. omega arith) (λ h e m f. four) (λ h e m f. four) firm

  module _ (src other : List ℕ) (n : ℕ) (alike : Alike n src other) (at : ℕ) (store : List ℕ) (width : ℕ) where
    rest_same : (k : Kind) (s : List ℕ) → KindRests n at k → Firm gap (length src) n (rest_by parts src at width k s) → rest_by parts other at width k s ≡ rest_by parts src at width k s
    rest_same kind.Missing s rests firm = refl
    rest_same kind.Flat s rests firm = alone.flat src other n at s 0 width alike firm
    rest_same (kind.Pixel next) s rests firm = alone.flat src other n next s 4 (width - 1) alike firm
    rest_same (kind.Channels next) s rests firm = go (parts.mark src at width) refl
      where
        same : parts.mark other at width ≡ parts.mark src at width
        same = alone.mark src other n at width alike rests

        go : (t : Bool) → parts.mark src at width ≡ t → rest_by parts other at width (kind.Channels next) s ≡ rest_by parts src at width (kind.Channels next) s
        go true e = simp (same, e) (alone.channels src other n next s width alike (simp e at firm))
        go false e = simp (same, e)

    by_kind : 8 ≤ width → Firm gap (length src) n (rest_by parts src at width (kind_of src at) (parts.start src at store))
        → rest_by parts other at width (kind_of other at) (parts.start other at store) ≡ rest_by parts src at width (kind_of src at) (parts.start src at store)
    by_kind w firm =
        let rests = kind_rests src n at (parts.start src at store) width w firm in
        rw (kind_same src other n alike at rests, alone.start src other n at store alike rests) (rest_same (kind_of src at) (parts.start src at store) rests firm)

    pub row_alone : Firm gap (length src) n (row_by parts src at store width) → row_by parts other at store width ≡ row_by parts src at store width
    unfolding row_by
    row_alone firm = go (is_flat_width width) refl
      where
        go : (b : Bool) → is_flat_width width ≡ b → row_by parts other at store width ≡ row_by parts src at store width
        go true e = simp e (alone.flat src other n at store 0 width alike (simp e at firm))
        go false e = simp e (by_kind (not_flat width false (sym e) refl) (simp e at firm))

  -- a row takes four bytes at least
  pub row_first : (src : List ℕ) (n at : ℕ) (store : List ℕ) (width : ℕ) → 0 < width → Firm gap (length src) n (row_by parts src at store width) → at + 4 ≤ n
  unfolding row_by
  row_first src n at store width w = go (is_flat_width width) refl
    where
      go : (b : Bool) → is_flat_width width ≡ b → Firm gap (length src) n (row_by parts src at store width) → at + 4 ≤ n
      go true e firm = alone.flat_first src n at store 0 width w (simp e at firm)
      go false e firm = first_four src n at (parts.start src at store) width (not_flat width false (sym e) refl) (simp e at firm)

  pub row_past : gap ≤ 1 → NonePast gap (row_by parts)
  unfolding row_by
  row_past small src n at store width far = go (is_flat_width width) refl
    where
      there : (k : Kind) → kind_of src at ≡ k → KindRests n at k → ⊥
      there k e = subst (λ (z : Kind). KindRests n at z → ⊥) e
          (kind_cases src at (λ (z : Kind). KindRests n at z → ⊥) (λ none. none) (λ h f l. far (omega arith, omega arith)) (λ h f m l. far (omega arith, omega arith)) (λ h f m l. far (omega arith, omega arith)))

      go : (b : Bool) → is_flat_width width ≡ b → Rests gap (length src) n (row_by parts src at store width).0 → ⊥
      go true e firm = alone.flat_past src n at store 0 width far (simp e at firm)
      go false e firm = there (kind_of src at) refl (kind_rests src n at (parts.start src at store) width (not_flat width false (sym e) refl) (simp e at firm))

-- an answer that is settled rests on all bytes
pub alone_behind : (gap : ℕ) → gap ≤ 1 → (rule : RowRule) → Alone gap rule → Behind rule
alone_behind gap small rule alone src rest at store width settled = alone src (src ++ rest) (length src) at store width (front_alike src rest) (rests (rule src at store width).0 settled)
  where
    rests : (t : Taken) → Settled (length src) t → Rests gap (length src) (length src) t
    rests (Ok next) h = (omega arith, omega arith)
    rests (Err reason) h = (h, omega arith)

-- ---- Either reading

pub gap_small : (reading : Reading) → gap_of reading ≤ 1
gap_small Crate = omega arith
gap_small Document = omega arith

-- counts

pub crate_count_alone : CountAlone 1 crate_count
unfolding crate_count
crate_count_alone = record { whole = λ src at done width k l e h. omega arith; same = λ src other n at done width alike h sure. rw (byte_same src other n alike at h) }

module _ (src other : List ℕ) (n at done width : ℕ) (alike : Alike n src other) (h : at < n) (c m : ℕ) (ec : c ≡ get_or src at 0) (em : m ≡ span_length c) where
  here : c ≡ get_or other at 0
  here = ec ∙ sym (byte_same src other n alike at h)

  lacks_none : CountRests src n at (lacking src at c) → ⊥
  lacks_none = by_test (λ (z : Count). CountRests src n at z → ⊥) (is_run c) (λ t sure. sure.0 refl) (λ t sure. sure)

  fits_same : m ≤ width - done → (b : Bool) → b ≡ ltb (behind src at) (span_taken c m) → CountRests src n at (document_count src at done width)
      → document_count other at done width ≡ document_count src at done width
  fits_same l true eb sure = absurd (lacks_none (subst (CountRests src n at) (document_lacks src at done width c m ec em l true eb refl) sure))
  fits_same l false eb sure =
      let is = document_span src at done width c m ec em l false eb refl in
      let there : at + 1 + span_taken c m ≤ n = subst (λ (i : ℕ). at + 1 + span_taken i m ≤ n) (sym ec) (subst (CountRests src n at) is sure) in
      document_span other at done width c m here em l false (sym (le-ltb (behind other at) (span_taken c m) (omega (arith, alike.1)))) refl ∙ sym is

  document_count_same : CountRests src n at (document_count src at done width) → document_count other at done width ≡ document_count src at done width
  document_count_same sure =
      by_order (width - done) m
      (λ l. document_past other at done width c m here em l ∙ sym (document_past src at done width c m ec em l))
      (λ l. fits_same l (ltb (behind src at) (span_taken c m)) refl sure)

document_count_alone : CountAlone 0 document_count
document_count_alone = record {
  whole = λ src at done width k l e h. (document_spans src at done width k l e).1;
  same = λ src other n at done width alike h sure. document_count_same src other n at done width alike h (get_or src at 0) (span_length (get_or src at 0)) refl refl sure;
}

pub count_alone : (reading : Reading) → CountAlone (gap_of reading) (count_rule reading)
count_alone Crate = crate_count_alone
count_alone Document = document_count_alone

-- flat parts

pub crate_flat_alone : FlatAlone crate_flat
unfolding crate_flat
crate_flat_alone = record {
  onward = λ src x h next e. never_both next OldRun (sym e);
  same = λ src other n alike x h. rw (four_same src other n alike x.at x.store x.place h);
}

document_takes_four : (src : List ℕ) (x : Flat) → TakesFour x (document_ones src x)
unfolding document_ones
document_takes_four src x =
    by_test (TakesFour x) (ltb x.place 4) (λ t next e. never_both next BrokenRow (sym e))
    (λ t. by_test (TakesFour x) (ltb x.wanted (times_of src x)) (λ u next e. never_both next BrokenRow (sym e)) (λ u. omega arith))

document_ones_same : (src other : List ℕ) (n : ℕ) → Alike n src other → (x : Flat) → x.at + 4 ≤ n → document_ones other x ≡ document_ones src x
unfolding document_ones
document_ones_same src other n alike x h = rw (byte_same src other n alike (x.at + 3) (omega arith))

document_flat_alone : FlatAlone document_flat
unfolding document_flat
document_flat_alone = record { onward = λ src x h. document_takes_four src x; same = document_ones_same }

pub flat_rule_alone : (reading : Reading) → FlatAlone (flat_rule reading)
flat_rule_alone Crate = crate_flat_alone
flat_rule_alone Document = document_flat_alone

-- starts and marks

module _ (src other : List ℕ) (n : ℕ) (alike : Alike n src other) (at : ℕ) (store : List ℕ) where
  early_same : at + 4 ≤ n → early other at store ≡ early src at store
  unfolding early
  early_same h =
      let m : min 2 (length other - (at + 1)) ≡ 2 = omega (arith, alike.1) in
      let k : min 2 (length src - (at + 1)) ≡ 2 = omega (arith, alike.0) in
      rw (m, k, byte_same src other n alike at (omega arith), bytes_same src other n alike (at + 1) 2 (omega arith))

  crate_start_alone : KindRests n at (kind_of src at) → crate_start other at store ≡ crate_start src at store
  unfolding crate_start
  crate_start_alone rests = rw (kind_same src other n alike at rests) (by_kinds rests)
    where
      by_kinds : KindRests n at (kind_of src at) → proved other at (kind_of src at) (early other at store) ≡ proved src at (kind_of src at) (early src at store)
      by_kinds =
          kind_cases src at (λ (z : Kind). KindRests n at z → proved other at z (early other at store) ≡ proved src at z (early src at store))
          (λ none. absurd none)
          (λ h e l. sym (early_other other at store (λ f. e (sym (byte_same src other n alike at l) ∙ f))) ∙ early_other src at store e)
          (λ h e m l. early_same l)
          (λ h e m l. rw (early_same l, byte_same src other n alike at (omega arith), byte_same src other n alike (at + 3) (omega arith)))

  document_start_alone : KindRests n at (kind_of src at) → document_start other at store ≡ document_start src at store
  unfolding document_start
  document_start_alone rests = rw (kind_same src other n alike at rests) (by_kinds rests)
    where
      by_kinds : KindRests n at (kind_of src at) → whole_pixel other at (kind_of src at) store ≡ whole_pixel src at (kind_of src at) store
      by_kinds =
          kind_cases src at (λ (z : Kind). KindRests n at z → whole_pixel other at z store ≡ whole_pixel src at z store)
          (λ none. absurd none) (λ h e l. refl) (λ h e m l. refl) (λ h e m l. rw (bytes_same src other n alike at 4 l))

  pub start_alone : (reading : Reading) → KindRests n at (kind_of src at) → start_of reading other at store ≡ start_of reading src at store
  start_alone Crate = crate_start_alone
  start_alone Document = document_start_alone

mark_alone : (reading : Reading) (src other : List ℕ) (n at width : ℕ) → Alike n src other → at + 4 ≤ n → mark_of reading other at width ≡ mark_of reading src at width
unfolding document_mark
mark_alone Crate src other n at width alike h = refl
mark_alone Document src other n at width alike h = rw (byte_same src other n alike (at + 2) (omega arith), byte_same src other n alike (at + 3) (omega arith))

-- the row

parts_alone : (reading : Reading) → PartsAlone (gap_of reading) (parts_of reading)
unfolding parts_of
parts_alone reading =
    let gap : ℕ = gap_of reading in
    let small = gap_small reading in
    let counts = count_alone reading in
    let flats = flat_rule_alone reading in
    record {
      start = λ src other n at store alike rests. start_alone src other n alike at store reading rests;
      flat_first = λ src n at store start wanted w firm. flat_first gap small (flat_rule reading) flats src n at store start wanted w firm;
      flat_past = λ src n at store start wanted far firm. flat_of_past gap small (flat_rule reading) flats src n at store start wanted far firm;
      flat = λ src other n at store start wanted alike firm. flat_alone gap small (flat_rule reading) flats src other n alike at store start wanted firm;
      mark = mark_alone reading;
      channels_past = λ src n at store width far firm. channels_past gap small (count_rule reading) src n width at store far firm;
      channels = λ src other n at store width alike firm. channels_alone gap small (count_rule reading) counts src other n alike width at store firm;
    }

pub reading_alone : (reading : Reading) → Alone (gap_of reading) (row_of reading)
unfolding row_of
reading_alone reading src other n at store width alike rests = row_alone (gap_of reading) (parts_of reading) (parts_alone reading) src other n alike at store width rests

pub reading_past : (reading : Reading) → NonePast (gap_of reading) (row_of reading)
unfolding row_of
reading_past reading = row_past (gap_of reading) (parts_of reading) (parts_alone reading) (gap_small reading)

pub reading_behind : (reading : Reading) → Behind (row_of reading)
reading_behind reading = alone_behind (gap_of reading) (gap_small reading) (row_of reading) (reading_alone reading)

-- by the document reading all bytes of a row that is done were there, and there are four at least
pub document_first : (src : List ℕ) (at : ℕ) (store : List ℕ) (width next : ℕ) → 0 < width → next ≤ length src → (row_of Document src at store width).0 ≡ Ok next → at + 4 ≤ next
unfolding row_of
document_first src at store width next w inside e =
    row_first 0 (parts_of Document) (parts_alone Document) src next at store width w (subst (Rests 0 (length src) next) (sym e) (omega arith, omega arith))
