-- A file that the document reading reads has the bytes that `document_least` says: of a flat part and a channel first, then of a row and the rows.
use Prim.Native.Nat.{ℕ, zero, suc, ◌+◌, ◌-◌, ◌*◌, ◌<◌, ◌≤◌}
use native.Mathlib.Nat.{suc-mul}
use native.Mathlib.Numerals.{add-one}
use native.Mathlib.Omega.{arith}
use mathlib.Core.List.{List}
use mathlib.Core.Path.{◌≡◌, refl, sym, ap, subst, ◌∙◌}
use borrow.Author.Tests.{ltb-false, eqb-false, lt-ltb, le-ltb}
use lib.Dec.{ltb}
use lib.ListN.{length, get_or}
use lib.Ieee.{Float}
use Rattle.steps.specs.declared.refusal.Reason.TheVariants.{BrokenRow, BytesEnd}
use Rattle.steps.specs.Answer.{Answer, done}
use Rattle.steps.proofs.Laws.Taken.{never_both}
use Rattle.steps.specs.Answer.{Taken}
use Rattle.std.specs.Prelude.{Ok}
use Rattle.steps.specs.declared.Reading.TheVariants.{Document}
use Rattle.steps.proofs.Laws.Order.{by_order}
use Rattle.steps.proofs.Laws.Turns.{by_test, Leads, run_keeps}
use Rattle.header.specs.declared.Head.{Head}
use Rattle.header.specs.Head.{header_of}
use Rattle.flat_read.specs.Flat.{Flat, flat, times_of, document_ones, document_flat, flat_turn, flat_out, flat_of}
use Rattle.flat_read.proofs.Laws.Flat.{flat_cases}
use Rattle.channels_read.specs.Channel.{Chan, document_count, channel_turn, channel_out, channel_of, span_taken, span_of, span}
use Rattle.channels_read.specs.Channels.{channels_of}
use Rattle.channels_read.proofs.Laws.Channel.{taken_run, taken_literals, document_spans, channel_cases}
use Rattle.channels_read.proofs.Laws.Channels.{apart}
use Rattle.rows_read.specs.Row.{is_flat_width, rest_by, row_by, document_start, parts_of, row_of, document_row}
use Rattle.rows_read.proofs.Laws.Row.{kind_cases}
use Rattle.reader.specs.Frame.{stored_of, cleared}
use Rattle.reader.specs.Read.{document_pixel, read_of}
use Rattle.kept.specs.Least.{AreBytes, row_least, document_least}
use Rattle.kept.specs.Lent.{before, row_at}
use Rattle.kept.proofs.Laws.Done.{file_read}
use Rattle.kept.proofs.Laws.Alone.{rows_there, stored_some}

-- ---- How many pixels so many stored ones stand for

-- g stored pixels are at least as many as a row of that width needs, if they stand for all of it
least_groups : (width g : ℕ) → 0 < width → (g ≡ 0 → width ≡ 0) → (g ≡ 1 → width ≤ 1) → (g ≡ 2 → width ≤ 256) → row_least width ≤ 4 * g
least_groups width zero w none one two = absurd (omega (arith, none refl))
least_groups width (suc zero) w none one two = simp (lt-ltb width 2 (omega (arith, one refl))) (omega arith)
least_groups width (suc (suc zero)) w none one two =
    by_order width 2 (λ h. simp (lt-ltb width 2 h) (omega arith)) (λ h. simp (le-ltb width 2 h, lt-ltb width 257 (omega (arith, two refl))) (omega arith))
least_groups width (suc (suc (suc g))) w none one two =
    by_order width 2 (λ h. simp (lt-ltb width 2 h) (omega arith))
    (λ h. by_order width 257 (λ k. simp (le-ltb width 2 h, lt-ltb width 257 k) (omega arith)) (λ k. simp (le-ltb width 2 h, le-ltb width 257 k) (omega arith)))

pub least_most : (width : ℕ) → row_least width ≤ 12
least_most width =
    by_order width 2 (λ h. simp (lt-ltb width 2 h) (omega arith))
    (λ h. by_order width 257 (λ k. simp (le-ltb width 2 h, lt-ltb width 257 k) (omega arith)) (λ k. simp (le-ltb width 2 h, le-ltb width 257 k) (omega arith)))

-- ---- A flat part of a row that starts at `row`

module _ (src : List ℕ) (bytes : AreBytes src) (row width : ℕ) (w : 0 < width) where
  -- g pixels are stored, and the row has still to have so many; before the third they stand for 0, 1 and at most 256
  record Grown (x : Flat) : Type 0 where
    pub g : ℕ
    pub at : x.at ≡ row + 4 * g
    pub wanted : x.wanted ≤ width
    pub place : x.place ≡ 4 * (width - x.wanted)
    pub none : g ≡ 0 → x.wanted ≡ width
    pub one : g ≡ 1 → (width ≤ x.wanted + 1) × (x.repeats ≡ 0)
    pub two : g ≡ 2 → width ≤ x.wanted + 256

  abbrev Enough : Taken × List ℕ → Type 0
  Enough a = (next : ℕ) → a.0 ≡ Ok next → row + row_least width ≤ next

  grown_pixel : (x : Flat) (s : List ℕ) → 0 < x.wanted → Grown x → Grown (flat (x.at + 4) (x.place + 4) (x.wanted - 1) 0 s)
  grown_pixel x s h p = record {
    g = p.g + 1;
    at = omega (arith, p.at);
    wanted = omega (arith, p.wanted);
    place = omega (arith, p.place, p.wanted);
    none = λ e. absurd (omega arith);
    one = λ e. (omega (arith, p.none (omega arith)), refl);
    two = λ e. omega (arith, (p.one (omega arith)).0);
  }

  grown_copies : (x : Flat) (s : List ℕ) (n : ℕ) → 4 ≤ x.place → n ≤ x.wanted → (x.repeats ≡ 0 → n ≤ 255) → Grown x
      → Grown (flat (x.at + 4) (x.place + 4 * n) (x.wanted - n) (x.repeats + 1) s)
  grown_copies x s n h l few p = record {
    g = p.g + 1;
    at = omega (arith, p.at);
    wanted = omega (arith, p.wanted);
    place = omega (arith, p.place, p.wanted);
    none = λ e. absurd (omega arith);
    one = λ e. absurd (omega (arith, p.place, p.none (omega arith)));
    two = λ e. omega (arith, (p.one (omega arith)).0, few (p.one (omega arith)).1);
  }

  grown_ones : (x : Flat) → Grown x → Leads Grown Enough (document_ones src x)
  unfolding document_ones
  grown_ones x p =
      by_test (Leads Grown Enough) (ltb x.place 4) (λ t next e. never_both next BrokenRow (sym e))
      (λ t. by_test (Leads Grown Enough) (ltb x.wanted (times_of src x)) (λ u next e. never_both next BrokenRow (sym e))
      (λ u. grown_copies x _ (times_of src x) (ltb-false x.place 4 t) (ltb-false x.wanted (times_of src x) u)
      (λ z. rw z (omega (arith, bytes (x.at + 3)))) p))

  part_took : (at : ℕ) (store : List ℕ) (start wanted : ℕ) → Grown (flat at start wanted 0 store) → Enough (flat_of document_flat src at store start wanted)
  unfolding flat_of document_flat
  part_took at store start wanted begun = run_keeps (flat_turn document_flat src) flat_out Grown Enough step (λ x p next e. never_both next BytesEnd (sym e)) _ _ begun
    where
      step : (x : Flat) → Grown x → Leads Grown Enough (flat_turn document_flat src x)
      step x p =
          flat_cases document_flat src x (Leads Grown Enough)
          (λ h l e. grown_ones x p)
          (λ h l e. grown_pixel x _ h p)
          (λ h next e. never_both next BytesEnd (sym e))
          (λ h next e. let f : x.at ≡ next = cc in
          omega (arith, p.at, least_groups width p.g w (λ z. omega (arith, p.none z)) (λ z. omega (arith, (p.one z).0)) (λ z. omega (arith, p.two z))))

  -- from the row's start, and behind a pixel 0
  flat_took : (store : List ℕ) → Enough (flat_of document_flat src row store 0 width)
  flat_took store =
      part_took row store 0 width (record {
        g = 0;
        at = omega arith;
        wanted = omega arith;
        place = omega arith;
        none = λ e. refl;
        one = λ e. absurd (omega arith);
        two = λ e. absurd (omega arith);
      })

  pixel_took : (store : List ℕ) → Enough (flat_of document_flat src (row + 4) store 4 (width - 1))
  pixel_took store =
      part_took (row + 4) store 4 (width - 1) (record {
        g = 1;
        at = omega arith;
        wanted = omega arith;
        place = omega arith;
        none = λ e. absurd (omega arith);
        one = λ e. (omega arith, refl);
        two = λ e. absurd (omega arith);
      })

-- ---- A channel takes a count and a byte at least

-- where a count puts bytes, it takes one at least
some_taken : (c n : ℕ) → 0 < n → 1 ≤ span_taken c n
some_taken c n h = by_order 128 c (λ l. omega (arith, taken_run c n l)) (λ l. omega (arith, taken_literals c n l))

module _ (src : List ℕ) (at channel width : ℕ) where
  -- so far
  abbrev Passed : Chan → Type 0
  Passed x = (at ≤ x.at) × (0 < x.done → at + 2 ≤ x.at)

  abbrev Two : Taken × List ℕ → Type 0
  Two a = (next : ℕ) → a.0 ≡ Ok next → at + 2 ≤ next

  passed_span : (x : Chan) (n : ℕ) → x.at < length src → document_count src x.at x.done width ≡ span n → Passed x → Passed (span_of src channel (get_or src x.at 0) n x)
  unfolding span_of
  passed_span x n l f p =
      let there = (document_spans src x.at x.done width n l f).1 in
      (omega (arith, p.0), λ h. by_order 0 x.done (λ k. omega (arith, p.1 k)) (λ k. omega (arith, p.0, some_taken (get_or src x.at 0) n (omega arith))))

  channel_took : (store : List ℕ) → 0 < width → Two (channel_of document_count src at store channel width)
  unfolding channel_of
  channel_took store w = run_keeps (channel_turn document_count src channel width) channel_out Passed Two step (λ x p next e. never_both next BytesEnd (sym e)) _ _ (omega arith, λ h. absurd (omega arith))
    where
      step : (x : Chan) → Passed x → Leads Passed Two (channel_turn document_count src channel width x)
      step x p =
          channel_cases document_count src channel width x (Leads Passed Two)
          (λ n d l f. passed_span x n l f p)
          (λ reason d l f next e. never_both next reason (sym e))
          (λ n d l f next e. never_both next BytesEnd (sym e))
          (λ d l next e. never_both next BytesEnd (sym e))
          (λ d next e. let f : x.at ≡ next = cc in omega (arith, p.1 (omega arith)))

channels_took : (src : List ℕ) (at : ℕ) (store : List ℕ) (width next : ℕ) (s : List ℕ) → 0 < width → channels_of document_count src at store width ≡ (Ok next, s) → at + 8 ≤ next
channels_took src at store width next s w e =
    let four = apart document_count src at store width next s e in
    let told : (a : Taken × List ℕ) (n : ℕ) (l : List ℕ) → a ≡ (Ok n, l) → a.0 ≡ Ok n = λ a n l k. ap (λ (z : Taken × List ℕ). z.0) k in
    let one = channel_took src at 0 width store w four.green (told _ _ _ four.first) in
    let two = channel_took src four.green 1 width four.reds w four.blue (told _ _ _ four.second) in
    let three = channel_took src four.blue 2 width four.greens w four.exponent (told _ _ _ four.third) in
    let last = channel_took src four.exponent 3 width four.blues w next (told _ _ _ four.fourth) in
    omega arith

-- ---- The row

pub row_took : (src : List ℕ) → AreBytes src → (at : ℕ) (store : List ℕ) (width : ℕ) → 0 < width → (next : ℕ) → (document_row src at store width).0 ≡ Ok next → at + row_least width ≤ next
unfolding row_of row_by parts_of
row_took src bytes at store width w =
    by_test (Enough src bytes at width w) (is_flat_width width) (λ t. flat_took src bytes at width w store)
    (λ t. kind_cases src at (λ z. Enough src bytes at width w (rest_by (parts_of Document) src at width z s))
    (λ next e. never_both next BytesEnd (sym e))
    (λ h f. flat_took src bytes at width w s)
    (λ h f m. by_test (Enough src bytes at width w) ((parts_of Document).mark src at width)
    (λ u next e. omega (arith, least_most width, channels_took src (at + 4) s width next _ w (λ i. (e i, (channels_of document_count src (at + 4) s width).1))))
    (λ u next e. never_both next BrokenRow (sym e)))
    (λ h f m. pixel_took src bytes at width w s))
  where
    s : List ℕ
    s = document_start src at store

-- ---- The file

rows_took : (bytes : List ℕ) → AreBytes bytes → (long at : ℕ) (store : List ℕ) → 0 < long → (n : ℕ)
    → ((k : ℕ) → k < n → (row_at document_row bytes long at store k).0 ≡ Ok (before document_row bytes long at store (k + 1)).0)
    → at + n * row_least long ≤ (before document_row bytes long at store n).0
unfolding before
rows_took bytes are long at store w zero read = omega arith
rows_took bytes are long at store w (suc n) read =
    let x = before document_row bytes long at store n in
    let here = rows_took bytes are long at store w n (λ k h. read k (omega arith)) in
    let this = row_took bytes are x.0 x.1 long w (before document_row bytes long at store (suc n)).0 (rw add-one at (read n (omega arith))) in
    omega (arith, suc-mul n (row_least long))

pub document_least_lem : (bytes : List ℕ) → AreBytes bytes → (widest highest : ℕ) (out out' : List Float) (store store' : List ℕ) (own head : Head) → header_of Document bytes widest highest ≡ done own
    → read_of Document bytes widest highest out store ≡ (done head, out', store') → 0 < own.height → own.taken + document_least (stored_of own).long (stored_of own).count ≤ head.taken
document_least_lem bytes are widest highest out out' store store' own head header e high =
    let f = file_read Document document_row document_pixel bytes widest highest out store head out' store' e in
    let both : ◌≡◌ {A = Answer Head} (done f.own) (done own) = sym f.header ∙ header in
    let same : f.own ≡ own = cc in
    let rows = rows_there Document bytes widest highest out out' store store' head f in
    let some : 0 < f.own.width = omega (arith, eqb-false f.own.width 0 f.checks.1.0) in
    let higher : 0 < f.own.height = subst (λ (h : Head). 0 < h.height) (sym same) high in
    let stored = stored_of f.own in
    let pixels : 0 < stored.long = (stored_some f.own.orientation.columns f.own.width f.own.height some higher).0 in
    let last : head.taken ≡ (before document_row bytes stored.long f.own.taken (cleared stored.long store) stored.count).0 = ap (λ (z : ℕ × List ℕ). z.0) rows.1 in
    subst (λ (h : Head). h.taken + document_least (stored_of h).long (stored_of h).count ≤ head.taken) same
    (omega (arith, last, rows_took bytes are stored.long f.own.taken (cleared stored.long store) pixels stored.count (λ k h. rows.0.read k h)))
