-- What holds of every row, for the reader above: the store keeps its length and what lies beyond the row's 4w bytes,
-- and the next place in the input is neither before the row nor past the end. First of any rule that promises it of its parts, then of either reading.
use Prim.Native.Nat.{ℕ, zero, suc, ◌+◌, ◌-◌, ◌*◌, min, ◌<◌, ◌≤◌}
use native.Mathlib.Nat.{suc-mul}
use native.Mathlib.Omega.{arith}
use mathlib.Core.List.{List}
use mathlib.Core.Bool.{false}
use mathlib.Core.Path.{◌≡◌, refl, sym, ap, subst, ◌∙◌}
use borrow.Author.Tests.{ltb-false}
use lib.ListN.{length, get_or, length-replicate, length-append}
use lib.Dec.{eqb, ltb}
use Rattle.steps.specs.Loop.{Turn}
use Rattle.steps.specs.Place.{bytes_from}
use Rattle.steps.proofs.Laws.Place.{length_bytes}
use Rattle.steps.proofs.Laws.Turns.{by_test, Leads, run_keeps}
use Rattle.steps.proofs.Laws.Taken.{never_both}
use Rattle.steps.specs.declared.refusal.Reason.{Reason}
use Rattle.steps.specs.Answer.{Taken}
use Rattle.std.specs.Prelude.{Ok, Err}
use Rattle.steps.specs.declared.Reading.{Reading}
use Rattle.steps.specs.declared.Reading.TheVariants.{Crate, Document}
use Rattle.channels_read.specs.Channel.{Chan, CountRule, count_rule, channel_of, channel_out, channel_turn, is_run, span_bytes, span_of}
use Rattle.channels_read.specs.Channels.{Chans, channels_of, chans_out, chans_turn}
use Rattle.channels_read.proofs.Laws.Channel.{PutsInside, StaysInside, reading_inside, channel_cases, span_onward}
use Rattle.channels_read.proofs.Laws.Channels.{chans_cases}
use Rattle.flat_read.specs.Flat.{Flat, FlatRule, copies, copies_to, times_of, repeated, crate_flat, document_ones, document_flat, flat_rule, flat_of, flat_out, flat_turn, four_to}
use Rattle.flat_read.proofs.Laws.Flat.{flat_cases}
use Rattle.rows_read.specs.declared.kind.Kind.{Kind}
use Rattle.rows_read.specs.declared.kind.Kind.TheVariants as kind
use Rattle.rows_read.specs.Row.{RowRule, RowParts, is_flat_width, kind_of, rest_by, row_by, early, proved, whole_pixel, crate_start, document_start, start_of, parts_of, row_of}
use Rattle.rows_read.proofs.Laws.Kept.{Kept, kept_same, kept_then, kept_set, kept_spread}
use Rattle.rows_read.proofs.Laws.Row.{not_flat, kind_cases}

-- ---- From a place and a store to a later place and store

-- the store is kept from `limit` on, and p is neither before `at` nor past the end
pub record On (src : List ℕ) (limit at : ℕ) (store : List ℕ) (p : ℕ) (s : List ℕ) : Type 0 where
  pub kept : Kept limit store s
  pub onward : at ≤ length src → (at ≤ p) × (p ≤ length src)

-- the same of an answer
pub record Sound (src : List ℕ) (limit at : ℕ) (store : List ℕ) (a : Taken × List ℕ) : Type 0 where
  pub kept : Kept limit store a.1
  pub onward : (next : ℕ) → a.0 ≡ Ok next → at ≤ length src → (at ≤ next) × (next ≤ length src)

module _ {src : List ℕ} {limit at : ℕ} {store : List ℕ} where
  pub on_start : On src limit at store at store
  on_start = record { kept = kept_same limit store; onward = λ h. omega arith }

  pub on_to : {p q : ℕ} {s s' : List ℕ} → On src limit at store p s → Kept limit s s' → p ≤ q → q ≤ length src → On src limit at store q s'
  on_to o k h l = record { kept = kept_then o.kept k; onward = λ a. omega (arith, o.onward a) }

  pub sound_done : {p : ℕ} {s : List ℕ} → On src limit at store p s → Sound src limit at store (Ok p, s)
  sound_done {p} o = record { kept = o.kept; onward = λ next e h. let f : p ≡ next = cc in omega (arith, o.onward h) }

  pub sound_fault : {reason : Reason} {s : List ℕ} → Kept limit store s → Sound src limit at store (Err reason, s)
  sound_fault {reason} k = record { kept = k; onward = λ next e h. never_both next reason (sym e) }

  pub sound_on : {p : ℕ} {s : List ℕ} → Sound src limit at store (Ok p, s) → On src limit at store p s
  sound_on {p} r = record { kept = r.kept; onward = λ h. r.onward p refl h }

  pub sound_then : {p : ℕ} {s : List ℕ} {a : Taken × List ℕ} → On src limit at store p s → Sound src limit p s a → Sound src limit at store a
  sound_then o r = record { kept = kept_then o.kept r.kept; onward = λ next e h. omega (arith, o.onward h, r.onward next e (o.onward h).1) }

-- ---- A channel, by a rule whose spans stay inside the row

length_span : (src : List ℕ) (p c n : ℕ) → length (span_bytes src p c n) ≡ n
unfolding span_bytes
length_span src p c n = by_test (λ (l : List ℕ). length l ≡ n) (is_run c) (λ t. length-replicate n (get_or src p 0)) (λ t. length_bytes src p n)

pub span_kept : (src : List ℕ) (channel width c n : ℕ) (x : Chan) → channel < 4 → x.done + n ≤ width → Kept (4 * width) x.store (span_of src channel c n x).store
unfolding span_of
span_kept src channel width c n x h k = kept_spread (4 * width) 4 x.store (channel + 4 * x.done) _ (omega (arith, length_span src (x.at + 1) c n))

span_done : (src : List ℕ) (channel c n : ℕ) (x : Chan) → (span_of src channel c n x).done ≡ x.done + n
unfolding span_of
span_done src channel c n x = refl

module _ (rule : CountRule) (inside : StaysInside rule) (src : List ℕ) where
  channel_sound : (at : ℕ) (store : List ℕ) (channel width : ℕ) → channel < 4 → Sound src (4 * width) at store (channel_of rule src at store channel width)
  unfolding channel_of
  channel_sound at store channel width h = run_keeps (channel_turn rule src channel width) channel_out P Q step (λ x p. sound_fault p.0.kept) _ _ (on_start, omega arith)
    where
      P : Chan → Type 0
      P x = On src (4 * width) at store x.at x.store × (x.done ≤ width)

      Q : Taken × List ℕ → Type 0
      Q = Sound src (4 * width) at store

      step : (x : Chan) → P x → Leads P Q (channel_turn rule src channel width x)
      step x p =
          channel_cases rule src channel width x (Leads P Q)
          (λ n d l e. let c = get_or src x.at 0 in
          let i = subst (PutsInside x.done width) e (inside src x.at x.done width d) in
          let o = span_onward src channel c n x l in
          (on_to p.0 (span_kept src channel width c n x h i) (omega arith) o.1, omega (arith, i, span_done src channel c n x)))
          (λ reason d l e. sound_fault p.0.kept)
          (λ n d l e. let i = subst (PutsInside x.done width) e (inside src x.at x.done width d) in
          sound_fault (kept_then p.0.kept (span_kept src channel width (get_or src x.at 0) n x h i)))
          (λ d l. sound_fault p.0.kept)
          (λ d. sound_done p.0)

  pub channels_sound : (at : ℕ) (store : List ℕ) (width : ℕ) → Sound src (4 * width) at store (channels_of rule src at store width)
  unfolding channels_of
  channels_sound at store width = run_keeps (chans_turn rule src width) chans_out P Q step (λ x p. sound_fault p.kept) _ _ on_start
    where
      P : Chans → Type 0
      P x = On src (4 * width) at store x.at x.store

      Q : Taken × List ℕ → Type 0
      Q = Sound src (4 * width) at store

      read : (x : Chans) (a : Taken × List ℕ) → P x → x.channel < 4 → a ≡ channel_of rule src x.at x.store x.channel width → Q a
      read x a p h e =
          sound_then p (subst (Sound src (4 * width) x.at x.store) (sym e) (channel_sound x.at x.store x.channel width h))

      step : (x : Chans) → P x → Leads P Q (chans_turn rule src width x)
      step x p =
          chans_cases rule src width x (Leads P Q)
          (λ next s h e. sound_on (read x (Ok next, s) p h e))
          (λ reason s h e. read x (Err reason, s) p h e)
          (λ h. sound_done p)

-- ---- A flat part, by a rule that keeps to the room that is wanted

four_kept : (src : List ℕ) (limit at : ℕ) (store : List ℕ) (place : ℕ) → place + 4 ≤ limit → Kept limit store (four_to src at store place)
unfolding four_to
four_kept src limit at store place h = kept_spread limit 1 store place _ (omega (arith, length_bytes src at (min 4 (length src - at))))

-- a part on its way, with room for the pixels that are wanted
abbrev pub FlatOn : List ℕ → ℕ → ℕ → List ℕ → Flat → Type 0
FlatOn src limit at store x = On src limit at store x.at x.store × (x.place + 4 * x.wanted ≤ limit)

pub record SoundFlat (rule : FlatRule) : Type 0 where
  pub missing : (src : List ℕ) (limit : ℕ) (x : Flat) → x.place + 4 ≤ limit → Kept limit x.store (rule.missing src x)
  pub ones : (src : List ℕ) (limit at : ℕ) (store : List ℕ) (x : Flat) → 0 < x.wanted → x.at + 4 ≤ length src → FlatOn src limit at store x
      → Leads (FlatOn src limit at store) (Sound src limit at store) (rule.ones src x)

pub flat_sound : (rule : FlatRule) → SoundFlat rule → (src : List ℕ) (limit at : ℕ) (store : List ℕ) (start wanted : ℕ) → start + 4 * wanted ≤ limit
    → Sound src limit at store (flat_of rule src at store start wanted)
unfolding flat_of
flat_sound rule sound src limit at store start wanted h =
    run_keeps (flat_turn rule src) flat_out (FlatOn src limit at store) (Sound src limit at store) step (λ x p. sound_fault p.0.kept) _ _ (on_start, h)
  where
    step : (x : Flat) → FlatOn src limit at store x → Leads (FlatOn src limit at store) (Sound src limit at store) (flat_turn rule src x)
    step x p =
        flat_cases rule src x (Leads (FlatOn src limit at store) (Sound src limit at store))
        (λ w l e. sound.ones src limit at store x w l p)
        (λ w l e. (on_to p.0 (four_kept src limit x.at x.store x.place (omega arith)) (omega arith) (omega arith), omega arith))
        (λ w. sound_fault (kept_then p.0.kept (sound.missing src limit x (omega arith))))
        (λ w. sound_done p.0)

-- ---- The row, by rules for its parts

pub record SoundParts (parts : RowParts) : Type 0 where
  pub start : (src : List ℕ) (limit at : ℕ) (store : List ℕ) → 4 ≤ limit → Kept limit store (parts.start src at store)
  pub flat : (src : List ℕ) (limit at : ℕ) (store : List ℕ) (start wanted : ℕ) → start + 4 * wanted ≤ limit → Sound src limit at store (parts.flat src at store start wanted)
  pub channels : (src : List ℕ) (at : ℕ) (store : List ℕ) (width : ℕ) → Sound src (4 * width) at store (parts.channels src at store width)

-- what a rule for rows is to promise
abbrev pub SoundRow : RowRule → Type 0
SoundRow rule = (src : List ℕ) (at : ℕ) (store : List ℕ) (width : ℕ) → Sound src (4 * width) at store (rule src at store width)

pub row_sound : (parts : RowParts) → SoundParts parts → SoundRow (row_by parts)
unfolding row_by
row_sound parts sound src at store width =
    by_test (Sound src (4 * width) at store) (is_flat_width width)
    (λ t. sound.flat src (4 * width) at store 0 width (omega arith))
    (λ t. let w = not_flat width false (sym t) refl in
    let s = parts.start src at store in
    let k = sound.start src (4 * width) at store (omega arith) in
    kind_cases src at (λ (z : Kind). Sound src (4 * width) at store (rest_by parts src at width z s))
    (sound_fault k)
    (λ h e. sound_then (on_to on_start k (omega arith) (omega arith)) (sound.flat src (4 * width) at s 0 width (omega arith)))
    (λ h e m. by_test (Sound src (4 * width) at store) (parts.mark src at width)
    (λ t. sound_then (on_to on_start k (omega arith) h) (sound.channels src (at + 4) s width)) (λ t. sound_fault k))
    (λ h e m. sound_then (on_to on_start k (omega arith) h) (sound.flat src (4 * width) (at + 4) s 4 (width - 1) (omega arith))))

module _ (rule : RowRule) (sound : SoundRow rule) (src : List ℕ) (at : ℕ) (store : List ℕ) (width : ℕ) where
  -- the store keeps its length
  pub row_length : length (rule src at store width).1 ≡ length store
  row_length = (sound src at store width).kept.long

  -- the next place is not before the row, and not past the end
  pub row_onward : (next : ℕ) → (rule src at store width).0 ≡ Ok next → at ≤ length src → (at ≤ next) × (next ≤ length src)
  row_onward = (sound src at store width).onward

-- ---- Either reading

length_copies : (n : ℕ) (q : List ℕ) → length (copies n q) ≡ n * length q
length_copies zero q = omega arith
length_copies (suc n) q = omega (arith, length-append q (copies n q), length_copies n q, suc-mul n (length q))

copies_kept : (limit : ℕ) (store : List ℕ) (place n : ℕ) → place + 4 * n ≤ limit → Kept limit store (copies_to store place n)
unfolding copies_to
copies_kept limit store place n h =
    let q = bytes_from store (place - 4) 4 in
    let size : length (copies n q) ≡ n * 4 = length_copies n q ∙ ap (λ (k : ℕ). n * k) (length_bytes store (place - 4) 4) in
    kept_spread limit 1 store place (copies n q) (omega arith)

document_ones_sound : (src : List ℕ) (limit at : ℕ) (store : List ℕ) (x : Flat) → x.at + 4 ≤ length src → FlatOn src limit at store x
    → Leads (FlatOn src limit at store) (Sound src limit at store) (document_ones src x)
unfolding document_ones
document_ones_sound src limit at store x l p =
    by_test Q (ltb x.place 4) (λ t. sound_fault p.0.kept)
    (λ t. by_test Q (ltb x.wanted (times_of src x)) (λ u. sound_fault p.0.kept)
    (λ u. let fits = ltb-false x.wanted (times_of src x) u in
    go (times_of src x) fits))
  where
    Q : Turn Flat (Taken × List ℕ) → Type 0
    Q = Leads (FlatOn src limit at store) (Sound src limit at store)

    go : (n : ℕ) → n ≤ x.wanted → FlatOn src limit at store (repeated x n)
    go n fits = (on_to p.0 (copies_kept limit x.store x.place n (omega (arith, p.1))) (omega arith) (omega arith), omega (arith, p.1))

flat_rule_sound : (reading : Reading) → SoundFlat (flat_rule reading)
unfolding crate_flat document_flat
flat_rule_sound Crate = record {
  missing = λ src limit x h. four_kept src limit x.at x.store x.place h;
  ones = λ src limit at store x w l p. sound_fault (kept_then p.0.kept (four_kept src limit x.at x.store x.place (omega (arith, p.1))));
}
flat_rule_sound Document = record { missing = λ src limit x h. kept_same limit x.store; ones = λ src limit at store x w l p. document_ones_sound src limit at store x l p }

start_kept : (reading : Reading) (src : List ℕ) (limit at : ℕ) (store : List ℕ) → 4 ≤ limit → Kept limit store (start_of reading src at store)
unfolding crate_start early document_start
start_kept Crate src limit at store h =
    let bytes : List ℕ = bytes_from src (at + 1) (min 2 (length src - (at + 1))) in
    go (kind_of src at)
    (by_test (Kept limit store) (eqb (get_or src at 0) 2)
    (λ t. kept_spread limit 1 store 1 bytes (omega (arith, length_bytes src (at + 1) (min 2 (length src - (at + 1))))))
    (λ t. kept_same limit store))
  where
    go : {s : List ℕ} (z : Kind) → Kept limit store s → Kept limit store (proved src at z s)
    go kind.Missing k = k
    go kind.Flat k = k
    go (kind.Pixel next) k = kept_then (kept_then k (kept_set limit _ 0 _ (omega arith))) (kept_set limit _ 3 _ (omega arith))
    go (kind.Channels next) k = k
start_kept Document src limit at store h = go (kind_of src at)
  where
    go : (z : Kind) → Kept limit store (whole_pixel src at z store)
    go kind.Missing = kept_same limit store
    go kind.Flat = kept_same limit store
    go (kind.Pixel next) = kept_spread limit 1 store 0 (bytes_from src at 4) (omega (arith, length_bytes src at 4))
    go (kind.Channels next) = kept_same limit store

pub reading_sound : (reading : Reading) → SoundRow (row_of reading)
unfolding row_of parts_of
reading_sound reading =
    row_sound (parts_of reading) (record {
      start = start_kept reading;
      flat = flat_sound (flat_rule reading) (flat_rule_sound reading);
      channels = channels_sound (count_rule reading) (reading_inside reading);
    })
