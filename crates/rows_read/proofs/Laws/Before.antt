-- Bytes before a row change nothing but places. First of any rule that promises it of its parts, then of either reading; and both sides together.
use Prim.Native.Nat.{ℕ, zero, suc, ◌+◌, ◌-◌, min}
use mathlib.Core.Bool.{Bool, true, false}
use mathlib.Core.List.{List, [], ◌∷◌, ◌++◌}
use mathlib.Core.Path.{◌≡◌, refl, sym, ap, ◌∙◌}
use native.Mathlib.Nat.{add_assoc, suc-add}
use native.Mathlib.Omega.{arith}
use borrow.Author.Tests.{lt-ltb, le-ltb, ltb-true, ltb-false, lt-leb, le-leb, leb-true, leb-false}
use lib.ListN.{length, get_or, length-append}
use lib.Dec.{ltb, leb, eqb}
use Rattle.steps.specs.Loop.{pick, Turn, more, halt}
use Rattle.steps.specs.Place.{bytes_from}
use Rattle.steps.proofs.Laws.Turns.{enough_turns}
use Rattle.steps.proofs.Laws.Machines.{told, told_pick, told_run}
use Rattle.steps.specs.Answer.{Taken}
use Rattle.std.specs.Prelude.{Ok, Err}
use Rattle.steps.specs.declared.refusal.Reason.TheVariants.{BrokenRow, BytesEnd}
use Rattle.steps.specs.declared.Reading.{Reading}
use Rattle.steps.specs.declared.Reading.TheVariants.{Crate, Document}
use Rattle.channels_read.specs.Channel.{Chan, chan, CountRule, short, behind, crate_count, document_count, count_rule, channel_turn, channel_out, channel_of, span_bytes, span_of}
use Rattle.channels_read.specs.Channels.{Chans, chans, after_channel, chans_turn, chans_out, channels_of}
use Rattle.channels_read.proofs.Laws.Channel.{channel_cases, channel_falls, turn_done, turn_short, turn_count, turn_fault, turn_span}
use Rattle.flat_read.specs.Flat.{Flat, FlatRule, flat, crate_flat, document_ones, document_flat, flat_rule, times_of, repeated, four_to, is_repeat, flat_turn, flat_out, flat_of, ordinary, stored}
use Rattle.flat_read.proofs.Laws.Flat.{OnesOnward, reading_onward, flat_falls}
use Rattle.rows_read.specs.declared.kind.Kind.{Kind}
use Rattle.rows_read.specs.declared.kind.Kind.TheVariants as kind
use Rattle.rows_read.specs.Row.{RowParts, RowRule, is_flat_width, is_mark, kind_of, rest_by, row_by, early, proved, whole_pixel, crate_start, document_start, document_mark, start_of, mark_of, parts_of, row_of}
use Rattle.rows_read.specs.Middle.{later, Before, Behind, Anywhere}
use Rattle.rows_read.proofs.Laws.Behind.{reading_behind}

-- an answer, with its store, n places later
abbrev pub later_by : ℕ → Taken × List ℕ → Taken × List ℕ
later_by n a = (later n a.0, a.1)

-- ---- Bytes behind others

byte_later : (pre src : List ℕ) (p : ℕ) → get_or (pre ++ src) (length pre + p) 0 ≡ get_or src p 0
byte_later [] src p = ap (λ (i : ℕ). get_or src i 0) (omega arith)
byte_later (x ∷ pre) src p = rw suc-add (byte_later pre src p)

bytes_later : (pre src : List ℕ) (p n : ℕ) → bytes_from (pre ++ src) (length pre + p) n ≡ bytes_from src p n
unfolding bytes_from
bytes_later pre src p zero = refl
bytes_later pre src p (suc n) = rw (byte_later pre src p, add_assoc) (rw (bytes_later pre src (p + 1) n))

module _ (pre src : List ℕ) where
  abbrev whole : List ℕ
  whole = pre ++ src

  abbrev n : ℕ
  n = length pre

  size : length whole ≡ n + length src
  size = length-append pre src

  -- a place is at or past the end or not, wherever the bytes stand
  at_end : (p : ℕ) → leb (length whole) (n + p) ≡ leb (length src) p
  at_end p = go (leb (length src) p) refl
    where
      go : (t : Bool) → leb (length src) p ≡ t → leb (length whole) (n + p) ≡ t
      go true e = let h = leb-true (length src) p e in le-leb (length whole) (n + p) (omega (arith, size))
      go false e = let h = leb-false (length src) p e in lt-leb (length whole) (n + p) (omega (arith, size))

  past_end : (p : ℕ) → ltb (length whole) (n + p) ≡ ltb (length src) p
  past_end p = go (ltb (length src) p) refl
    where
      go : (t : Bool) → ltb (length src) p ≡ t → ltb (length whole) (n + p) ≡ t
      go true e = let h = ltb-true (length src) p e in lt-ltb (length whole) (n + p) (omega (arith, size))
      go false e = let h = ltb-false (length src) p e in le-ltb (length whole) (n + p) (omega (arith, size))

-- ---- A channel, by a rule of which the same holds at a count

abbrev pub CountBefore : CountRule → Type 0
CountBefore rule = (pre src : List ℕ) (at done width : ℕ) → rule (pre ++ src) (length pre + at) done width ≡ rule src at done width

abbrev chan_later : ℕ → Chan → Chan
chan_later n x = chan (n + x.at) x.done x.store

span_later : (pre src : List ℕ) (channel c m : ℕ) (x : Chan) → span_of (pre ++ src) channel c m (chan_later (length pre) x) ≡ chan_later (length pre) (span_of src channel c m x)
unfolding span_of span_bytes
span_later pre src channel c m x =
    let size = length-append pre src in
    let next : length pre + x.at + 1 ≡ length pre + (x.at + 1) = omega arith in
    let end : (t : ℕ) → min (length pre + (x.at + 1) + t) (length (pre ++ src)) ≡ length pre + min (x.at + 1 + t) (length src) = λ t. omega arith in
    rw (next, end, byte_later pre src (x.at + 1), bytes_later pre src (x.at + 1) m)

module _ (rule : CountRule) (before : CountBefore rule) (pre src : List ℕ) where
  channel_turns : (channel width : ℕ) (x : Chan) → channel_turn rule (pre ++ src) channel width (chan_later (length pre) x) ≡ told (chan_later (length pre)) (later_by (length pre)) (channel_turn rule src channel width x)
  channel_turns channel width x =
      let y = chan_later (length pre) x in
      let same = before pre src x.at x.done width in
      let size = length-append pre src in
      channel_cases rule src channel width x (λ (z : Turn Chan (Taken × List ℕ)). channel_turn rule (pre ++ src) channel width y ≡ told (chan_later (length pre)) (later_by (length pre)) z)
      (λ m d l e. turn_span rule (pre ++ src) channel width y m d (omega arith) (same ∙ e) ∙ rw (byte_later pre src x.at) (ap more (span_later pre src channel (get_or src x.at 0) m x)))
      (λ reason d l e. turn_fault rule (pre ++ src) channel width y reason d (omega arith) (same ∙ e))
      (λ m d l e. turn_count rule (pre ++ src) channel width y (short m) d (omega arith) (same ∙ e)
      ∙ rw (byte_later pre src x.at) (ap (λ (z : Chan). halt (Err BytesEnd, z.store)) (span_later pre src channel (get_or src x.at 0) m x)))
      (λ d l. turn_short rule (pre ++ src) channel width y d (omega arith))
      (λ d. turn_done rule (pre ++ src) channel width y d)

  channel_before : (at : ℕ) (store : List ℕ) (channel width : ℕ) → channel_of rule (pre ++ src) (length pre + at) store channel width ≡ later_by (length pre) (channel_of rule src at store channel width)
  unfolding channel_of
  channel_before at store channel width =
      let size = length-append pre src in
      enough_turns (channel_turn rule (pre ++ src) channel width) channel_out channel_out (λ y. length (pre ++ src) - y.at) (channel_falls rule (pre ++ src) channel width) (length (pre ++ src) + 1) (length src + 1) (chan (length pre + at) 0 store) (omega arith) (omega arith)
      ∙ told_run (channel_turn rule src channel width) (channel_turn rule (pre ++ src) channel width) channel_out channel_out (chan_later (length pre)) (later_by (length pre)) (channel_turns channel width) (λ x. refl) (length src + 1) (chan at 0 store)

  abbrev chans_later : Chans → Chans
  chans_later x = chans (length pre + x.at) x.channel x.store

  chans_turns : (width : ℕ) (x : Chans) → chans_turn rule (pre ++ src) width (chans_later x) ≡ told chans_later (later_by (length pre)) (chans_turn rule src width x)
  unfolding chans_turn
  chans_turns width x =
      let read = channel_of rule src x.at x.store x.channel width in
      rw (channel_before x.at x.store x.channel width, after read.0 read.1)
      (sym (told_pick chans_later (later_by (length pre)) (ltb x.channel 4) _ _))
    where
      after : (t : Taken) (s : List ℕ) → after_channel x.channel (later (length pre) t) s ≡ told chans_later (later_by (length pre)) (after_channel x.channel t s)
      after (Ok next) s = refl
      after (Err reason) s = refl

  pub channels_before : (at : ℕ) (store : List ℕ) (width : ℕ) → channels_of rule (pre ++ src) (length pre + at) store width ≡ later_by (length pre) (channels_of rule src at store width)
  unfolding channels_of
  channels_before at store width =
      told_run (chans_turn rule src width) (chans_turn rule (pre ++ src) width) chans_out chans_out chans_later (later_by (length pre)) (chans_turns width) (λ x. refl) 5 (chans at 0 store)

-- ---- A flat part, by a rule of which the same holds at missing bytes and at 1,1,1,n

abbrev pub flat_later : ℕ → Flat → Flat
flat_later n x = flat (n + x.at) x.place x.wanted x.repeats x.store

pub record FlatBefore (rule : FlatRule) : Type 0 where
  pub missing : (pre src : List ℕ) (x : Flat) → rule.missing (pre ++ src) (flat_later (length pre) x) ≡ rule.missing src x
  pub ones : (pre src : List ℕ) (x : Flat) → rule.ones (pre ++ src) (flat_later (length pre) x) ≡ told (flat_later (length pre)) (later_by (length pre)) (rule.ones src x)

four_later : (pre src : List ℕ) (at : ℕ) (store : List ℕ) (place : ℕ) → four_to (pre ++ src) (length pre + at) store place ≡ four_to src at store place
unfolding four_to
four_later pre src at store place =
    let size = length-append pre src in
    let m : length (pre ++ src) - (length pre + at) ≡ length src - at = omega arith in
    rw (m, bytes_later pre src at (min 4 (length src - at)))

repeat_later : (pre src : List ℕ) (at : ℕ) → is_repeat (pre ++ src) (length pre + at) ≡ is_repeat src at
unfolding is_repeat
repeat_later pre src at = rw (add_assoc, add_assoc, byte_later pre src at, byte_later pre src (at + 1), byte_later pre src (at + 2))

-- the choices of a flat turn, in other words
told_picks : {S T A B : Type 0} (f : S → T) (g : A → B) (a b c : Bool) (w x y z : Turn S A)
    → pick a (pick b (told f g w) (pick c (told f g x) (told f g y))) (told f g z) ≡ told f g (pick a (pick b w (pick c x y)) z)
told_picks f g false b c w x y z = refl
told_picks f g true true c w x y z = refl
told_picks f g true false true w x y z = refl
told_picks f g true false false w x y z = refl

module _ (rule : FlatRule) (on : OnesOnward rule) (before : FlatBefore rule) (pre src : List ℕ) where
  flat_turns : (x : Flat) → flat_turn rule (pre ++ src) (flat_later (length pre) x) ≡ told (flat_later (length pre)) (later_by (length pre)) (flat_turn rule src x)
  unfolding flat_turn
  flat_turns x =
      let next : length pre + x.at + 4 ≡ length pre + (x.at + 4) = omega arith in
      rw (next, past_end pre src (x.at + 4), repeat_later pre src x.at, before.missing pre src x, before.ones pre src x, four_later pre src x.at x.store x.place)
      (told_picks (flat_later (length pre)) (later_by (length pre)) (ltb 0 x.wanted) (ltb (length src) (x.at + 4)) (is_repeat src x.at)
      (halt (Err BytesEnd, rule.missing src x)) (rule.ones src x) (more (ordinary (stored src x))) (halt (Ok x.at, x.store)))

  pub flat_before : (at : ℕ) (store : List ℕ) (start wanted : ℕ) → flat_of rule (pre ++ src) (length pre + at) store start wanted ≡ later_by (length pre) (flat_of rule src at store start wanted)
  unfolding flat_of
  flat_before at store start wanted =
      let size = length-append pre src in
      enough_turns (flat_turn rule (pre ++ src)) flat_out flat_out (λ y. length (pre ++ src) - y.at) (flat_falls rule on (pre ++ src)) (length (pre ++ src) + 1) (length src + 1) (flat (length pre + at) start wanted 0 store) (omega arith) (omega arith)
      ∙ told_run (flat_turn rule src) (flat_turn rule (pre ++ src)) flat_out flat_out (flat_later (length pre)) (later_by (length pre)) flat_turns (λ x. refl) (length src + 1) (flat at start wanted 0 store)

-- ---- The row

abbrev kind_later : ℕ → Kind → Kind
kind_later n kind.Missing = kind.Missing
kind_later n kind.Flat = kind.Flat
kind_later n (kind.Pixel next) = kind.Pixel (n + next)
kind_later n (kind.Channels next) = kind.Channels (n + next)

kind_picks : (n : ℕ) (a b c d : Bool) (p : ℕ)
    → pick a kind.Missing (pick b (pick c kind.Missing (pick d (kind.Channels (n + p)) (kind.Pixel (n + p)))) kind.Flat)
    ≡ kind_later n (pick a kind.Missing (pick b (pick c kind.Missing (pick d (kind.Channels p) (kind.Pixel p))) kind.Flat))
kind_picks n true b c d p = refl
kind_picks n false false c d p = refl
kind_picks n false true true d p = refl
kind_picks n false true false true p = refl
kind_picks n false true false false p = refl

kind_before : (pre src : List ℕ) (at : ℕ) → kind_of (pre ++ src) (length pre + at) ≡ kind_later (length pre) (kind_of src at)
unfolding kind_of
kind_before pre src at =
    let next : length pre + at + 4 ≡ length pre + (at + 4) = omega arith in
    rw (next, at_end pre src at, past_end pre src (at + 4), byte_later pre src at, add_assoc, add_assoc, byte_later pre src (at + 1), byte_later pre src (at + 2))
    (kind_picks (length pre) (leb (length src) at) (eqb (get_or src at 0) 2) (ltb (length src) (at + 4)) (is_mark (get_or src (at + 1) 0) (get_or src (at + 2) 0)) (at + 4))

pub record PartsBefore (parts : RowParts) : Type 0 where
  pub start : (pre src : List ℕ) (at : ℕ) (store : List ℕ) → parts.start (pre ++ src) (length pre + at) store ≡ parts.start src at store
  pub flat : (pre src : List ℕ) (at : ℕ) (store : List ℕ) (start wanted : ℕ) → parts.flat (pre ++ src) (length pre + at) store start wanted ≡ later_by (length pre) (parts.flat src at store start wanted)
  pub mark : (pre src : List ℕ) (at width : ℕ) → parts.mark (pre ++ src) (length pre + at) width ≡ parts.mark src at width
  pub channels : (pre src : List ℕ) (at : ℕ) (store : List ℕ) (width : ℕ) → parts.channels (pre ++ src) (length pre + at) store width ≡ later_by (length pre) (parts.channels src at store width)

pub row_before : (parts : RowParts) → PartsBefore parts → Before (row_by parts)
unfolding row_by
row_before parts before pre src at store width = go (is_flat_width width) refl
  where
    by_kind : (k : Kind) (s : List ℕ) → rest_by parts (pre ++ src) (length pre + at) width (kind_later (length pre) k) s ≡ later_by (length pre) (rest_by parts src at width k s)
    by_kind kind.Missing s = refl
    by_kind kind.Flat s = before.flat pre src at s 0 width
    by_kind (kind.Pixel next) s = before.flat pre src next s 4 (width - 1)
    by_kind (kind.Channels next) s = rw (before.mark pre src at width, before.channels pre src next s width) (either (parts.mark src at width))
      where
        either : (b : Bool) → pick b (later_by (length pre) (parts.channels src next s width)) (Err BrokenRow, s) ≡ later_by (length pre) (pick b (parts.channels src next s width) (Err BrokenRow, s))
        either true = refl
        either false = refl

    go : (b : Bool) → is_flat_width width ≡ b → row_by parts (pre ++ src) (length pre + at) store width ≡ later_by (length pre) (row_by parts src at store width)
    go true e = simp e (before.flat pre src at store 0 width)
    go false e = simp e (rw (kind_before pre src at, before.start pre src at store) (by_kind (kind_of src at) (parts.start src at store)))

-- ---- Either reading

count_before : (reading : Reading) → CountBefore (count_rule reading)
unfolding crate_count document_count
count_before Crate pre src at done width = rw (byte_later pre src at)
count_before Document pre src at done width =
    let size = length-append pre src in
    let left : behind (pre ++ src) (length pre + at) ≡ behind src at = omega arith in
    rw (byte_later pre src at, left)

ones_before : (pre src : List ℕ) (x : Flat) → document_ones (pre ++ src) (flat_later (length pre) x) ≡ told (flat_later (length pre)) (later_by (length pre)) (document_ones src x)
unfolding document_ones
ones_before pre src x =
    let next : length pre + x.at + 4 ≡ length pre + (x.at + 4) = omega arith in
    rw (add_assoc, byte_later pre src (x.at + 3), next) (either (ltb x.place 4) (ltb x.wanted (times_of src x)))
  where
    Stop : Turn Flat (Taken × List ℕ)
    Stop = halt (Err BrokenRow, x.store)

    On : Turn Flat (Taken × List ℕ)
    On = more (repeated x (times_of src x))

    either : (a b : Bool) → pick a Stop (pick b Stop (told (flat_later (length pre)) (later_by (length pre)) On)) ≡ told (flat_later (length pre)) (later_by (length pre)) (pick a Stop (pick b Stop On))
    either true b = refl
    either false true = refl
    either false false = refl

flat_rule_before : (reading : Reading) → FlatBefore (flat_rule reading)
unfolding crate_flat document_flat
flat_rule_before Crate = record {
  missing = λ pre src x. four_later pre src x.at x.store x.place;
  ones = λ pre src x. rw (four_later pre src x.at x.store x.place) refl;
}
flat_rule_before Document = record { missing = λ pre src x. refl; ones = ones_before }

start_before : (reading : Reading) (pre src : List ℕ) (at : ℕ) (store : List ℕ) → start_of reading (pre ++ src) (length pre + at) store ≡ start_of reading src at store
unfolding crate_start early document_start
start_before Crate pre src at store =
    let size = length-append pre src in
    let next : length pre + at + 1 ≡ length pre + (at + 1) = omega arith in
    let m : length (pre ++ src) - (length pre + (at + 1)) ≡ length src - (at + 1) = omega arith in
    rw (kind_before pre src at, next, m, byte_later pre src at, bytes_later pre src (at + 1) (min 2 (length src - (at + 1)))) (by_kind (kind_of src at) _)
  where
    by_kind : (k : Kind) (s : List ℕ) → proved (pre ++ src) (length pre + at) (kind_later (length pre) k) s ≡ proved src at k s
    by_kind kind.Missing s = refl
    by_kind kind.Flat s = refl
    by_kind (kind.Pixel next) s = rw (add_assoc, byte_later pre src at, byte_later pre src (at + 3))
    by_kind (kind.Channels next) s = refl
start_before Document pre src at store = rw (kind_before pre src at) (by_kind (kind_of src at))
  where
    by_kind : (k : Kind) → whole_pixel (pre ++ src) (length pre + at) (kind_later (length pre) k) store ≡ whole_pixel src at k store
    by_kind kind.Missing = refl
    by_kind kind.Flat = refl
    by_kind (kind.Pixel next) = rw (bytes_later pre src at 4)
    by_kind (kind.Channels next) = refl

mark_before : (reading : Reading) (pre src : List ℕ) (at width : ℕ) → mark_of reading (pre ++ src) (length pre + at) width ≡ mark_of reading src at width
unfolding document_mark
mark_before Crate pre src at width = refl
mark_before Document pre src at width = rw (add_assoc, add_assoc, byte_later pre src (at + 2), byte_later pre src (at + 3))

pub reading_before : (reading : Reading) → Before (row_of reading)
unfolding row_of parts_of
reading_before reading =
    row_before (parts_of reading) (record {
      start = start_before reading;
      flat = flat_before (flat_rule reading) (reading_onward reading) (flat_rule_before reading);
      mark = mark_before reading;
      channels = channels_before (count_rule reading) (count_before reading);
    })

-- ---- Before and behind

pub anywhere : (rule : RowRule) → Before rule → Behind rule → Anywhere rule
anywhere rule before behind pre src rest at store width settled = before pre (src ++ rest) at store width ∙ rw (behind src rest at store width settled)

pub reading_anywhere : (reading : Reading) → Anywhere (row_of reading)
reading_anywhere reading = anywhere (row_of reading) (reading_before reading) (reading_behind reading)
