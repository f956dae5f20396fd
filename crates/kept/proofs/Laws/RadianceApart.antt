-- Where the document and the crate differ: small inputs, each by the document, by the crate reading and by the document reading, all three computed.
use mathlib.Core.List.{List, [], ◌∷◌}
use mathlib.Core.Option.{none, some}
use mathlib.Core.Path.{◌≡◌, refl}
use Prim.Native.Nat.{ℕ, ◌*◌}
use lib.ListN.{replicate}
use Rattle.steps.specs.Loop.{run}
use Rattle.steps.specs.Place.{bytes_from, spread}
use Rattle.steps.specs.Answer.{Taken}
use Rattle.std.specs.Prelude.{Ok, Err}
use Rattle.steps.specs.declared.refusal.Reason.TheVariants.{BrokenRow, BytesEnd, OldRun}
use Rattle.channels_read.specs.Channel.{channel_of, channel_turn, crate_count, document_count, is_run, span_bytes, span_length, span_of, span_taken}
use Rattle.flat_read.specs.Flat.{crate_flat, document_flat, document_ones, copies_to, flat_of, flat_turn, four_to, is_repeat}
use Rattle.channels_read.specs.Channels.{channels_of, chans_turn}
use Rattle.steps.specs.Width.{is_coded}
use Rattle.pixel.specs.declared.Rgbe.{Rgbe}
use Rattle.rows_read.specs.Row.{is_flat_width, is_mark, kind_of, early, row_by, crate_start, document_start, document_mark, parts_of, row_of, crate_row, document_row}
use Rattle.kept.specs.Radiance.{rgbe, Found, is_over, span, spans, components, past, coded, is_old_run, meaning, flat_from, is_new, scanline, flat_bytes}

-- w pixels are wanted of these bytes, and the store is 0: what the document finds, and what the crate reading and the document reading do
abbrev Apart : ℕ → List ℕ → Found (List Rgbe) → Taken × List ℕ → Taken × List ℕ → Type 0
Apart w bytes found crate document = (scanline w bytes ≡ found) × (crate_row bytes 0 (replicate (4 * w) 0) w ≡ crate) × (document_row bytes 0 (replicate (4 * w) 0) w ≡ document)

-- ---- Old runs: the crate reading refuses each by 25, its four bytes in the store

-- width 2: by the document pixel 1 is a copy of pixel 0
pub one_copy : Apart 2 (10 ∷ 10 ∷ 10 ∷ 129 ∷ 1 ∷ 1 ∷ 1 ∷ 1 ∷ [])
    (some (rgbe 10 10 10 129 ∷ rgbe 10 10 10 129 ∷ [], []))
    (Err OldRun, flat_bytes (rgbe 10 10 10 129 ∷ rgbe 1 1 1 1 ∷ []))
    (Ok 8, flat_bytes (replicate 2 (rgbe 10 10 10 129)))
unfolding scanline is_new flat_from meaning is_old_run row_of row_by parts_of is_flat_width is_coded flat_of run flat_turn crate_flat document_flat document_ones copies_to is_repeat four_to bytes_from spread
one_copy = (refl, refl, refl)

-- sample sky 5: by the document pixels 2 and 3 are copies of pixel 1
pub sky_five : Apart 4 (10 ∷ 10 ∷ 10 ∷ 129 ∷ 20 ∷ 20 ∷ 20 ∷ 129 ∷ 1 ∷ 1 ∷ 1 ∷ 2 ∷ [])
    (some (rgbe 10 10 10 129 ∷ replicate 3 (rgbe 20 20 20 129), []))
    (Err OldRun, flat_bytes (rgbe 10 10 10 129 ∷ rgbe 20 20 20 129 ∷ rgbe 1 1 1 2 ∷ rgbe 0 0 0 0 ∷ []))
    (Ok 12, flat_bytes (rgbe 10 10 10 129 ∷ replicate 3 (rgbe 20 20 20 129)))
unfolding scanline is_new flat_from meaning is_old_run row_of row_by parts_of is_flat_width is_coded flat_of run flat_turn crate_flat document_flat document_ones copies_to is_repeat four_to bytes_from spread
sky_five = (refl, refl, refl)

-- a pixel between two old runs: each n counts once
pub runs_apart : Apart 4 (10 ∷ 10 ∷ 10 ∷ 129 ∷ 1 ∷ 1 ∷ 1 ∷ 1 ∷ 20 ∷ 20 ∷ 20 ∷ 129 ∷ 1 ∷ 1 ∷ 1 ∷ 1 ∷ [])
    (some (rgbe 10 10 10 129 ∷ rgbe 10 10 10 129 ∷ rgbe 20 20 20 129 ∷ rgbe 20 20 20 129 ∷ [], []))
    (Err OldRun, flat_bytes (rgbe 10 10 10 129 ∷ rgbe 1 1 1 1 ∷ rgbe 0 0 0 0 ∷ rgbe 0 0 0 0 ∷ []))
    (Ok 16, flat_bytes (rgbe 10 10 10 129 ∷ rgbe 10 10 10 129 ∷ rgbe 20 20 20 129 ∷ rgbe 20 20 20 129 ∷ []))
unfolding scanline is_new flat_from meaning is_old_run row_of row_by parts_of is_flat_width is_coded flat_of run flat_turn crate_flat document_flat document_ones copies_to is_repeat four_to bytes_from spread
runs_apart = (refl, refl, refl)

-- an old run directly ahead, though of n = 0: the next one counts for 256 times more, and passes the end
pub run_ahead : Apart 3 (10 ∷ 10 ∷ 10 ∷ 129 ∷ 1 ∷ 1 ∷ 1 ∷ 0 ∷ 1 ∷ 1 ∷ 1 ∷ 1 ∷ [])
    none
    (Err OldRun, flat_bytes (rgbe 10 10 10 129 ∷ rgbe 1 1 1 0 ∷ rgbe 0 0 0 0 ∷ []))
    (Err BrokenRow, flat_bytes (rgbe 10 10 10 129 ∷ rgbe 0 0 0 0 ∷ rgbe 0 0 0 0 ∷ []))
unfolding scanline is_new flat_from meaning is_old_run row_of row_by parts_of is_flat_width is_coded flat_of run flat_turn crate_flat document_flat document_ones copies_to is_repeat four_to bytes_from spread
run_ahead = (refl, refl, refl)

-- no pixel before an old run: by the document there is no scanline
pub none_before : Apart 1 (1 ∷ 1 ∷ 1 ∷ 0 ∷ [])
    none
    (Err OldRun, 1 ∷ 1 ∷ 1 ∷ 0 ∷ [])
    (Err BrokenRow, replicate 4 0)
unfolding scanline is_new flat_from meaning is_old_run row_of row_by parts_of is_flat_width is_coded flat_of run flat_turn crate_flat document_flat document_ones copies_to is_repeat four_to bytes_from spread
none_before = (refl, refl, refl)

-- ---- New run-length scanlines of width 8; by the document none of these is one

-- a count past the row's end
pub past_the_end : Apart 8 (2 ∷ 2 ∷ 0 ∷ 8 ∷ 255 ∷ 128 ∷ 136 ∷ 64 ∷ 136 ∷ 32 ∷ 136 ∷ 129 ∷ [])
    none
    (Ok 12, flat_bytes (replicate 8 (rgbe 128 64 32 129)))
    (Err BrokenRow, replicate 32 0)
unfolding scanline is_new coded past components spans span is_over row_of row_by parts_of crate_start early document_start document_mark is_flat_width is_coded kind_of is_mark channels_of run chans_turn channel_of channel_turn crate_count document_count span_of span_bytes span_taken span_length is_run bytes_from spread
past_the_end = (refl, refl, refl)

-- a count of 0: both readings pass over it
pub count_zero : Apart 8 (2 ∷ 2 ∷ 0 ∷ 8 ∷ 0 ∷ 136 ∷ 128 ∷ 136 ∷ 64 ∷ 136 ∷ 32 ∷ 136 ∷ 129 ∷ [])
    none
    (Ok 13, flat_bytes (replicate 8 (rgbe 128 64 32 129)))
    (Ok 13, flat_bytes (replicate 8 (rgbe 128 64 32 129)))
unfolding scanline is_new coded past components spans span is_over row_of row_by parts_of crate_start early document_start document_mark is_flat_width is_coded kind_of is_mark channels_of run chans_turn channel_of channel_turn crate_count document_count span_of span_bytes span_taken span_length is_run bytes_from spread
count_zero = (refl, refl, refl)

-- another length in the mark
pub other_length : Apart 8 (2 ∷ 2 ∷ 0 ∷ 1 ∷ 136 ∷ 128 ∷ 136 ∷ 64 ∷ 136 ∷ 32 ∷ 136 ∷ 129 ∷ [])
    none
    (Ok 12, flat_bytes (replicate 8 (rgbe 128 64 32 129)))
    (Err BrokenRow, replicate 32 0)
unfolding scanline is_new coded past components spans span is_over row_of row_by parts_of crate_start early document_start document_mark is_flat_width is_coded kind_of is_mark channels_of run chans_turn channel_of channel_turn crate_count document_count span_of span_bytes span_taken span_length is_run bytes_from spread
other_length = (refl, refl, refl)

-- a missing byte
pub missing_byte : Apart 8 (2 ∷ 2 ∷ 0 ∷ 8 ∷ 136 ∷ 128 ∷ 136 ∷ 64 ∷ 136 ∷ 32 ∷ 136 ∷ [])
    none
    (Ok 11, flat_bytes (replicate 8 (rgbe 128 64 32 0)))
    (Err BytesEnd, flat_bytes (replicate 8 (rgbe 128 64 32 0)))
unfolding scanline is_new coded past components spans span is_over row_of row_by parts_of crate_start early document_start document_mark is_flat_width is_coded kind_of is_mark channels_of run chans_turn channel_of channel_turn crate_count document_count span_of span_bytes span_taken span_length is_run bytes_from spread
missing_byte = (refl, refl, refl)
