-- Worked examples of "Rows read", computed by the definitions.
use mathlib.Core.List.{[], ◌∷◌}
use mathlib.Core.Path.{◌≡◌, refl}
use lib.ListN.{replicate}
use Rattle.steps.specs.Loop.{run}
use Rattle.steps.specs.Place.{bytes_from, spread}
use Rattle.channels_read.specs.Channel.{crate_count, channel_of, channel_turn, is_run, span_bytes, span_length, span_of, span_taken}
use Rattle.std.specs.Prelude.{Ok, Err}
use Rattle.steps.specs.declared.refusal.Reason.TheVariants.{BytesEnd}

-- a count of 128 is 128 literals; the row's end stops them, and the rest stays in the input
pub literals_128 : channel_of crate_count (128 ∷ 7 ∷ 8 ∷ 9 ∷ 9 ∷ []) 0 (replicate 8 0) 1 2 ≡ (Ok 3, 0 ∷ 7 ∷ 0 ∷ 0 ∷ 0 ∷ 8 ∷ 0 ∷ 0 ∷ [])
unfolding channel_of run channel_turn crate_count span_of span_bytes span_taken span_length is_run bytes_from spread
literals_128 = refl

-- a run byte that is missing is read as 0, and not counted as taken
pub missing_run : channel_of crate_count (130 ∷ []) 0 (replicate 8 5) 0 2 ≡ (Ok 1, 0 ∷ 5 ∷ 5 ∷ 5 ∷ 0 ∷ 5 ∷ 5 ∷ 5 ∷ [])
unfolding channel_of run channel_turn crate_count span_of span_bytes span_taken span_length is_run bytes_from spread
missing_run = refl

-- a count of 0 does nothing, and a missing count is refused
pub missing_count : channel_of crate_count (129 ∷ 9 ∷ 0 ∷ []) 0 (replicate 8 5) 3 2 ≡ (Err BytesEnd, 5 ∷ 5 ∷ 5 ∷ 9 ∷ 5 ∷ 5 ∷ 5 ∷ 5 ∷ [])
unfolding channel_of run channel_turn crate_count span_of span_bytes span_taken span_length is_run bytes_from spread
missing_count = refl
