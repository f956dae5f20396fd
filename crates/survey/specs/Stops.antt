-- How many pixels have the document's light in each power of two.
use Rattle.std.specs.Prelude.{ℕ, zero, suc, ◌+◌, ◌%◌, ◌^◌, max, List, nat_lt, slice_index, slice_set}
use Rattle.steps.specs.Loop.{pick}
use Rattle.steps.specs.declared.Reading.TheVariants.{Document}
use Rattle.pixel.specs.declared.Rgbe.{Rgbe}
use Rattle.pixel.specs.Rgbe.{rgbe_at}
use Rattle.light.specs.Light.{is_black}

-- one where m is p or more
abbrev pub reached : ℕ → ℕ → ℕ
reached m p = pick (nat_lt m p) 0 1

-- how many binary digits a byte has
unfoldable pub digits : ℕ → ℕ
digits m = reached m 1 + reached m 2 + reached m 4 + reached m 8 + (reached m 16 + reached m 32 + reached m 64 + reached m 128)

-- the stop of a pixel, by its largest mantissa: from 2^(stop - 137) to below twice that lies its light; 0 where it is black
unfoldable pub stop_of : Rgbe → ℕ
stop_of q = pick (is_black Document q) 0 (q.e + digits (max (max q.r q.g) q.b))

-- one more at a stop; the counts are below 2^64
abbrev pub one_more : List ℕ → ℕ → List ℕ
one_more counts k = slice_set counts k ((slice_index counts k + 1) % 2 ^ 64)

-- n pixels of the row store more, from byte i on
unfoldable pub stops_of : List ℕ → ℕ → ℕ → List ℕ → List ℕ
stops_of store i zero counts = counts
stops_of store i (suc n) counts = stops_of store (i + 4) n (one_more counts (stop_of (rgbe_at store i)))
