-- The totals over the pixels of a row by a reading, and so, row by row, of a file.
use Rattle.std.specs.Prelude.{◌≡◌, ℕ, zero, suc, ◌+◌, ◌*◌, ◌<◌, Bool, List}
use Rattle.steps.specs.Loop.{pick}
use Rattle.steps.specs.declared.Reading.{Reading}
use Rattle.pixel.specs.declared.Rgbe.{Rgbe}
use Rattle.pixel.specs.Rgbe.{rgbe_at, black}
use Rattle.light.specs.Light.{is_black, is_masked, darker, brighter}
use Rattle.survey.specs.declared.Totals.{Totals}

-- before the first pixel
abbrev pub none : Totals
none = record { black = 0; masked = 0; darkest = black; brightest = black }

-- so many where it is so
abbrev pub times : Bool → ℕ → ℕ
times b n = pick b n 0

-- n pixels more that are the same
unfoldable pub seen_times : Reading → ℕ → Rgbe → Totals → Totals
seen_times reading n q t = record {
  black = t.black + times (is_black reading q) n;
  masked = t.masked + times (is_masked reading q) n;
  darkest = darker reading t.darkest q;
  brightest = brighter reading t.brightest q;
}

-- one pixel more
abbrev pub seen : Reading → Rgbe → Totals → Totals
seen reading = seen_times reading 1

-- the n pixels of the row store from byte i on are the same
abbrev pub Alike : List ℕ → ℕ → ℕ → Type 0
Alike store i n = (k : ℕ) → k < n → rgbe_at store (i + 4 * k) ≡ rgbe_at store i

-- n pixels of the row store more, from byte i on
unfoldable pub survey_of : Reading → List ℕ → ℕ → ℕ → Totals → Totals
survey_of reading store i zero t = t
survey_of reading store i (suc n) t = survey_of reading store (i + 4) n (seen reading (rgbe_at store i) t)
