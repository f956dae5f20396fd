-- How few bytes hold the rows of a picture, by the crate reading and by the document reading.
use Rattle.std.specs.Prelude.{ℕ, ◌+◌, ◌*◌, ◌-◌, ◌/◌, ◌<◌, List, get_or, ltb}
use Rattle.steps.specs.Loop.{pick}
use Rattle.rows_read.specs.Row.{is_flat_width}

-- each of them is a byte
abbrev pub AreBytes : List ℕ → Type 0
AreBytes bytes = (i : ℕ) → get_or bytes i 0 < 256

-- how many counts a channel takes at least: one is for at most 127 of its bytes, and the last of all, whose bytes may be missing, for at most 128
abbrev pub counts_of : ℕ → ℕ
counts_of width = (width + 125) / 127

-- a coded row: the mark, and for each of these counts in each channel the count and a byte
abbrev pub coded_least : ℕ → ℕ
coded_least width = 4 + 8 * counts_of width

-- four bytes for each pixel of a flat row; where rows may be coded, the last of them may lack one
abbrev pub least_of : ℕ → ℕ → ℕ
least_of width height = pick (is_flat_width width) (height * (4 * width)) (height * coded_least width - 1)

-- ---- By the document reading, which copies pixels

-- a row: a pixel, a 1,1,1,n for at most 255 copies of it, and one directly behind that for at most 255 times 256; a coded row takes 12 too
abbrev pub row_least : ℕ → ℕ
row_least width = pick (ltb width 2) 4 (pick (ltb width 257) 8 12)

abbrev pub document_least : ℕ → ℕ → ℕ
document_least width height = height * row_least width
