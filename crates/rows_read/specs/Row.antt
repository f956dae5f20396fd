-- One row (RULES 4.2 to 4.4): the kind of row, and the row store after it, over what a reading does with its parts.
use Rattle.std.specs.Prelude.{ℕ, ◌+◌, ◌-◌, ◌*◌, min, List, Bool, true, not, ◌&&◌, ◌⊎◌, ◌≡◌, length, get_or, set, ltb, leb, eqb}
use Rattle.steps.specs.Loop.{pick}
use Rattle.steps.specs.Place.{bytes_from, spread}
use Rattle.steps.specs.Width.{is_coded}
use Rattle.channels_read.specs.Channel.{count_rule}
use Rattle.channels_read.specs.Channels.{channels_of}
use Rattle.flat_read.specs.Flat.{flat_rule, flat_of}
use Rattle.steps.specs.Answer.{Taken}
use Rattle.std.specs.Prelude.{Err}
use Rattle.steps.specs.declared.refusal.Reason.TheVariants.{BrokenRow, BytesEnd}
use Rattle.steps.specs.declared.Reading.{Reading}
use Rattle.steps.specs.declared.Reading.TheVariants.{Crate, Document}
use Rattle.rows_read.specs.declared.kind.Kind.{Kind}
use Rattle.rows_read.specs.declared.kind.Kind.TheVariants.{Missing, Flat, Pixel, Channels}

-- a reading of rows. Of the input, a place in it, the row store and the width: the next place, or why the row is at fault; and the row store afterwards
abbrev pub RowRule : Type 0
RowRule = List ℕ → ℕ → List ℕ → ℕ → Taken × List ℕ

-- ---- The kind of row, in any reading

-- "Widths 1 to 7 and over 32,767 are flat rows.": those that are not coded
unfoldable pub is_flat_width : ℕ → Bool
is_flat_width width = not (is_coded width)

-- "if the second isn't 2 or the third is 128 or more, the four are pixel 0 .. Else the row is four channels"
unfoldable pub is_mark : ℕ → ℕ → Bool
is_mark second third = eqb second 2 && ltb third 128

-- At other widths: "a first byte other than 2 is put back and the row is flat. After a 2, three bytes are taken, a missing one being refusal 9"
unfoldable pub kind_of : List ℕ → ℕ → Kind
kind_of src at =
    pick (leb (length src) at) Missing
    (pick (eqb (get_or src at 0) 2)
    (pick (ltb (length src) (at + 4)) Missing
    (pick (is_mark (get_or src (at + 1) 0) (get_or src (at + 2) 0)) (Channels (at + 4)) (Pixel (at + 4))))
    Flat)

-- ---- What a reading does with the parts of a row

pub record RowParts : Type 0 where
  -- the row store after the start of a row, from its place on
  pub start : List ℕ → ℕ → List ℕ → List ℕ
  -- a flat part: the input, the next place in it, the row store, the byte of the store where the part starts, and how many pixels are wanted
  pub flat : List ℕ → ℕ → List ℕ → ℕ → ℕ → Taken × List ℕ
  -- whether the mark at a place will do for rows of that width
  pub mark : List ℕ → ℕ → ℕ → Bool
  -- what comes after a mark
  pub channels : RowRule

-- after a pixel 0 "the rest is a flat part of w - 1 pixels", from byte 4 of the store on; 14 "for a wrong mark width"
abbrev pub rest_by : RowParts → List ℕ → ℕ → ℕ → Kind → List ℕ → Taken × List ℕ
rest_by parts src at width Missing store = (Err BytesEnd, store)
rest_by parts src at width Flat store = parts.flat src at store 0 width
rest_by parts src at width (Pixel next) store = parts.flat src next store 4 (width - 1)
rest_by parts src at width (Channels next) store = pick (parts.mark src at width) (parts.channels src next store width) (Err BrokenRow, store)

-- the row from a place of the input on
unfoldable pub row_by : RowParts → RowRule
row_by parts src at store width =
    pick (is_flat_width width) (parts.flat src at store 0 width) (rest_by parts src at width (kind_of src at) (parts.start src at store))

-- ---- The crate reading

-- "Of four bytes that start with 2, the second and third go to places 1 and 2 of the store as they are read": those that are there
unfoldable pub early : List ℕ → ℕ → List ℕ → List ℕ
early src at store = pick (eqb (get_or src at 0) 2) (spread 1 store 1 (bytes_from src (at + 1) (min 2 (length src - (at + 1))))) store

-- "the first and fourth to places 0 and 3 only if the row proves flat"
abbrev pub proved : List ℕ → ℕ → Kind → List ℕ → List ℕ
proved src at Missing store = store
proved src at Flat store = store
proved src at (Pixel next) store = set (set store 0 (get_or src at 0)) 3 (get_or src (at + 3) 0)
proved src at (Channels next) store = store

unfoldable pub crate_start : List ℕ → ℕ → List ℕ → List ℕ
crate_start src at store = proved src at (kind_of src at) (early src at store)

-- "the mark's width is not compared with the header's"
abbrev pub crate_mark : List ℕ → ℕ → ℕ → Bool
crate_mark src at width = true

-- ---- The document reading

-- "Only whole flat pixels" enter the row store, "no mark": pixel 0 of a row that starts with 2
abbrev pub whole_pixel : List ℕ → ℕ → Kind → List ℕ → List ℕ
whole_pixel src at Missing store = store
whole_pixel src at Flat store = store
whole_pixel src at (Pixel next) store = spread 1 store 0 (bytes_from src at 4)
whole_pixel src at (Channels next) store = store

unfoldable pub document_start : List ℕ → ℕ → List ℕ → List ℕ
document_start src at store = whole_pixel src at (kind_of src at) store

-- the mark's width must be that of the stored row
unfoldable pub document_mark : List ℕ → ℕ → ℕ → Bool
document_mark src at width = eqb (get_or src (at + 2) 0 * 256 + get_or src (at + 3) 0) width

-- ---- Either reading

abbrev pub start_of : Reading → List ℕ → ℕ → List ℕ → List ℕ
start_of Crate = crate_start
start_of Document = document_start

abbrev pub mark_of : Reading → List ℕ → ℕ → ℕ → Bool
mark_of Crate = crate_mark
mark_of Document = document_mark

unfoldable pub parts_of : Reading → RowParts
parts_of reading = record { start = start_of reading; flat = flat_of (flat_rule reading); mark = mark_of reading; channels = channels_of (count_rule reading) }

unfoldable pub row_of : Reading → RowRule
row_of reading = row_by (parts_of reading)

abbrev pub crate_row : RowRule
crate_row = row_of Crate

abbrev pub document_row : RowRule
document_row = row_of Document

-- the numbers by which a reading refuses a row: 9, and 25 at a pixel 1,1,1,n of a flat part in the crate reading, 14 in the document reading
abbrev pub other_fault : Reading → ℕ
other_fault Crate = 25
other_fault Document = 14

abbrev pub RowFault : Reading → ℕ → Type 0
RowFault reading number = (number ≡ 9) ⊎ (number ≡ other_fault reading)
