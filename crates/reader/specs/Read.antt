-- What the whole reader answers, and what it leaves in the output and the row store.
use Rattle.std.specs.Prelude.{ℕ, ◌*◌, List, [], ◌∷◌, ◌++◌, ◌≡◌, length, ltb, eqb, Float, Option, Result}
use Rattle.steps.specs.Amount.{amount_of}
use Rattle.steps.specs.Answer.{Answer, done, refused, refuse, paper_of, Check, check, checked}
use Rattle.steps.specs.declared.refusal.Refusal.{Refusal}
use Rattle.steps.specs.declared.Reading.{Reading}
use Rattle.steps.specs.declared.Reading.TheVariants.{Crate, Document}
use Rattle.pixel.specs.Rgbe.{units_of, pixel_of}
use Rattle.header.specs.declared.Head.{Head}
use Rattle.header.specs.Head.{head_checks, head_in, taking}
use Rattle.rows_read.specs.Row.{RowRule, row_of}
use Rattle.reader.specs.Samples.{SampleRule}
use Rattle.reader.specs.Frame.{Left, stored_of, cleared, rows_of}

-- ---- By any rule for a row and for a pixel

-- the checks 6 to 8, of the sizes that the header says; "row store shorter than 4w bytes" for stored rows of w
abbrev pub frame_checks : Head → List Float → List ℕ → List Check
frame_checks head out store =
    check 6 (ltb (length out) (head.height * (3 * head.width)))
    ∷ check 7 (eqb head.width 0)
    ∷ check 8 (ltb (length store) (4 * (stored_of head).long))
    ∷ []

-- what the header says, with the count of all bytes taken
abbrev pub answer_of : Head → Answer ℕ → Answer Head
answer_of head (done taken) = done (taking head taken)
answer_of head (refused number place) = refused number place

-- the answer, the output and the row store after the rows
abbrev pub framed : Head → Left → Answer Head × List Float × List ℕ
framed head left = (answer_of head left.0, left.1, left.2)

-- the header's checks and 6 to 8 in their order, before anything is written; then the rows
unfoldable pub read_by : Reading → RowRule → SampleRule → List ℕ → ℕ → ℕ → List Float → List ℕ → Answer Head × List Float × List ℕ
read_by reading row_rule rule bytes widest highest out store =
    let head = head_in reading bytes in
    checked (λ n. (refuse n, out, store)) (head_checks reading bytes widest highest ++ frame_checks head out store)
    (framed head (rows_of row_rule rule bytes (stored_of head) head.taken out (cleared (stored_of head).long store)))

-- a call that reads the header by this reading, and the rows by these rules: its answer, the output and the row store afterwards
abbrev pub ReadPromiseBy : Reading → RowRule → SampleRule → List ℕ → ℕ → ℕ → List Float → List ℕ → Result Head Refusal → List Float → List ℕ → Type 0
ReadPromiseBy reading row_rule rule bytes widest highest out store answer out' store' =
    (paper_of answer, out', store') ≡ read_by reading row_rule rule bytes widest highest out store

-- ---- How many samples a frame has: "none" exactly where the Rust's product passes 2^64 - 1

abbrev pub output_size : ℕ → ℕ → Option ℕ
output_size w h = amount_of (w * h * 3)

-- ---- Either reading

unfoldable pub pixel_by : Reading → SampleRule
pixel_by reading q = pixel_of (units_of reading) q

abbrev pub crate_pixel : SampleRule
crate_pixel = pixel_by Crate

abbrev pub document_pixel : SampleRule
document_pixel = pixel_by Document

abbrev pub read_of : Reading → List ℕ → ℕ → ℕ → List Float → List ℕ → Answer Head × List Float × List ℕ
read_of reading = read_by reading (row_of reading) (pixel_by reading)

-- what `reader::read` promises
abbrev pub ReadPromise : Reading → List ℕ → ℕ → ℕ → List Float → List ℕ → Result Head Refusal → List Float → List ℕ → Type 0
ReadPromise reading = ReadPromiseBy reading (row_of reading) (pixel_by reading)
