-- Each refusal is given exactly when the rules say (RULES 2.3 to 2.5): each call's checks, in its order.
use Rattle.std.specs.Prelude.{ℕ, ◌*◌, List, [], ◌∷◌, ◌++◌, length, ltb, Float}
use Rattle.steps.specs.Answer.{Check, check}
use Rattle.steps.specs.declared.Reading.{Reading}
use Rattle.header.specs.Head.{head_checks, head_in}
use Rattle.rows_read.specs.Row.{RowRule}
use Rattle.reader.specs.Samples.{SampleRule}
use Rattle.reader.specs.Frame.{stored_of, cleared, rows_of, fault_of}
use Rattle.reader.specs.Read.{frame_checks}
use Rattle.frames_written.specs.Samples.{first_bright}
use Rattle.frames_written.specs.Frame.{frame_of, file_of}
use Rattle.writer.specs.Write as writer

-- the reader, with the header by a reading and by any rule for a row and for a pixel: 1, 15 or 16, and 2 to 8 before anything is written, and then the number of the first row at fault, 9 or 25 in the crate reading, 9 or 14 in the document reading
unfoldable pub read_checks : Reading → RowRule → SampleRule → List ℕ → ℕ → ℕ → List Float → List ℕ → List Check
read_checks reading row_rule rule bytes widest highest out store =
    let head = head_in reading bytes in
    let rows = rows_of row_rule rule bytes (stored_of head) head.taken out (cleared (stored_of head).long store) in
    head_checks reading bytes widest highest ++ (frame_checks head out store ++ fault_of rows.0 ∷ [])

-- the length of a frame of samples: 7, 10, 11, 12
unfoldable pub length_checks : ℕ → ℕ → List Float → List Check
length_checks w h samples = writer.frame_checks w h (length samples) 3 ++ check 12 (ltb (first_bright samples 0 (w * h)) (w * h)) ∷ []

-- the writer from samples: 7, 10, 11, 12, 13
unfoldable pub write_checks : ℕ → ℕ → List Float → List ℕ → List Check
write_checks w h samples out = length_checks w h samples ++ check 13 (ltb (length out) (length (file_of samples w h))) ∷ []

-- the writer from four-byte pixels: 7, 10, 11, 13. Their length has 7, 10, 11, and the worst length 7 and 10 (`frame_checks`, `size_checks`)
unfoldable pub write4_checks : ℕ → ℕ → List ℕ → List ℕ → List Check
write4_checks w h px out = writer.frame_checks w h (length px) 4 ++ check 13 (ltb (length out) (length (frame_of px w h))) ∷ []
