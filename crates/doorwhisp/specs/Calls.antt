-- What each call leaves in the lent answer and in every other lent list: the promise of the call below it, as eight numbers.
use Rattle.std.specs.Prelude.{ℕ, List, ◌≡◌, Float}
use Rattle.steps.specs.declared.Reading.{Reading}
use Rattle.pixel.specs.Rgbe.{units_of, pixel_of, packed_of}
use Rattle.header.specs.Head.{header_of}
use Rattle.reader.specs.Read.{output_size, read_of}
use Rattle.writer.specs.Write.{length_of, length4_of, worst_answer, write_of, write4_of, expected_size}
use Rattle.numbers.specs.Numbers.{head_values, single, numbers, counted, with_one, with_two}
use Rattle.doorwhisp.specs.Pixels.{pixel, rgbe, samples_of, packed_into}

-- ---- The reader

-- `doorwhisp_read_header`, by `header::read` in the crate reading, and `doorwhisp_read_document_header` in the document reading
abbrev pub ReadHeader : Reading → List ℕ → ℕ → ℕ → List ℕ → Type 0
ReadHeader reading bytes widest highest answer = answer ≡ numbers head_values (header_of reading bytes widest highest)

-- `doorwhisp_read`, by `reader::read` in the crate reading, and `doorwhisp_read_document` in the document reading: the answer, the output and the
-- row store afterwards
abbrev pub Read : Reading → List ℕ → ℕ → ℕ → List Float → List ℕ → List ℕ → List Float → List ℕ → Type 0
Read reading bytes widest highest out store answer out' store' =
    (answer, out', store') ≡ with_two head_values (read_of reading bytes widest highest out store)

-- `doorwhisp_output_buffer_size`, by `reader::output_buffer_size`
abbrev pub OutputBufferSize : ℕ → ℕ → List ℕ → Type 0
OutputBufferSize w h answer = answer ≡ numbers single (counted (output_size w h))

-- ---- The writer

-- `doorwhisp_length`, by `writer::length`
abbrev pub Length : ℕ → ℕ → List Float → List ℕ → Type 0
Length w h samples answer = answer ≡ numbers single (length_of w h samples)

-- `doorwhisp_length4`, by `writer::length4`
abbrev pub Length4 : ℕ → ℕ → List ℕ → List ℕ → Type 0
Length4 w h pixels answer = answer ≡ numbers single (length4_of w h pixels)

-- `doorwhisp_worst`, by `writer::worst`
abbrev pub Worst : ℕ → ℕ → List ℕ → Type 0
Worst w h answer = answer ≡ numbers single (worst_answer w h)

-- `doorwhisp_write`, by `writer::write`: the answer, and the output afterwards
abbrev pub Write : ℕ → ℕ → List Float → List ℕ → List ℕ → List ℕ → Type 0
Write w h samples out answer out' = (answer, out') ≡ with_one single (write_of w h samples out)

-- `doorwhisp_write4`, by `writer::write4`
abbrev pub Write4 : ℕ → ℕ → List ℕ → List ℕ → List ℕ → List ℕ → Type 0
Write4 w h pixels out answer out' = (answer, out') ≡ with_one single (write4_of w h pixels out)

-- `doorwhisp_expected_buffer_size`, by `writer::expected_buffer_size`
abbrev pub ExpectedBufferSize : ℕ → ℕ → List ℕ → Type 0
ExpectedBufferSize w h answer = answer ≡ numbers single (counted (expected_size w h))

-- ---- One pixel

-- `doorwhisp_pixel_from_bytes` and `doorwhisp_document_pixel_from_bytes`, by `pixel::from_bytes`: the samples afterwards
abbrev pub PixelFromBytes : Reading → ℕ → ℕ → ℕ → ℕ → List Float → Type 0
PixelFromBytes reading r g b e samples = samples ≡ samples_of (pixel_of (units_of reading) (rgbe r g b e))

-- `doorwhisp_pixel_to_bytes`, by `pixel::to_bytes`: the number returned, and the bytes afterwards
abbrev pub PixelToBytes : Float → Float → Float → List ℕ → ℕ → List ℕ → Type 0
PixelToBytes r g b bytes number bytes' = (number, bytes') ≡ packed_into bytes (packed_of (pixel r g b))
