-- What only the contracts of inner functions cite.
use Rattle.std.specs.Prelude.{ℕ, zero, suc, ◌+◌, ◌*◌, ◌<◌, ◌≤◌, Bool, not, ◌&&◌, List, [], ltb, eqb, Float}
use Rattle.steps.specs.Answer.{Answer, refuse, checked}
use Rattle.places.specs.declared.Line.{Line}
use Rattle.places.specs.Inner.{line_at}
use Rattle.header.specs.declared.Head.{Head}
use Rattle.rows_read.specs.Row.{RowRule}
use Rattle.pixel.specs.Rgbe.{rgbe_at}
use Rattle.reader.specs.Samples.{SampleRule, three}
use Rattle.reader.specs.Frame.{stored_of, cleared, rows_of}
use Rattle.reader.specs.Read.{frame_checks, framed}

-- the samples of n pixels of the row store, from byte i on
unfoldable pub samples_from : SampleRule → List ℕ → ℕ → ℕ → List Float
samples_from rule store i zero = []
samples_from rule store i (suc n) = three (rule (rgbe_at store i)) (samples_from rule store (i + 4) n)

-- each of n pixels of a line has room in an output of so many samples, and its place is one of a picture within the limits
abbrev pub Room : Line → ℕ → ℕ → Type 0
Room line n size =
    (line.first ≤ 4294901760) × (line.stride ≤ 65535) × ((i : ℕ) → i < n → (line_at line i ≤ 4294901760) × (3 * line_at line i + 3 ≤ size))

-- there are pixels, and each lies behind the one before it
abbrev pub is_along : Line → ℕ → Bool
is_along line n = not line.back && (eqb line.stride 1 && ltb 0 n)

-- the checks 6 to 8, and then the rows, of a file whose header says `head`
unfoldable pub frame_answer : RowRule → SampleRule → List ℕ → Head → List Float → List ℕ → Answer Head × List Float × List ℕ
frame_answer row_rule rule bytes head out store =
    checked (λ n. (refuse n, out, store)) (frame_checks head out store)
    (framed head (rows_of row_rule rule bytes (stored_of head) head.taken out (cleared (stored_of head).long store)))
