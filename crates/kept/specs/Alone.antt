-- Bytes behind those taken: a file that is read is read so whatever stands behind the last byte that was taken.
use Rattle.std.specs.Prelude.{ℕ, ◌<◌, List, ◌≡◌, Float, length}
use Rattle.steps.specs.Answer.{done}
use Rattle.steps.specs.declared.Reading.{Reading}
use Rattle.steps.specs.declared.Reading.TheVariants.{Crate, Document}
use Rattle.header.specs.declared.Head.{Head}
use Rattle.rows_read.specs.Middle.{Alike}
use Rattle.reader.specs.Read.{read_of}

-- What shows that all bytes taken were there. In the crate reading a byte behind them: where none does, the last bytes of a coded row may be missing
-- (RULES 4.8). In the document reading that there is a row: a header alone could go on behind the end of the bytes.
abbrev pub Seen : Reading → List ℕ → Head → Type 0
Seen Crate bytes head = head.taken < length bytes
Seen Document bytes head = 0 < head.height

-- Any other bytes that begin with those taken then give the same answer, the same output and the same row store.
abbrev pub TakenAlone : Reading → Type 0
TakenAlone reading =
    (bytes other : List ℕ) (widest highest : ℕ) (out out' : List Float) (store store' : List ℕ) (head : Head)
    → read_of reading bytes widest highest out store ≡ (done head, out', store') → Seen reading bytes head → Alike head.taken bytes other
    → read_of reading other widest highest out store ≡ (done head, out', store')
