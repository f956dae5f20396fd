-- The cut that the crate reading does not refuse, of a whole file: its last row is coded, and the bytes end inside what that row's last count asks for.
-- And that the document reading refuses every cut.
use Rattle.std.specs.Prelude.{ℕ, ◌+◌, ◌*◌, ◌<◌, ◌≤◌, List, ◌++◌, ◌⊎◌, ◌≡◌, Float, length, take}
use Rattle.steps.specs.Loop.{Turns}
use Rattle.steps.specs.Answer.{Answer, done, refused}
use Rattle.steps.specs.declared.Reading.TheVariants.{Crate, Document}
use Rattle.header.specs.declared.Head.{Head}
use Rattle.header.specs.Head.{header_of}
use Rattle.rows_read.specs.Row.{crate_row, document_row}
use Rattle.rows_read.specs.Cut.{Short, CutRow}
use Rattle.places.specs.Places.{Stored}
use Rattle.reader.specs.Frame.{stored_of, cleared, Rows, rows, row_turn}
use Rattle.reader.specs.Read.{crate_pixel, document_pixel, read_by, read_of}
use Rattle.kept.specs.Lent.{before, RowsRead}

-- after n rows more, from x on, the reader is at y
abbrev pub AfterRows : List ℕ → Stored → ℕ → Rows → Rows → Type 0
AfterRows bytes stored = Turns (row_turn crate_row crate_pixel bytes stored)

pub record CutFile (bytes : List ℕ) (widest highest : ℕ) (out : List Float) (store : List ℕ) : Type 0 where
  -- the checks before the rows pass
  pub head : Head
  pub header : header_of Crate bytes widest highest ≡ done head
  pub room : head.height * (3 * head.width) ≤ length out
  pub some : 0 < head.width
  pub row : 4 * (stored_of head).long ≤ length store
  -- the rows before the last are read
  pub count : ℕ
  pub last : Rows
  pub before : AfterRows bytes (stored_of head) count (rows head.taken 0 (cleared (stored_of head).long store) out) last
  pub is_last : last.row + 1 ≡ (stored_of head).count
  -- and the last is cut
  pub cut : CutRow bytes last.at last.store (stored_of head).long

-- No picture rests on a missing byte, but for that cut: of a file that is read, whose header says a height above 0, a byte is missing there,
-- or whatever is added behind its bytes changes nothing.
abbrev pub WholeOrCut : Type 0
WholeOrCut =
    (bytes : List ℕ) (widest highest : ℕ) (out out' : List Float) (store store' : List ℕ) (head : Head)
    → read_by Crate crate_row crate_pixel bytes widest highest out store ≡ (done head, out', store') → 0 < head.height
    → ((c : CutFile bytes widest highest out store) × Short bytes (stored_of c.head).long c.cut.end)
    ⊎ ((rest : List ℕ) → read_by Crate crate_row crate_pixel (bytes ++ rest) widest highest out store ≡ (done head, out', store'))

-- ---- By the document reading every cut is refused

-- of a file whose header says `own`, the first m bytes end in stored row k: it starts among them, and ends behind them
pub record CutIn (bytes : List ℕ) (own : Head) (store : List ℕ) (m k : ℕ) : Type 0 where
  pub row : k < (stored_of own).count
  pub from : (before document_row bytes (stored_of own).long own.taken (cleared (stored_of own).long store) k).0 ≤ m
  pub behind : m < (before document_row bytes (stored_of own).long own.taken (cleared (stored_of own).long store) (k + 1)).0

-- refusal 9 in row k, with the rows before it in the output as the whole file has them, and the rest of it as lent
pub record RefusedIn (bytes : List ℕ) (own : Head) (out : List Float) (store : List ℕ) (k : ℕ) (left : Answer Head × List Float × List ℕ) : Type 0 where
  pub number : left.0 ≡ refused 9 k
  pub rows : RowsRead document_row document_pixel bytes (stored_of own) own.taken (cleared (stored_of own).long store) k out left.1

-- A file that is read, of which `head.taken` bytes are taken, and a shorter beginning of it that holds the header: it is refused so, in the row in
-- which it ends.
abbrev pub EveryCut : Type 0
EveryCut =
    (bytes : List ℕ) (m widest highest : ℕ) (out out' : List Float) (store store' : List ℕ) (head own : Head)
    → read_of Document bytes widest highest out store ≡ (done head, out', store') → header_of Document bytes widest highest ≡ done own → own.taken ≤ m → m < head.taken
    → (k : ℕ) × CutIn bytes own store m k × RefusedIn bytes own out store k (read_of Document (take m bytes) widest highest out store)
