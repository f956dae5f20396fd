-- What lent memory holds after a read, on any bytes and by any rule for a row and for a pixel: "Refusal 9 in row k leaves rows 0 to k-1 in the output
-- and the rest as lent; the row store is as the steps left it. On success, places beyond the result are unchanged."
use Rattle.std.specs.Prelude.{ℕ, zero, suc, ◌+◌, ◌*◌, ◌<◌, List, ◌++◌, ◌≡◌, Float, length, drop}
use Rattle.steps.specs.Answer.{Answer, done, refused, refuse, Check}
use Rattle.steps.specs.declared.Reading.{Reading}
use Rattle.steps.specs.Numbered.{FirstFails}
use Rattle.steps.specs.Answer.{Taken}
use Rattle.std.specs.Prelude.{Ok, Err}
use Rattle.steps.specs.Refusal.{reason_number}
use Rattle.steps.specs.declared.refusal.Reason.{Reason}
use Rattle.header.specs.declared.Head.{Head}
use Rattle.header.specs.Head.{head_checks, head_in}
use Rattle.rows_read.specs.Row.{RowRule}
use Rattle.pixel.specs.Rgbe.{rgbe_at}
use Rattle.reader.specs.Samples.{SampleRule}
use Rattle.places.specs.Places.{Stored}
use Rattle.reader.specs.Frame.{stored_of, cleared, Left}
use Rattle.reader.specs.Read.{frame_checks, framed, read_by}
use Rattle.kept.specs.Back.{pixel}

-- ---- The rows, one after another

-- the place in the input after a row; one at fault takes nothing
abbrev pub onward : Taken → ℕ → ℕ
onward (Ok next) at = next
onward (Err reason) at = at

-- the place in the input and the row store before row k, where the rows start at a place and with a store
unfoldable pub before : RowRule → List ℕ → ℕ → ℕ → List ℕ → ℕ → ℕ × List ℕ
before row_rule bytes long at store zero = (at, store)
before row_rule bytes long at store (suc k) =
    let x = before row_rule bytes long at store k in
    let read = row_rule bytes x.0 x.1 long in
    (onward read.0 x.0, read.1)

-- what the rule says of row k
abbrev pub row_at : RowRule → List ℕ → ℕ → ℕ → List ℕ → ℕ → Taken × List ℕ
row_at row_rule bytes long at store k = let x = before row_rule bytes long at store k in row_rule bytes x.0 x.1 long

-- ---- The output

-- "rows 0 to n-1 in the output and the rest as lent", where `after k` is the row store that row k left
pub record Stand (rule : SampleRule) (stored : Stored) (after : ℕ → List ℕ) (n : ℕ) (lent out : List Float) : Type 0 where
  pub rows : (k i : ℕ) → k < n → i < stored.long → pixel out (stored.place k i) ≡ rule (rgbe_at (after k) (4 * i))
  -- a pixel that is none of these rows'
  pub rest : (p : ℕ) → ((k i : ℕ) → k < n → i < stored.long → p ≡ stored.place k i → ⊥) → pixel out p ≡ pixel lent p
  pub size : length out ≡ length lent

-- no row before row n is at fault, and these rows stand in the output
pub record RowsRead (row_rule : RowRule) (rule : SampleRule) (bytes : List ℕ) (stored : Stored) (at : ℕ) (store : List ℕ) (n : ℕ) (lent out : List Float) : Type 0 where
  pub read : (k : ℕ) → k < n → (row_at row_rule bytes stored.long at store k).0 ≡ Ok (before row_rule bytes stored.long at store (k + 1)).0
  pub stand : Stand rule stored (λ k. (row_at row_rule bytes stored.long at store k).1) n lent out

-- a row that is at fault by that number, and left the row store so
abbrev pub FaultBy : ℕ → List ℕ → Taken × List ℕ → Type 0
FaultBy number store row = (reason : Reason) × (number ≡ reason_number reason) × ((Err reason, store) ≡ row)

-- After the rows. Done: all of them stand, the place is the one after the last, and so is the row store.
-- Refused in row k: rows 0 to k-1 stand; row k is at fault by that number, and the row store is as it left it.
abbrev pub RowsLeft : RowRule → SampleRule → List ℕ → Stored → ℕ → List Float → List ℕ → Answer ℕ → List Float → List ℕ → Type 0
RowsLeft row_rule rule bytes stored at lent store (done next) out' store' =
    RowsRead row_rule rule bytes stored at store stored.count lent out' × ((next, store') ≡ before row_rule bytes stored.long at store stored.count)
RowsLeft row_rule rule bytes stored at lent store (refused number k) out' store' =
    (k < stored.count) × RowsRead row_rule rule bytes stored at store k lent out' × FaultBy number store' (row_at row_rule bytes stored.long at store k)

-- the row store keeps its length, and everything beyond the 4w bytes of a row
pub record StoreLeft (long : ℕ) (lent store : List ℕ) : Type 0 where
  pub size : length store ≡ length lent
  pub beyond : drop (4 * long) store ≡ drop (4 * long) lent

-- ---- The whole reader

-- what the rows of a file whose header says `head` leave, of the output and the row store that are lent
pub record FrameLeft (row_rule : RowRule) (rule : SampleRule) (bytes : List ℕ) (head : Head) (out : List Float) (store : List ℕ) (left : Left) : Type 0 where
  pub rows : RowsLeft row_rule rule bytes (stored_of head) head.taken out (cleared (stored_of head).long store) left.0 left.1 left.2
  pub row_store : StoreLeft (stored_of head).long store left.2

-- the header's checks and 6 to 8
abbrev pub early_checks : Reading → List ℕ → ℕ → ℕ → List Float → List ℕ → List Check
early_checks reading bytes widest highest out store = head_checks reading bytes widest highest ++ frame_checks (head_in reading bytes) out store

-- "All refusals but 9 change no lent memory", and 14 and 25, which leave it as 9 does: where one of these checks fails, output and row store are as lent; where none does, they are as the rows leave them
pub record ReadLeft (reading : Reading) (row_rule : RowRule) (rule : SampleRule) (bytes : List ℕ) (widest highest : ℕ) (out : List Float) (store : List ℕ) : Type 0 where
  pub early : (n : ℕ) → FirstFails n (early_checks reading bytes widest highest out store) → read_by reading row_rule rule bytes widest highest out store ≡ (refuse n, out, store)
  pub later : ((n : ℕ) → FirstFails n (early_checks reading bytes widest highest out store) → ⊥)
      → (left : Left) × (read_by reading row_rule rule bytes widest highest out store ≡ framed (head_in reading bytes) left) × FrameLeft row_rule rule bytes (head_in reading bytes) out store left
