-- The rows of a frame, one after another, by a rule for one row and a rule for one pixel.
use Rattle.std.specs.Prelude.{ℕ, ◌+◌, ◌*◌, true, false, List, replicate, ltb, Float}
use Rattle.steps.specs.Loop.{pick, Turn, more, halt, run}
use Rattle.steps.specs.Place.{spread}
use Rattle.steps.specs.Answer.{Answer, done, refused, Check, check}
use Rattle.steps.specs.Answer.{Taken}
use Rattle.std.specs.Prelude.{Ok, Err}
use Rattle.steps.specs.Refusal.{reason_number}
use Rattle.places.specs.Places.{Stored, stored_by}
use Rattle.header.specs.declared.Head.{Head}
use Rattle.rows_read.specs.Row.{RowRule}
use Rattle.reader.specs.Samples.{SampleRule, placed}

-- the rows as a file stores them, whose header says this
abbrev pub stored_of : Head → Stored
stored_of head = stored_by head.orientation head.width head.height

-- "the first 4w bytes of the row store are set to 0, once", for stored rows of w
abbrev pub cleared : ℕ → List ℕ → List ℕ
cleared long store = spread 1 store 0 (replicate (4 * long) 0)

-- ---- One step: one stored row

-- a row that was read goes to its places in the output; one at fault leaves the output as it was
abbrev pub stepped : SampleRule → ℕ → (ℕ → ℕ) → List Float → Taken → List ℕ → Taken × List Float × List ℕ
stepped rule long place out (Ok next) store = (Ok next, placed rule place store 0 long out, store)
stepped rule long place out (Err reason) store = (Err reason, out, store)

-- of a row of so many pixels with these places in the frame, the input, a place in it, the output and the row store:
-- the next place in the input, or why the row is at fault; the output; the row store
unfoldable pub step_of : RowRule → SampleRule → ℕ → (ℕ → ℕ) → List ℕ → ℕ → List Float → List ℕ → Taken × List Float × List ℕ
step_of row_rule rule long place bytes at out store = let read = row_rule bytes at store long in stepped rule long place out read.0 read.1

-- ---- The rows

-- how far the rows are: the next place in the input, the next row, the row store and the output
pub record Rows : Type 0 where
  pub at : ℕ
  pub row : ℕ
  pub store : List ℕ
  pub out : List Float

abbrev pub rows : ℕ → ℕ → List ℕ → List Float → Rows
rows at row store out = record { at = at; row = row; store = store; out = out }

-- the place after the last row, or a refusal with its row; the output; the row store
abbrev pub Left : Type 0
Left = Answer ℕ × List Float × List ℕ

-- refusal in row k "leaves rows 0 to k-1 in the output and the rest as lent; the row store is as the steps left it"
abbrev pub after_step : ℕ → Taken → List Float → List ℕ → Turn Rows Left
after_step row (Ok at) out store = more (rows at (row + 1) store out)
after_step row (Err reason) out store = halt (refused (reason_number reason) row, out, store)

unfoldable pub row_turn : RowRule → SampleRule → List ℕ → Stored → Rows → Turn Rows Left
row_turn row_rule rule bytes stored x =
    let step = step_of row_rule rule stored.long (stored.place x.row) bytes x.at x.out x.store in
    pick (ltb x.row stored.count) (after_step x.row step.0 step.1 step.2) (halt (done x.at, x.out, x.store))

-- where the turns are used up, which never happens
abbrev pub no_rows : Rows → Left
no_rows x = (refused 9 x.row, x.out, x.store)

-- the rows from a place of the input on. Each turn but the last is a row, so the turns never run out
unfoldable pub rows_of : RowRule → SampleRule → List ℕ → Stored → ℕ → List Float → List ℕ → Left
rows_of row_rule rule bytes stored at out store = run (row_turn row_rule rule bytes stored) no_rows (stored.count + 1) (rows at 0 store out)

-- the rows as a check: where one is at fault it fails, by the number that the row gave
abbrev pub fault_of : Answer ℕ → Check
fault_of (done at) = check 0 false
fault_of (refused number row) = check number true
