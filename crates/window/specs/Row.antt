-- A row of a file of which a part is at hand.
use Prim.{Unit}
use Rattle.std.specs.Prelude.{ℕ, ◌+◌, ◌≤◌, Bool, true, false, ◌&&◌, List, [], ◌≡◌, length, leb, eqb, Option, Some, None, Ok, Err}
use Rattle.steps.specs.Loop.{pick}
use Rattle.steps.specs.declared.Reading.{Reading}
use Rattle.rows_read.specs.Row.{RowRule, row_of}
use Rattle.steps.specs.Answer.{Taken}
use Rattle.steps.specs.Refusal.{reason_number}

-- Where the file goes on after the part, bytes that the row misses there may be in the rest, and so may bytes of a row that ends with the part.
unfoldable pub row_part : Bool → ℕ → Taken → Option Taken
row_part more n (Ok next) = pick (more && leb n next) None (Some (Ok next))
row_part more n (Err reason) = pick (more && eqb (reason_number reason) 9) None (Some (Err reason))

-- the row from a place of the part on, by any rule: what the part says of it, and the row store afterwards
unfoldable pub part_by : RowRule → List ℕ → Bool → ℕ → List ℕ → ℕ → Option Taken × List ℕ
part_by rule part more at store width = let read = rule part at store width in (row_part more (length part) read.0, read.1)

-- `window::read_row`: its answer, and the row store afterwards
abbrev pub RowPromise : Reading → List ℕ → Bool → ℕ → List ℕ → ℕ → Option Taken → List ℕ → Type 0
RowPromise reading part more at store width answer store' = (answer, store') ≡ part_by (row_of reading) part more at store width

-- the next place lies in a part of n bytes
abbrev pub RowWithin : ℕ → Option Taken → Type 0
RowWithin n (Some (Ok next)) = next ≤ n
RowWithin n (Some (Err reason)) = Unit {0}
RowWithin n None = Unit {0}

-- ---- What a part says of a row holds of the file

-- the file goes on after the part by `rest`, or ends with it
abbrev pub Goes : Bool → List ℕ → Type 0
Goes true rest = Unit {0}
Goes false rest = rest ≡ []

-- what the file says, where n of its bytes come before the part: the same, n places later; nothing is claimed of a row that needs more than the part
abbrev pub OfFile : ℕ → Option Taken → List ℕ → Taken × List ℕ → Type 0
OfFile n (Some (Ok next)) store whole = whole ≡ (Ok (n + next), store)
OfFile n (Some (Err reason)) store whole = whole ≡ (Err reason, store)
OfFile n None store whole = Unit {0}
