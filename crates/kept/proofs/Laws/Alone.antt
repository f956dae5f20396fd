-- Bytes behind those taken change nothing, by any rule for rows of which that holds at one row; by either reading.
use Prim.Native.Nat.{ℕ, ◌+◌, ◌<◌, ◌≤◌}
use mathlib.Core.List.{List, ◌++◌}
use mathlib.Core.Path.{◌≡◌, refl, sym, ap, subst, ◌∙◌}
use native.Mathlib.Omega.{arith}
use borrow.Author.Tests.{le-ltb, ltb-false, eqb-false}
use lib.Ieee.{Float}
use lib.ListN.{length, take, drop, take-append-drop}
use lib.Seq.{length-take-le}
use mathlib.Core.Bool.{Bool, true, false}
use Rattle.steps.specs.Loop.{pick, Turn, more, halt, run}
use Rattle.steps.specs.Answer.{Answer, done, refused}
use Rattle.steps.proofs.Laws.Turns.{Leads, run_keeps}
use Rattle.steps.proofs.Laws.Machines.{more_halt, halted, same_run}
use Rattle.steps.specs.Answer.{Taken}
use Rattle.std.specs.Prelude.{Ok, Err}
use Rattle.steps.specs.Refusal.{reason_number}
use Rattle.header.specs.declared.Head.{Head}
use Rattle.header.specs.Head.{fields_of, header_of}
use Rattle.header.proofs.Laws.Head.{header_taken, header_within}
use Rattle.words.proofs.Laws.Rest.{Inside}
use Rattle.header.proofs.Laws.Rest.{header_rest}
use Rattle.steps.specs.declared.Reading.{Reading}
use Rattle.steps.specs.declared.Reading.TheVariants.{Crate, Document}
use Rattle.rows_read.specs.Row.{RowRule, row_of}
use Rattle.rows_read.specs.Middle.{Alike, Rests, Alone}
use Rattle.rows_read.proofs.Laws.Alike.{Near, near_or, NonePast}
use Rattle.rows_read.proofs.Laws.Behind.{reading_alone, reading_past, document_first}
use Rattle.rows_read.proofs.Laws.Bounds.{reading_sound}
use Rattle.reader.specs.Samples.{SampleRule}
use Rattle.places.specs.Places.{Stored}
use Rattle.reader.specs.Frame.{stored_of, cleared, step_of, Rows, rows, Left, row_turn, no_rows, rows_of}
use Rattle.reader.specs.Read.{pixel_by, read_by}
use Rattle.reader.proofs.Laws.Frame.{faulted, went_on, rows_cases}
use Rattle.kept.specs.Alone.{TakenAlone}
use Rattle.kept.specs.Lent.{before, RowsLeft}
use Rattle.kept.proofs.Laws.Done.{rows_by, FileRead, file_read, read_file}
use Rattle.kept.proofs.Laws.Lent.{stored_apart, stored_inside, rows_left}
use Rattle.kept.proofs.Laws.Starts.{start_within}

-- the rows' answer rests on the first n bytes of `long`: as at one row
abbrev pub Firm : ℕ → ℕ → ℕ → Answer ℕ → Type 0
Firm gap long n (done p) = Near gap long n p
Firm gap long n (refused number row) = (number ≡ 9 → ⊥) × (long ≤ n)

-- ---- The rows

module _ (gap : ℕ) (row_rule : RowRule) (rule : SampleRule) (past : NonePast gap row_rule) (bytes : List ℕ) (n : ℕ) (stored : Stored) where
  -- past the places near enough no turn leads to such an answer
  rows_past : (k : ℕ) (x : Rows) → (Near gap (length bytes) n x.at → ⊥) → Firm gap (length bytes) n (run (row_turn row_rule rule bytes stored) no_rows k x).0 → ⊥
  rows_past k x h = run_keeps (row_turn row_rule rule bytes stored) no_rows P Q step (λ y p f. f.0 refl) k x h
    where
      P : Rows → Type 0
      P y = Near gap (length bytes) n y.at → ⊥

      Q : Left → Type 0
      Q a = Firm gap (length bytes) n a.0 → ⊥

      row : (y : Rows) (t : Taken) (s : List ℕ) → P y → (t, s) ≡ row_rule bytes y.at y.store stored.long → Rests gap (length bytes) n t → ⊥
      row y t s p e f = past bytes n y.at y.store stored.long p (subst (λ (z : Taken × List ℕ). Rests gap (length bytes) n z.0) e f)

      step : (y : Rows) → P y → Leads P Q (row_turn row_rule rule bytes stored y)
      step y p =
          rows_cases row_rule rule bytes stored y (Leads P Q)
          (λ next o s h e. row y (Ok next) s p (went_on row_rule rule stored.long (stored.place y.row) bytes y.at y.out o y.store s next e).0)
          (λ reason o s h e f. row y (Err reason) s p (faulted row_rule rule stored.long (stored.place y.row) bytes y.at y.out o y.store s reason e).0 (λ k. f.0 (ap reason_number k), f.1))
          (λ h f. p f)

  rows_of_past : (at : ℕ) (out : List Float) (store : List ℕ) → (Near gap (length bytes) n at → ⊥) → Firm gap (length bytes) n (rows_of row_rule rule bytes stored at out store).0 → ⊥
  unfolding rows_of
  rows_of_past at out store h = rows_past (stored.count + 1) (rows at 0 store out) h

module _ (gap : ℕ) (row_rule : RowRule) (rule : SampleRule) (alone : Alone gap row_rule) (past : NonePast gap row_rule) (bytes other : List ℕ) (n : ℕ) (alike : Alike n bytes other) (stored : Stored) where
  -- a turn whose row rests on those bytes
  turn_same : (x : Rows) (t : Taken) (s : List ℕ) → (t, s) ≡ row_rule bytes x.at x.store stored.long → Rests gap (length bytes) n t → row_turn row_rule rule other stored x ≡ row_turn row_rule rule bytes stored x
  unfolding row_turn step_of
  turn_same x t s e f = rw (alone bytes other n x.at x.store stored.long alike (subst (λ (z : Taken × List ℕ). Rests gap (length bytes) n z.0) e f))

  turn_over : (x : Rows) → stored.count ≤ x.row → row_turn row_rule rule other stored x ≡ row_turn row_rule rule bytes stored x
  unfolding row_turn
  turn_over x h = simp (le-ltb x.row stored.count h)

  rows_on : (x t : Rows) → row_turn row_rule rule bytes stored x ≡ more t → Near gap (length bytes) n t.at → row_turn row_rule rule other stored x ≡ more t
  rows_on x t e near =
      rows_cases row_rule rule bytes stored x (λ (z : Turn Rows Left). z ≡ more t → row_turn row_rule rule other stored x ≡ more t)
      (λ next o s l f k.
      let u : rows next (x.row + 1) s o ≡ t = cc in
      turn_same x (Ok next) s (went_on row_rule rule stored.long (stored.place x.row) bytes x.at x.out o x.store s next f).0
      (subst (λ (y : Rows). Near gap (length bytes) n y.at) (sym u) near) ∙ e)
      (λ reason o s l f k. more_halt t _ (sym k))
      (λ l k. more_halt t _ (sym k)) e

  rows_end : (x : Rows) (a : Left) → Firm gap (length bytes) n a.0 → row_turn row_rule rule bytes stored x ≡ halt a → row_turn row_rule rule other stored x ≡ halt a
  rows_end x a firm e =
      rows_cases row_rule rule bytes stored x (λ (z : Turn Rows Left). z ≡ halt a → row_turn row_rule rule other stored x ≡ halt a)
      (λ next o s l f k. more_halt _ _ k)
      (λ reason o s l f k.
      let holds = subst (λ (z : Left). Firm gap (length bytes) n z.0) (sym (halted k)) firm in
      turn_same x (Err reason) s (faulted row_rule rule stored.long (stored.place x.row) bytes x.at x.out o x.store s reason f).0 (λ r. holds.0 (ap reason_number r), holds.1) ∙ e)
      (λ l k. turn_over x l ∙ e) e

  pub rows_alone : (at : ℕ) (out : List Float) (store : List ℕ) → Firm gap (length bytes) n (rows_of row_rule rule bytes stored at out store).0
      → rows_of row_rule rule other stored at out store ≡ rows_of row_rule rule bytes stored at out store
  unfolding rows_of
  rows_alone at out store firm =
      let a = rows_of row_rule rule bytes stored at out store in
      same_run (row_turn row_rule rule bytes stored) (row_turn row_rule rule other stored) no_rows no_rows a (λ (x : Rows). Near gap (length bytes) n x.at)
      (λ x k. (subst (λ (z : Left). Firm gap (length bytes) n z.0) (sym k) firm).0 refl)
      (λ k x r. near_or gap (length bytes) n x.at (λ near. near) (λ far. absurd (rows_past gap row_rule rule past bytes n stored k x far (subst (λ (z : Left). Firm gap (length bytes) n z.0) (sym r) firm))))
      rows_on
      (λ x. rows_end x a firm)
      _ _ _ (omega arith) refl

-- ---- The whole file

-- a header that ends among the first n bytes, and before the end of all
pub header_alone : (reading : Reading) (bytes other : List ℕ) (n widest highest : ℕ) (head : Head) → Alike n bytes other → header_of reading bytes widest highest ≡ done head → Near 1 (length bytes) n head.taken
    → header_of reading other widest highest ≡ done head
header_alone reading bytes other n widest highest head alike e near =
    let parted : take n bytes ++ drop n bytes ≡ bytes = take-append-drop n bytes in
    let end : (fields_of (take n bytes ++ drop n bytes)).taken ≡ head.taken = rw parted (header_taken reading bytes widest highest head e) in
    let size : length (take n bytes) ≡ n = length-take-le n bytes alike.0 in
    let inside : Inside (fields_of (take n bytes ++ drop n bytes)).taken (take n bytes) (drop n bytes) = (omega (arith, near.0), rw parted (omega (arith, near.1, header_taken reading bytes widest highest head e))) in
    let again : take n bytes ++ drop n other ≡ other = rw (← alike.2) (take-append-drop n other) in
    ap (λ (l : List ℕ). header_of reading l widest highest) (sym again) ∙ header_rest (take n bytes) (drop n bytes) (drop n other) reading widest highest inside ∙ rw parted e

module _ (gap : ℕ) (reading : Reading) (row_rule : RowRule) (rule : SampleRule) (alone : Alone gap row_rule) (past : NonePast gap row_rule) (bytes other : List ℕ) (widest highest : ℕ)
    (out out' : List Float) (store store' : List ℕ) (head : Head) where
  -- `gap` bytes stand behind those taken, and one behind the header
  pub taken_alone_by : (f : FileRead reading row_rule rule bytes widest highest out store head out' store') → head.taken + gap ≤ length bytes → f.own.taken < length bytes
      → Alike head.taken bytes other → read_by reading row_rule rule other widest highest out store ≡ (done head, out', store')
  taken_alone_by f behind begun alike =
      let h = f.own in
      let n : ℕ = head.taken in
      let cleared = cleared (stored_of h).long store in
      let firm : Firm gap (length bytes) n (rows_by reading row_rule rule bytes widest highest out store h).0 = subst (λ (z : Left). Firm gap (length bytes) n z.0) (sym f.rows) (omega arith, behind) in
      let near = near_or gap (length bytes) n h.taken (λ near. near) (λ far. absurd (rows_of_past gap row_rule rule past bytes n (stored_of h) h.taken out cleared far firm)) in
      read_file reading row_rule rule other widest highest out store head out' store' (record {
        own = h;
        header = header_alone reading bytes other n widest highest h alike f.header (near.0, omega arith);
        checks = f.checks;
        rows = rows_alone gap row_rule rule alone past bytes other n alike (stored_of h) h.taken out cleared firm ∙ f.rows;
        said = f.said;
      })

-- ---- Either reading

module _ (reading : Reading) (bytes : List ℕ) (widest highest : ℕ) (out out' : List Float) (store store' : List ℕ) (head : Head)
    (f : FileRead reading (row_of reading) (pixel_by reading) bytes widest highest out store head out' store') where
  abbrev own : Head
  own = f.own

  pub rows_there : RowsLeft (row_of reading) (pixel_by reading) bytes (stored_of own) own.taken out (cleared (stored_of own).long store) (done head.taken) out' store'
  rows_there =
      let room = ltb-false (length out) _ f.checks.0 in
      subst (λ (z : Left). RowsLeft (row_of reading) (pixel_by reading) bytes (stored_of own) own.taken out (cleared (stored_of own).long store) z.0 z.1 z.2) f.rows
      (rows_left (row_of reading) (pixel_by reading) bytes (stored_of own) own.taken (cleared (stored_of own).long store) (stored_apart own) out (stored_inside own (length out) room))

  -- all bytes that are taken are there, the header's first
  pub taken_there : (own.taken ≤ head.taken) × (head.taken ≤ length bytes)
  taken_there =
      let last = start_within (row_of reading) (reading_sound reading) bytes (stored_of own).long own.taken (cleared (stored_of own).long store) (header_within reading bytes widest highest own f.header) (stored_of own).count in
      let is : head.taken ≡ (before (row_of reading) bytes (stored_of own).long own.taken (cleared (stored_of own).long store) (stored_of own).count).0 = ap (λ (z : ℕ × List ℕ). z.0) rows_there.1 in
      (omega arith, omega arith)

-- where there are pixels, there are stored rows, and they have some
pub stored_some : (columns : Bool) (width height : ℕ) → 0 < width → 0 < height → (0 < pick columns height width) × (0 < pick columns width height)
stored_some true width height h k = (k, h)
stored_some false width height h k = (h, k)

-- by the document reading a row takes bytes
pub rows_begun : (bytes : List ℕ) (widest highest : ℕ) (out out' : List Float) (store store' : List ℕ) (head : Head)
    → (f : FileRead Document (row_of Document) (pixel_by Document) bytes widest highest out store head out' store') → 0 < f.own.height → f.own.taken < length bytes
unfolding before
rows_begun bytes widest highest out out' store store' head f high =
    let own = f.own in
    let some : 0 < own.width = omega (arith, eqb-false own.width 0 f.checks.1.0) in
    let rows = stored_some own.orientation.columns own.width own.height some high in
    let first = (rows_there Document bytes widest highest out out' store store' head f).0.read 0 rows.1 in
    let end = start_within (row_of Document) (reading_sound Document) bytes (stored_of own).long own.taken (cleared (stored_of own).long store) (header_within Document bytes widest highest own f.header) 1 in
    omega (arith, document_first bytes own.taken (cleared (stored_of own).long store) (stored_of own).long _ rows.0 end.1 first)

pub taken_alone : (reading : Reading) → TakenAlone reading
taken_alone Crate bytes other widest highest out out' store store' head e seen alike =
    let f = file_read Crate (row_of Crate) (pixel_by Crate) bytes widest highest out store head out' store' e in
    let there = taken_there Crate bytes widest highest out out' store store' head f in
    taken_alone_by 1 Crate (row_of Crate) (pixel_by Crate) (reading_alone Crate) (reading_past Crate) bytes other widest highest out out' store store' head f (omega arith) (omega arith) alike
taken_alone Document bytes other widest highest out out' store store' head e seen alike =
    let f = file_read Document (row_of Document) (pixel_by Document) bytes widest highest out store head out' store' e in
    let there = taken_there Document bytes widest highest out out' store store' head f in
    let high : 0 < f.own.height = omega (arith, ap (λ (x : Head). x.height) f.said) in
    taken_alone_by 0 Document (row_of Document) (pixel_by Document) (reading_alone Document) (reading_past Document) bytes other widest highest out out' store store' head f (omega arith)
    (rows_begun bytes widest highest out out' store store' head f high) alike
