-- The laws that proofs use of `specs/Read.antt`, over any rules.
use Prim.Native.Nat.{ℕ, ◌+◌, ◌-◌, ◌*◌, ◌^◌, ◌<◌, ◌≤◌}
use mathlib.Core.Path.{◌≡◌, sym, ap, ◌∙◌}
use native.Mathlib.Omega.{arith}
use borrow.Author.Tests.{lt-ltb, le-ltb, eq-eqb, ne_eqb}
use mathlib.Core.List.{List}
use lib.ListN.{length}
use lib.Ieee.{Float}
use Rattle.steps.specs.Answer.{Answer, done, refused, refuse, paper_of, checked}
use Rattle.std.specs.Option.{SomeIff}
use Rattle.steps.specs.Amount.{amount_of}
use Rattle.steps.proofs.Laws.Loop.{Runs}
use Rattle.steps.specs.declared.refusal.Refusal.{Refusal}
use Rattle.steps.proofs.Laws.Answer.{passed, pass, failed, checked_append, one_answer}
use Rattle.header.specs.Head.{HeaderPromise, header_of, head_checks, head_in, taking}
use Rattle.header.specs.declared.Head.{Head}
use Rattle.header.proofs.Laws.Head.{header_limits}
use Rattle.steps.specs.declared.Reading.{Reading}
use Rattle.places.specs.declared.Line.{Line}
use Rattle.words.specs.declared.axes.Orientation.{Orientation}
use Rattle.places.specs.Places.{Stored, long_of, count_of, place_of, stored_by}
use Rattle.places.specs.Inner.{line_at, line_of}
use Rattle.places.proofs.Laws.Places.{line_place}
use Rattle.rows_read.specs.Row.{RowRule, row_of, RowFault}
use Rattle.rows_read.proofs.Laws.Faults.{reading_faults}
use Rattle.steps.specs.Answer.{Taken}
use Rattle.std.specs.Prelude.{Result, Ok, Err, Option, None}
use Rattle.steps.specs.Refusal.{reason_number}
use Rattle.steps.specs.declared.refusal.Reason.{Reason}
use Rattle.reader.specs.Samples.{SampleRule}
use Rattle.reader.specs.Frame.{stored_of, cleared, step_of, Left, rows, row_turn, no_rows, rows_of}
use Rattle.reader.specs.Read.{pixel_by, framed, read_by, ReadPromiseBy, ReadPromise}
use Rattle.reader.specs.Inner.{frame_answer}
use Rattle.reader.proofs.Laws.Frame.{step_same, rows_done, rows_fault, rows_again, rows_faults}
use Rattle.steps.proofs.Laws.Amount.{amount_by, amount_passes}

-- ---- The rows of a file whose header says `head`

-- one stored row more
module _ (row_rule : RowRule) (rule : SampleRule) (bytes : List ℕ) (o : Orientation) (width height p row : ℕ) (store : List ℕ) (out : List Float) (a : Left)
    (r : Runs (row_turn row_rule rule bytes (stored_by o width height)) no_rows (count_of o width height - row) (rows p row store out) a) (count : ℕ) (many : count ≡ count_of o width height)
    (line : Line) (lies : line ≡ line_of o width height row) (h : row < count) (t : Taken) (out' : List Float) (store' : List ℕ)
    (long : ℕ) (wide : long ≡ long_of o width height) (e : (t, out', store') ≡ step_of row_rule rule long (line_at line) bytes p out store) where
  there : (t, out', store') ≡ step_of row_rule rule (long_of o width height) (place_of o width height row) bytes p out store
  there =
      e ∙ ap (λ (n : ℕ). step_of row_rule rule n (line_at line) bytes p out store) wide
      ∙ step_same row_rule rule (long_of o width height) (line_at line) (place_of o width height row) bytes p out store
      (λ i l. ap (λ (x : Line). line_at x i) lies ∙ line_place o width height row i l)

  before_last : row < count_of o width height
  before_last = rw many at h

  pub frame_fault : (head : Head) (reason : Reason) → t ≡ Err reason → (refused (reason_number reason) row, out', store') ≡ framed head a
  frame_fault head reason k = ap (framed head) (rows_fault row_rule rule bytes (stored_by o width height) p row store out a r before_last t out' store' there reason k)

  pub frame_again : (at : ℕ) → t ≡ Ok at → Runs (row_turn row_rule rule bytes (stored_by o width height)) no_rows (count_of o width height - (row + 1)) (rows at (row + 1) store' out') a
  frame_again at k = rows_again row_rule rule bytes (stored_by o width height) p row store out a r before_last t out' store' there at k

-- the last
pub frame_done : (row_rule : RowRule) (rule : SampleRule) (bytes : List ℕ) (head : Head) (p row : ℕ) (store : List ℕ) (out : List Float) (a : Left)
    → Runs (row_turn row_rule rule bytes (stored_of head)) no_rows ((stored_of head).count - row) (rows p row store out) a → (count : ℕ) → count ≡ (stored_of head).count
    → (x : Head) → count ≤ row → x ≡ taking head p → (done x, out, store) ≡ framed head a
frame_done row_rule rule bytes head p row store out a r count many x h e = rw e (ap (framed head) (rows_done row_rule rule bytes (stored_of head) p row store out a r (rw many at h)))

-- the numbers by which a reading's rows are refused
pub rows_number : (reading : Reading) (rule : SampleRule) (bytes : List ℕ) (stored : Stored) (at : ℕ) (out : List Float) (store : List ℕ) (number row : ℕ)
    → (rows_of (row_of reading) rule bytes stored at out store).0 ≡ refused number row → RowFault reading number
rows_number reading rule bytes stored at out store number row e =
    rows_faults (row_of reading) rule bytes stored (RowFault reading) (λ at s n s' f. reading_faults reading bytes at s stored.long n s' f) at out store number row e

-- ---- How many samples a frame has: where the area passes 2^64 - 1, so does three times the area

pub samples_none : (width height : ℕ) → (width * height < 2 ^ 64 → ⊥) → None ≡ amount_of (width * height * 3)
samples_none width height h = amount_passes (width * height) (width * height * 3) h (omega arith)

pub samples_number : (width height n : ℕ) (a : Option ℕ) → n ≡ width * height → SomeIff a (n * 3 < 2 ^ 64) (n * 3) → a ≡ amount_of (width * height * 3)
samples_number width height n a e h = rw (← e) (amount_by (n * 3) a h)

-- ---- The checks 6 to 8

module _ (row_rule : RowRule) (rule : SampleRule) (bytes : List ℕ) (head : Head) (out : List Float) (store : List ℕ) where
  pub frame_short_out : (r : Answer Head) → length out < head.height * (3 * head.width) → r ≡ refuse 6 → (r, out, store) ≡ frame_answer row_rule rule bytes head out store
  unfolding frame_answer
  frame_short_out r h e = rw e (simp (lt-ltb (length out) (head.height * (3 * head.width)) h))

  module _ (h6 : head.height * (3 * head.width) ≤ length out) where
    pub frame_no_width : (r : Answer Head) → head.width ≡ 0 → r ≡ refuse 7 → (r, out, store) ≡ frame_answer row_rule rule bytes head out store
    unfolding frame_answer
    frame_no_width r h e = rw e (simp (le-ltb (length out) (head.height * (3 * head.width)) h6, eq-eqb head.width 0 h))

    module _ (h7 : head.width ≡ 0 → ⊥) (long : ℕ) (wide : long ≡ (stored_of head).long) where
      pub frame_short_store : (r : Answer Head) → length store < 4 * long → r ≡ refuse 8 → (r, out, store) ≡ frame_answer row_rule rule bytes head out store
      unfolding frame_answer
      frame_short_store r h e =
          let short : length store < 4 * (stored_of head).long = rw wide at h in
          rw e (simp (le-ltb (length out) (head.height * (3 * head.width)) h6, ne_eqb head.width 0 h7, lt-ltb (length store) (4 * (stored_of head).long) short))

      pub frame_rows : (store' : List ℕ) (a : Answer Head × List Float × List ℕ) → 4 * long ≤ length store → store' ≡ cleared long store
          → a ≡ framed head (rows_of row_rule rule bytes (stored_of head) head.taken out store') → a ≡ frame_answer row_rule rule bytes head out store
      unfolding frame_answer
      frame_rows store' a h es e =
          let room : 4 * (stored_of head).long ≤ length store = rw wide at h in
          e ∙ rw (es, wide) (simp (le-ltb (length out) (head.height * (3 * head.width)) h6, ne_eqb head.width 0 h7, le-ltb (length store) (4 * (stored_of head).long) room))

-- ---- The whole file, from what its header says

module _ (reading : Reading) (row_rule : RowRule) (rule : SampleRule) (bytes : List ℕ) (widest highest : ℕ) (out : List Float) (store : List ℕ) (told : Answer Head) (is : told ≡ header_of reading bytes widest highest) where
  split : read_by reading row_rule rule bytes widest highest out store
      ≡ checked (λ n. (refuse n, out, store)) (head_checks reading bytes widest highest) (frame_answer row_rule rule bytes (head_in reading bytes) out store)
  unfolding read_by frame_answer
  split = checked_append (λ n. (refuse n, out, store)) (head_checks reading bytes widest highest) _ _

  pub read_refused : (number place : ℕ) → told ≡ refused number place → (refused number place, out, store) ≡ read_by reading row_rule rule bytes widest highest out store
  unfolding header_of
  read_refused number place k =
      let both = failed (λ n. (refuse n, out, store)) (head_checks reading bytes widest highest) (head_in reading bytes) (frame_answer row_rule rule bytes (head_in reading bytes) out store)
      number place (sym is ∙ k) in
      ap (λ (p : ℕ). (refused number p, out, store)) both.0 ∙ sym (split ∙ both.1)

  pub read_frame : (head : Head) (a : Answer Head × List Float × List ℕ) → told ≡ done head → a ≡ frame_answer row_rule rule bytes head out store
      → a ≡ read_by reading row_rule rule bytes widest highest out store
  unfolding header_of
  read_frame head a k e =
      let both = passed (head_checks reading bytes widest highest) (head_in reading bytes) head (sym is ∙ k) in
      e ∙ ap (λ (x : Head). frame_answer row_rule rule bytes x out store) (sym both.1) ∙ sym (split ∙ pass (λ n. (refuse n, out, store)) (head_checks reading bytes widest highest) _ both.0)

pub read_limits : (reading : Reading) (bytes : List ℕ) (widest highest : ℕ) (told : Result Head Refusal) (head : Head) → HeaderPromise reading bytes widest highest told → told ≡ Ok head
    → (head.width ≤ 65535) × (head.height ≤ 65535)
read_limits reading bytes widest highest told head is k = header_limits reading bytes widest highest head (sym is ∙ ap paper_of k)

-- ---- One answer

-- two answers that meet the promise of a reader by the same reading and rules are equal
pub read_once_by : (reading : Reading) (row_rule : RowRule) (rule : SampleRule) (bytes : List ℕ) (widest highest : ℕ) (out : List Float) (store : List ℕ) (a b : Result Head Refusal) (o o' : List Float) (s s' : List ℕ)
    → ReadPromiseBy reading row_rule rule bytes widest highest out store a o s → ReadPromiseBy reading row_rule rule bytes widest highest out store b o' s' → (a ≡ b) × (o ≡ o') × (s ≡ s')
read_once_by reading row_rule rule bytes widest highest out store a b o o' s s' p q =
    let e = p ∙ sym q in
    (one_answer a b (ap (λ (z : Answer Head × List Float × List ℕ). z.0) e), ap (λ (z : Answer Head × List Float × List ℕ). z.1) e, ap (λ (z : Answer Head × List Float × List ℕ). z.2) e)

pub read_once : (reading : Reading) (bytes : List ℕ) (widest highest : ℕ) (out : List Float) (store : List ℕ) (a b : Result Head Refusal) (o o' : List Float) (s s' : List ℕ)
    → ReadPromise reading bytes widest highest out store a o s → ReadPromise reading bytes widest highest out store b o' s' → (a ≡ b) × (o ≡ o') × (s ≡ s')
read_once reading = read_once_by reading (row_of reading) (pixel_by reading)
